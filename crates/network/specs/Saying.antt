-- What a station sends on hearing a message, from how it was before and how it is after.
use Rattle.std.specs.Prelude.{ℕ, Bool, true, false, cond, not, ◌&&◌, List, [], ◌∷◌}
use Rattle.network.specs.declared.content.Content.{Content}
use Rattle.network.specs.declared.content.Content.TheVariants.{Enter, EnterEcho, Joined, JoinedEcho, Leave, LeaveEcho, Query, Response, Update, Ack, UpdateEcho}
use Rattle.network.specs.declared.letter.Letter.{Letter}
use Rattle.network.specs.declared.letter.Speech.{Speech}
use Rattle.network.specs.declared.letter.Speech.TheVariants.{Silent, One, Two}
use Rattle.network.specs.declared.letter.To.TheVariants.{All, Only}
use Rattle.network.specs.declared.operation.Operation.{Operation}
use Rattle.network.specs.declared.operation.Operation.TheVariants.{Idle, PhaseOne, PhaseTwo}
use Rattle.network.specs.declared.station.Station.{Station}
use Rattle.network.specs.Knowing.{Set}

-- the letters of a speech, in the order in which they are sent
abbrev pub letters : {R S : Type 0} → Speech R S → List (Letter R S)
letters Silent = []
letters (One a) = a ∷ []
letters (Two a b) = a ∷ b ∷ []

abbrev pub to_all : {R S : Type 0} → Content R S → Letter R S
to_all m = record { to = All; content = m }

abbrev pub to_only : {R S : Type 0} → ℕ → Content R S → Letter R S
to_only p m = record { to = Only p; content = m }

-- whether an operation went from phase one to phase two
abbrev pub began_two : {R : Type 0} → Operation R → Operation R → Bool
began_two (PhaseOne t a) (PhaseTwo k c v) = true
began_two (PhaseOne t a) (PhaseOne u c) = false
began_two (PhaseOne t a) (Idle c) = false
began_two (Idle a) o = false
began_two (PhaseTwo k a v) o = false

module _ {R : Type 0} where
  -- what station `me` says: x before, y after it has heard
  unfoldable pub says : ℕ → Content R Set → Station R Set → Station R Set → Speech R Set
  says me (Enter p) x y = One (to_all (EnterEcho y.known y.register y.joined p))
  says me (EnterEcho known offer f p) x y = cond (y.joined && not x.joined) (One (to_all (Joined me))) Silent
  says me (Joined p) x y = One (to_all (JoinedEcho p))
  says me (JoinedEcho p) x y = Silent
  says me (Leave p) x y = One (to_all (LeaveEcho p))
  says me (LeaveEcho p) x y = Silent
  says me (Query p tag) x y = cond y.joined (One (to_only p (Response y.register tag))) Silent
  says me (Response offer tag) x y = cond (began_two x.operation y.operation) (One (to_all (Update y.register tag me))) Silent
  says me (Update offer tag p) x y =
      cond y.joined (Two (to_only p (Ack tag)) (to_all (UpdateEcho y.register))) (One (to_all (UpdateEcho y.register)))
  says me (Ack tag) x y = Silent
  says me (UpdateEcho offer) x y = Silent
