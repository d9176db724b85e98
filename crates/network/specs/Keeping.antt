-- A station: how it is at the start and at its entry, and a station with one part changed.
use Rattle.std.specs.Prelude.{ℕ, Bool, true, false, not, ◌&&◌, None, Option, nat_lt}
use Rattle.stations.specs.Members.{nobody}
use Rattle.network.specs.declared.known.Known.{Known}
use Rattle.network.specs.declared.operation.Operation.{Operation}
use Rattle.network.specs.declared.operation.Operation.TheVariants.{Idle, PhaseOne, PhaseTwo}
use Rattle.network.specs.declared.register.Register.{Register}
use Rattle.network.specs.declared.station.Life.{Life}
use Rattle.network.specs.declared.station.Life.TheVariants.{Unused, Present, Left}
use Rattle.network.specs.declared.station.Station.{Station}
use Rattle.network.specs.Knowing.{Set, knows_nobody, note_entered}
use Rattle.network.specs.Stamps.{first_register}

abbrev pub is_used : Life → Bool
is_used Unused = false
is_used Present = true
is_used Left = true

abbrev pub is_present : Life → Bool
is_present Unused = false
is_present Present = true
is_present Left = false

-- an operation is under way in phase one and in phase two
abbrev pub under_way : {R : Type 0} → Operation R → Bool
under_way (Idle tag) = false
under_way (PhaseOne task poll) = true
under_way (PhaseTwo kind poll kept) = true

abbrev pub tag_of : {R : Type 0} → Operation R → ℕ
tag_of (Idle tag) = tag
tag_of (PhaseOne task poll) = poll.tag
tag_of (PhaseTwo kind poll kept) = poll.tag

module _ {R S : Type 0} where
  -- present and not crashed: it hears, and it is sent to
  abbrev pub active : Station R S → Bool
  active x = is_present x.life && not x.crashed

  abbrev pub with_life : Life → Station R S → Station R S
  with_life l x = record { life = l; crashed = x.crashed; joined = x.joined; known = x.known; register = x.register; echoes = x.echoes; bound = x.bound; operation = x.operation }

  abbrev pub with_crashed : Station R S → Station R S
  with_crashed x = record { life = x.life; crashed = true; joined = x.joined; known = x.known; register = x.register; echoes = x.echoes; bound = x.bound; operation = x.operation }

  abbrev pub with_joined : Station R S → Station R S
  with_joined x = record { life = x.life; crashed = x.crashed; joined = true; known = x.known; register = x.register; echoes = x.echoes; bound = x.bound; operation = x.operation }

  abbrev pub with_known : Known S → Station R S → Station R S
  with_known k x = record { life = x.life; crashed = x.crashed; joined = x.joined; known = k; register = x.register; echoes = x.echoes; bound = x.bound; operation = x.operation }

  abbrev pub with_register : Register R → Station R S → Station R S
  with_register v x = record { life = x.life; crashed = x.crashed; joined = x.joined; known = x.known; register = v; echoes = x.echoes; bound = x.bound; operation = x.operation }

  abbrev pub with_echoes : ℕ → Option ℕ → Station R S → Station R S
  with_echoes n b x = record { life = x.life; crashed = x.crashed; joined = x.joined; known = x.known; register = x.register; echoes = n; bound = b; operation = x.operation }

  abbrev pub with_operation : Operation R → Station R S → Station R S
  with_operation o x = record { life = x.life; crashed = x.crashed; joined = x.joined; known = x.known; register = x.register; echoes = x.echoes; bound = x.bound; operation = o }

module _ {R : Type 0} (first : R) where
  -- a number of the table that is not used
  abbrev pub unused_station : Station R Set
  unused_station = record { life = Unused; crashed = false; joined = false; known = knows_nobody; register = first_register first; echoes = 0; bound = None; operation = Idle 0 }

  -- a station of a new run with stations 0 to k - 1: it has joined, and knows all of them as entered and joined
  abbrev pub founder : ℕ → Station R Set
  founder k = record { life = Present; crashed = false; joined = true; known = record { entered = λ p. nat_lt p k; joined = λ p. nat_lt p k; left = nobody }; register = first_register first; echoes = 0; bound = None; operation = Idle 0 }

  -- a station at its entry: it knows only that
  abbrev pub newcomer : ℕ → Station R Set
  newcomer p = record { life = Present; crashed = false; joined = false; known = note_entered p knows_nobody; register = first_register first; echoes = 0; bound = None; operation = Idle 0 }
