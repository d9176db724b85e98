-- Which steps are refused: for each kind of step its tests in order, so that the smallest number is the first.
use Rattle.std.specs.Prelude.{ℕ, ◌+◌, Bool, true, false, not, List, [], ◌∷◌, length, is_some, Some, None, Option, nat_le, nat_lt}
use Rattle.carrier.specs.Counts.{earliest}
use Rattle.carrier.specs.Waits.{Waits}
use Rattle.carrier.specs.declared.fault.CarrierFault.TheVariants.{NotWaiting, NumbersUsedUp, NoRoom}
use Rattle.network.specs.declared.fault.LogFault.TheVariants.{Full}
use Rattle.network.specs.declared.fault.StepFault.{StepFault}
use Rattle.network.specs.declared.fault.StepFault.TheVariants.{NoStation, Used, NotPresent, Crashed, NotJoined, UnderWay, Churn, TooFewPresent, TooManyCrashed, CopyDue, ClockEnd, Carrier, Log}
use Rattle.network.specs.declared.step.Step.{Step}
use Rattle.network.specs.declared.step.Step.TheVariants as step
use Rattle.network.specs.Books.{allows, crashed_share}
use Rattle.network.specs.Changes.{changed, said, actor}
use Rattle.network.specs.Keeping.{is_used, is_present, under_way}
use Rattle.network.specs.Posting.{sent_by}
use Rattle.network.specs.States.{Copy, Mail, Room, Setup, State, present_total, crashed_total}

abbrev pub Test : Type 0
Test = Option StepFault

-- a test that has to hold
abbrev pub unless : Bool → StepFault → Test
unless true f = None
unless false f = Some f

-- the first test that fails
unfoldable pub first_of : List Test → Test
first_of [] = None
first_of (None ∷ ts) = first_of ts
first_of (Some f ∷ ts) = Some f

-- the largest message number, and the largest clock
abbrev pub last_number : ℕ
last_number = 1000000

abbrev pub last_tick : ℕ
last_tick = 65535

-- a copy sent in tick t has to be delivered before the clock comes to t + d
abbrev pub due : ℕ → ℕ → Option ℕ → Bool
due d clock None = false
due d clock (Some t) = nat_le (t + d) (clock + 1)

module _ {R : Type 0} where
  -- 41 and 42, for all messages of a step together; where there is none, neither
  unfoldable pub mail_test : Room R → Waits (Copy R) → ℕ → List (Mail R) → Test
  mail_test room waits next [] = None
  mail_test room waits next (m ∷ ms) =
      first_of (unless (nat_le (next + length ms) last_number) (Carrier NumbersUsedUp) ∷ unless (room waits (m ∷ ms)) (Carrier NoRoom) ∷ [])

  -- the messages that a step sends: to those who are active once it has changed what it changes
  abbrev pub step_mails : Setup R → Step R → State R → List (Mail R)
  step_mails u x s = sent_by (actor x) (said u x s) (changed u x s)

  -- room is asked before anything changes: the copy that is delivered, and those of one who leaves, still wait
  abbrev pub sending_test : Setup R → Step R → State R → Test
  sending_test u x s = mail_test u.room s.waits s.next (step_mails u x s)

  -- the number is in the table
  abbrev pub in_table : Setup R → ℕ → Test
  in_table u p = unless (nat_lt p u.table) NoStation

  -- 20, 22, 23 ahead of other tests
  abbrev pub of_actor : Setup R → ℕ → State R → List Test → List Test
  of_actor u p s ts = in_table u p ∷ unless (is_present (s.stations p).life) NotPresent ∷ unless (not (s.stations p).crashed) Crashed ∷ ts

  -- the limit book allows an arrival or departure
  abbrev pub churn_test : Setup R → State R → Test
  churn_test u s = unless (allows u.choice.alpha s.clock s.book) Churn

  -- the share of crashed stations once the step has changed what it changes
  abbrev pub crash_test : Setup R → Step R → State R → Test
  crash_test u x s = unless (crashed_share u.choice.delta (crashed_total (changed u x s)) (present_total (changed u x s))) TooManyCrashed

  -- a read or a write
  abbrev pub operation_tests : Setup R → Step R → ℕ → State R → List Test
  operation_tests u x p s =
      of_actor u p s
      (unless (s.stations p).joined NotJoined
      ∷ unless (not (under_way (s.stations p).operation)) UnderWay
      ∷ sending_test u x s
      ∷ unless (nat_lt (length s.log.entries) u.places) (Log Full)
      ∷ [])

  -- the tests of each step, in the order of their numbers
  unfoldable pub tests : Setup R → Step R → State R → List Test
  tests u step.Tick s = unless (not (due u.choice.d s.clock (earliest s.waits))) CopyDue ∷ unless (nat_lt s.clock last_tick) ClockEnd ∷ []
  tests u (step.Enter p) s =
      in_table u p ∷ unless (not (is_used (s.stations p).life)) Used ∷ churn_test u s ∷ sending_test u (step.Enter p) s ∷ []
  tests u (step.Leave p) s =
      of_actor u p s
      (churn_test u s
      ∷ unless (nat_le u.choice.nmin (present_total (changed u (step.Leave p) s))) TooFewPresent
      ∷ crash_test u (step.Leave p) s
      ∷ sending_test u (step.Leave p) s
      ∷ [])
  tests u (step.Crash p) s = of_actor u p s (crash_test u (step.Crash p) s ∷ [])
  tests u (step.Read p) s = operation_tests u (step.Read p) p s
  tests u (step.Write p r) s = operation_tests u (step.Write p r) p s
  tests u (step.Deliver n q) s =
      of_actor u q s (unless (is_some (s.waits n q)) (Carrier NotWaiting) ∷ sending_test u (step.Deliver n q) s ∷ [])

  -- the fault of a refused step, or none
  unfoldable pub refusal : Setup R → Step R → State R → Option StepFault
  refusal u x s = first_of (tests u x s)
