-- A step: the state after it, and what the caller is told.
use Rattle.std.specs.Prelude.{ℕ, Bool, true, false, cond, length, Some, None, Option, slice_get, Ok, Err, Result}
use Rattle.network.specs.declared.entry.Entry.{Entry}
use Rattle.network.specs.declared.fault.StepFault.{StepFault}
use Rattle.network.specs.declared.operation.Operation.{Operation}
use Rattle.network.specs.declared.operation.Operation.TheVariants.{Idle, PhaseOne, PhaseTwo}
use Rattle.network.specs.declared.outcome.Done.{Done}
use Rattle.network.specs.declared.step.Step.{Step}
use Rattle.network.specs.Changes.{changed, said, actor}
use Rattle.network.specs.Posting.{send}
use Rattle.network.specs.Refusals.{step_mails, refusal}
use Rattle.network.specs.States.{Setup, State}

-- an operation in phase two became idle
abbrev pub has_ended : {R : Type 0} → Operation R → Operation R → Bool
has_ended (Idle a) o = false
has_ended (PhaseOne t a) o = false
has_ended (PhaseTwo k a v) (Idle c) = true
has_ended (PhaseTwo k a v) (PhaseOne t c) = false
has_ended (PhaseTwo k a v) (PhaseTwo l c w) = false

module _ {R : Type 0} where
  -- the state after an accepted step
  unfoldable pub next : Setup R → Step R → State R → State R
  next u x s = send (actor x) (said u x s) (changed u x s)

  abbrev pub unless_refused : Option StepFault → State R → State R → State R
  unless_refused None s t = t
  unless_refused (Some f) s t = s

  -- the state after a step: a refused one changes nothing
  unfoldable pub after : Setup R → Step R → State R → State R
  after u x s = unless_refused (refusal u x s) s (next u x s)

  -- the operation that a step ended, as the log then shows it
  abbrev pub ended_at : ℕ → State R → State R → Option (Entry R)
  ended_at q s t =
      cond (has_ended (s.stations q).operation (t.stations q).operation) (slice_get t.log.entries (t.log.latest q)) None

  -- what an accepted step came to
  abbrev pub done : Setup R → Step R → State R → Done R
  done u x s = record { sent = length (step_mails u x s); from = s.next; ended = ended_at (actor x) s (next u x s) }

  abbrev pub told_outcome : Option StepFault → Setup R → Step R → State R → Result (Done R) StepFault
  told_outcome (Some f) u x s = Err f
  told_outcome None u x s = Ok (done u x s)

  -- what the caller is told of a step
  unfoldable pub outcome : Setup R → Step R → State R → Result (Done R) StepFault
  outcome u x s = told_outcome (refusal u x s) u x s
