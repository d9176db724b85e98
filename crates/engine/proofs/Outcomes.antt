-- What a step comes to, refused or done; and a step that sends nothing.
use Rattle.std.proofs.Common.{◌≡◌, ℕ, Bool, false, cond, List, [], length, slice_get, None, Option, Ok, Err, refl, ap, ap₂, sym, ◌∙◌, add-zero}
use Rattle.network.specs.declared.entry.Entry.{Entry}
use Rattle.network.specs.declared.fault.StepFault.{StepFault}
use Rattle.network.specs.declared.letter.Letter.{Letter}
use Rattle.network.specs.declared.operation.Operation.{Operation}
use Rattle.network.specs.declared.operation.Operation.TheVariants.{Idle, PhaseOne, PhaseTwo}
use Rattle.network.specs.declared.step.Step.{Step}
use Rattle.network.specs.Changes.{changed, said, actor}
use Rattle.network.specs.Knowing.{Set}
use Rattle.network.specs.Posting.{mails, send, sent_by}
use Rattle.network.specs.Refusals.{refusal, step_mails}
use Rattle.network.specs.States.{Mail, Setup, State}
use Rattle.network.specs.Steps.{has_ended, next, after, ended_at, done, outcome, told_outcome, unless_refused}
use Rattle.engine.specs.Memories.{passed}
use Rattle.engine.proofs.Faults.{is_fault}

pub ended_same : {R : Type 0} (o : Operation R) → has_ended o o ≡ false
ended_same (Idle a) = refl
ended_same (PhaseOne t a) = refl
ended_same (PhaseTwo k a v) = refl

module _ {R : Type 0} (u : Setup R) (x : Step R) (s : State R) where
  pub refused_told : (f : StepFault) → Err f ≡ passed (refusal u x s) → Err f ≡ outcome u x s
  unfolding outcome
  refused_told f h = sym (ap (λ t. told_outcome t u x s) (is_fault (refusal u x s) f h))

  pub refused_stays : (f : StepFault) → Err f ≡ passed (refusal u x s) → s ≡ after u x s
  unfolding after
  refused_stays f h = sym (ap (λ t. unless_refused t s (next u x s)) (is_fault (refusal u x s) f h))

  module _ (accepted : refusal u x s ≡ None) where
    pub done_told : Ok (done u x s) ≡ outcome u x s
    unfolding outcome
    done_told = sym (ap (λ t. told_outcome t u x s) accepted)

    pub done_leads : next u x s ≡ after u x s
    unfolding after
    done_leads = sym (ap (λ t. unless_refused t s (next u x s)) accepted)

    -- a step that sends nothing and leaves the operation of its station
    module _ (silent : said u x s ≡ []) (same : ((changed u x s).stations (actor x)).operation ≡ (s.stations (actor x)).operation) where
      none_sent : step_mails u x s ≡ []
      unfolding mails
      none_sent = ap (λ (ls : List (Letter R Set)). sent_by (actor x) ls (changed u x s)) silent

      only_changed : next u x s ≡ changed u x s
      unfolding next mails
      only_changed =
          ap (λ (ls : List (Letter R Set)). send (actor x) ls (changed u x s)) silent
          ∙ ap (λ (n : ℕ). record { stations = (changed u x s).stations; waits = (changed u x s).waits; next = n; log = (changed u x s).log; book = (changed u x s).book; clock = (changed u x s).clock }) (add-zero (changed u x s).next)

      -- it ends no operation
      none_ended : ended_at (actor x) s (next u x s) ≡ None
      none_ended =
          ap (λ t. ended_at (actor x) s t) only_changed
          ∙ ap (λ (o : Operation R). cond (has_ended (s.stations (actor x)).operation o) (slice_get (changed u x s).log.entries ((changed u x s).log.latest (actor x))) None) same
          ∙ ap (λ (b : Bool). cond b (slice_get (changed u x s).log.entries ((changed u x s).log.latest (actor x))) None) (ended_same (s.stations (actor x)).operation)

      pub silent_told : Ok (record { sent = 0; from = s.next; ended = None }) ≡ outcome u x s
      silent_told =
          ap₂ (λ (ms : List (Mail R)) (o : Option (Entry R)). Ok (record { sent = length ms; from = s.next; ended = o })) (sym none_sent) (sym none_ended)
          ∙ done_told

      pub silent_leads : changed u x s ≡ after u x s
      silent_leads = sym only_changed ∙ done_leads
