-- Enter: its tests, and that it ends no operation.
use Rattle.std.proofs.Common.{◌≡◌, ℕ, ◌<◌, Bool, true, false, cond, not, [], ◌∷◌, slice_get, None, Ok, Err, refl, ap, sym, ◌∙◌}
use Rattle.std.proofs.lemmas.Bool.{ltb-true}
use Rattle.stations.proofs.Counting.{put_here}
use Rattle.network.specs.declared.fault.StepFault.{StepFault}
use Rattle.network.specs.declared.fault.StepFault.TheVariants.{Used}
use Rattle.network.specs.declared.operation.Operation.TheVariants.{Idle}
use Rattle.network.specs.declared.step.Step.TheVariants.{Enter}
use Rattle.network.specs.Changes.{changed}
use Rattle.network.specs.Keeping.{is_used, newcomer}
use Rattle.network.specs.Refusals.{Test, unless, first_of, in_table, churn_test, sending_test, tests, refusal}
use Rattle.network.specs.States.{Setup, State}
use Rattle.network.specs.Steps.{next, has_ended, ended_at}
use Rattle.engine.specs.Memories.{passed, passed_with}
use Rattle.engine.proofs.Faults.{fails_first, fault_without, passed_without, passes_on, last_decides, three_first, is_none, held}

was_false : (b : Bool) → not b ≡ true → b ≡ false
was_false true h = cc
was_false false h = refl

module _ {R : Type 0} (u : Setup R) (s : State R) (p : ℕ) where
  -- the tests of the number and of the limit book, and that of its message
  abbrev pub fresh : Test
  fresh = unless (not (is_used (s.stations p).life)) Used

  abbrev pub arriving : Test
  arriving = first_of (in_table u p ∷ fresh ∷ churn_test u s ∷ [])

  abbrev sending : Test
  sending = sending_test u (Enter p) s

  told : first_of (arriving ∷ sending ∷ []) ≡ refusal u (Enter p) s
  unfolding refusal tests
  told = sym (three_first _ _ _ (sending ∷ []))

  pub not_arriving : (e : StepFault) → Err e ≡ passed_with p arriving → Err e ≡ passed (refusal u (Enter p) s)
  not_arriving e h = fails_first arriving (sending ∷ []) e (fault_without p arriving e h) ∙ ap passed told

  module _ (q : ℕ) (arrives : Ok q ≡ passed_with p arriving) where
    pub same_number : q ≡ p
    same_number = (passed_without p q arriving arrives).1

    passes : arriving ≡ None
    passes = is_none _ (passed_without p q arriving arrives).0

    pub arrives_within : p < u.table
    arrives_within = ltb-true _ _ (held _ _ _ passes).0

    pub was_unused : is_used (s.stations p).life ≡ false
    was_unused = was_false _ (held _ _ _ (held _ _ _ passes).1).0

    behind : sending ≡ refusal u (Enter p) s
    behind = sym (last_decides sending) ∙ sym (passes_on arriving (sending ∷ []) (passed_without p q arriving arrives).0) ∙ told

    pub no_room : (e : StepFault) → Err e ≡ passed sending → Err e ≡ passed (refusal u (Enter p) s)
    no_room e h = h ∙ ap passed behind

    pub may_enter : Ok tt ≡ passed sending → refusal u (Enter p) s ≡ None
    may_enter h = sym behind ∙ is_none _ h

  -- who enters ends no operation
  pub enter_ends_none : has_ended (s.stations p).operation (Idle 0) ≡ false → None ≡ ended_at p s (next u (Enter p) s)
  unfolding next changed
  enter_ends_none idle =
      sym (ap (λ (b : Bool). cond b (slice_get (next u (Enter p) s).log.entries ((next u (Enter p) s).log.latest p)) None)
      (ap (λ x. has_ended (s.stations p).operation x.operation) (put_here s.stations p (newcomer u.first p)) ∙ idle))
