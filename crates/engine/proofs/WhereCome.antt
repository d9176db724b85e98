-- What every run keeps, wherever a network has come to.
use Rattle.std.proofs.Common.{◌≡◌, ℕ, true, false, length, ap, sym, ◌∙◌, le_refl}
use Rattle.std.proofs.Math.Bool.{Bool-set}
use Rattle.std.proofs.Math.Logic.{∥∥₁_elim}
use Rattle.std.proofs.lemmas.List.{take_all}
use Rattle.network.specs.declared.operation.Operation.TheVariants.{Idle}
use Rattle.network.specs.Keeping.{is_used}
use Rattle.network.specs.Limits.{may_rise}
use Rattle.network.specs.Runs.{run}
use Rattle.network.specs.States.{Setup, State, new_run}
use Rattle.network.specs.Steps.{has_ended}
use Rattle.runs.proofs.Changes.{unused_blank}
use Rattle.runs.proofs.Positions.{Run, state, state_is}
use Rattle.runs.proofs.Reached.{reached}
use Rattle.engine.specs.Reached.{Reached}

module _ {R : Type 0} (u : Setup R) (s : State R) where
  abbrev run_of : Reached u s → Run R
  run_of r = record { setup = u; founders = r.k; steps = r.steps; admitted = r.start }

  at_end : (r : Reached u s) → state (run_of r) (length r.steps) ≡ s
  at_end r = state_is (run_of r) (length r.steps) ∙ ap (λ xs. run u xs (new_run u r.k)) (take_all (length r.steps) r.steps (le_refl _)) ∙ sym r.came

  -- the limit book can note a move more
  pub can_move : ∥ Reached u s ∥₁ → may_rise s.book.moves ≡ true
  can_move r = ∥∥₁_elim r (Bool-set _ _) (λ (r : Reached u s). (reached u r.k r.steps r.start s r.came).note)

  idle_at : (r : Reached u s) (p : ℕ) → is_used (s.stations p).life ≡ false → has_ended (s.stations p).operation (Idle 0) ≡ false
  idle_at r p h =
      ap (λ x. has_ended x.operation (Idle 0))
      (ap (λ (t : State R). t.stations p) (sym (at_end r)) ∙ unused_blank (run_of r) (length r.steps) p (ap (λ (t : State R). is_used (t.stations p).life) (at_end r) ∙ h))

  -- a number that was not used has no operation that could end
  pub unused_idle : ∥ Reached u s ∥₁ → (p : ℕ) → is_used (s.stations p).life ≡ false → has_ended (s.stations p).operation (Idle 0) ≡ false
  unused_idle r p h = ∥∥₁_elim r (Bool-set _ _) (λ (r : Reached u s). idle_at r p h)
