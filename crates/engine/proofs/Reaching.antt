-- A step more of a run.
use Rattle.std.proofs.Common.{◌≡◌, ℕ, List, [], ◌∷◌, ◌++◌, refl, ap, sym, ◌∙◌, subst}
use Rattle.std.proofs.Math.Logic.{∥∥₁_map}
use Rattle.std.proofs.lemmas.Grind.{merely}
use Rattle.network.specs.declared.step.Step.{Step}
use Rattle.network.specs.Runs.{run, AdmittedStart}
use Rattle.network.specs.States.{Setup, State, new_run}
use Rattle.network.specs.Steps.{after}
use Rattle.engine.specs.Reached.{Reached}

module _ {R : Type 0} where
  run_more : (u : Setup R) (xs : List (Step R)) (x : Step R) (s : State R) → run u (xs ++ (x ∷ [])) s ≡ after u x (run u xs s)
  unfolding run
  run_more u [] x s = refl
  run_more u (y ∷ ys) x s = run_more u ys x (after u y s)

  reached_on : (u : Setup R) (x : Step R) (s : State R) → Reached u s → Reached u (after u x s)
  reached_on u x s r = record { k = r.k; steps = r.steps ++ (x ∷ []); start = r.start; came = ap (after u x) r.came ∙ sym (run_more u r.steps x (new_run u r.k)) }

  -- a network that came somewhere by a run comes by a run where one step leads it
  pub comes_on : (u v : Setup R) (x : Step R) (s t : State R) → ∥ Reached u s ∥₁ → t ≡ after u x s → v ≡ u → ∥ Reached v t ∥₁
  comes_on u v x s t r e same = ∥∥₁_map r (λ r. subst (λ (p : Setup R × State R). Reached p.0 p.1) (λ i. (sym same i, sym e i)) (reached_on u x s r))

  -- a network starts where no step has been made
  pub starts : (u v : Setup R) (k : ℕ) (s : State R) → u ≡ v → AdmittedStart v k → s ≡ new_run u k → ∥ Reached u s ∥₁
  unfolding run
  starts u v k s e a came = merely (record { k = k; steps = []; start = subst (λ (u : Setup R). AdmittedStart u k) (sym e) a; came = came })
