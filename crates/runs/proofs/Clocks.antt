-- The clock along a run: it rises by 1 at an accepted tick and at no other step, and comes by every number.
-- Also: the next message number never falls, and nobody enters or leaves in tick 0. Rests on `Accepted`.
use Rattle.std.proofs.Common.{◌≡◌, ℕ, zero, suc, ◌+◌, ◌<◌, ◌≤◌, ap, inl, inr, le_trans, le_refl, arith}
use Rattle.std.proofs.lemmas.Bool.{and_parts, ltb-true, cases_lt}
use Rattle.network.specs.declared.operation.Task.TheVariants as task
use Rattle.network.specs.declared.step.Step.{Step}
use Rattle.network.specs.declared.step.Step.TheVariants as step
use Rattle.network.specs.Refusals.{last_number}
use Rattle.runs.proofs.Positions.{Run, state, state_start, clock, Accepted, OutcomeOf, goes, stays, outcome_of, onward}
use Rattle.runs.proofs.Accepted.{ticks, enters, leaves, crashes, begins, hears}

module _ {R : Type 0} (z : Run R) where
  -- the clock stays, or a tick is accepted
  pub data ClockStep (i : ℕ) : Type 0 where
    rises : Accepted z i step.Tick → clock z (suc i) ≡ clock z i + 1 → ClockStep i
    rests : clock z (suc i) ≡ clock z i → ClockStep i

  clock_by : (i : ℕ) (x : Step R) → Accepted z i x → ClockStep i
  clock_by i step.Tick a = rises a (ap (λ s. s.clock) (ticks z i a).leads)
  clock_by i (step.Enter p) a = rests (ap (λ s. s.clock) (enters z i p a).leads)
  clock_by i (step.Leave p) a = rests (ap (λ s. s.clock) (leaves z i p a).leads)
  clock_by i (step.Crash p) a = rests (ap (λ s. s.clock) (crashes z i p a).leads)
  clock_by i (step.Read p) a = rests (ap (λ s. s.clock) (begins z i p task.Read a).leads)
  clock_by i (step.Write p r) a = rests (ap (λ s. s.clock) (begins z i p (task.Write r) a).leads)
  clock_by i (step.Deliver n q) a = rests (ap (λ s. s.clock) (hears z i n q a).leads)

  pub clock_step : (i : ℕ) → ClockStep i
  clock_step i = by (outcome_of z i)
    where
      by : OutcomeOf z i → ClockStep i
      by (goes x a) = clock_by i x a
      by (stays e) = rests (ap (λ s. s.clock) e)

  pub clock_start : clock z 0 ≡ 0
  clock_start = ap (λ s. s.clock) (state_start z)

  -- from one position to the next it rises by at most 1
  one_rise : (i : ℕ) → ClockStep i → (clock z i ≤ clock z (suc i)) × (clock z (suc i) ≤ clock z i + 1)
  one_rise i (rises a e) = (omega arith, omega arith)
  one_rise i (rests e) = (omega arith, omega arith)

  pub clock_on : (i j : ℕ) → i ≤ j → clock z i ≤ clock z j
  clock_on i j l = onward z (λ k. clock z i ≤ clock z k) (λ k h. le_trans h (one_rise k (clock_step k)).0) i j l (le_refl _)

  -- an earlier clock is at an earlier position
  pub sooner : (i j : ℕ) → clock z i < clock z j → i < j
  sooner i j l = elim (cases_lt i j) [ inl k ↦ k | inr k ↦ absurd (omega (arith, clock_on j i k)) ]

  -- every clock between is that of some position between
  pub comes_by : (t i j : ℕ) → i ≤ j → clock z i ≤ t → t ≤ clock z j → (k : ℕ) × (i ≤ k) × (k ≤ j) × (clock z k ≡ t)
  comes_by t i zero l a b = let e : i ≡ 0 = omega arith in (0, omega arith, omega arith, omega (arith, ap (clock z) e))
  comes_by t i (suc j) l a b =
      elim (cases_lt i (suc j)) [
        | inl m ↦
            elim (cases_lt (clock z j) t) [
              | inl h ↦ (suc j, l, le_refl _, omega (arith, one_rise j (clock_step j)))
              | inr h ↦ let (k, x, y, e) = comes_by t i j (omega arith) a h in (k, x, omega (arith, y), e)
            ]
        | inr m ↦ let e : i ≡ suc j = omega arith in (suc j, l, le_refl _, omega (arith, ap (clock z) e))
      ]

  -- nobody enters or leaves in tick 0
  pub enters_late : (i p : ℕ) → Accepted z i (step.Enter p) → 0 < clock z i
  enters_late i p a = ltb-true 0 _ (and_parts _ _ (enters z i p a).allowed).0

  pub leaves_late : (i p : ℕ) → Accepted z i (step.Leave p) → 0 < clock z i
  leaves_late i p a = ltb-true 0 _ (and_parts _ _ (leaves z i p a).allowed).0

  -- the next message number never falls, and stays in its range
  next_by : (i : ℕ) (x : Step R) → Accepted z i x → ((state z i).next ≤ (state z (suc i)).next) × ((state z i).next ≤ last_number + 1 → (state z (suc i)).next ≤ last_number + 1)
  next_by i step.Tick a = let e = ap (λ s. s.next) (ticks z i a).leads in (omega arith, λ h. omega arith)
  next_by i (step.Enter p) a = let e = ap (λ s. s.next) (enters z i p a).leads in (omega arith, (enters z i p a).numbers)
  next_by i (step.Leave p) a = let e = ap (λ s. s.next) (leaves z i p a).leads in (omega arith, (leaves z i p a).numbers)
  next_by i (step.Crash p) a = let e = ap (λ s. s.next) (crashes z i p a).leads in (omega arith, λ h. omega arith)
  next_by i (step.Read p) a = let e = ap (λ s. s.next) (begins z i p task.Read a).leads in (omega arith, (begins z i p task.Read a).numbers)
  next_by i (step.Write p r) a = let e = ap (λ s. s.next) (begins z i p (task.Write r) a).leads in (omega arith, (begins z i p (task.Write r) a).numbers)
  next_by i (step.Deliver n q) a = let e = ap (λ s. s.next) (hears z i n q a).leads in (omega arith, (hears z i n q a).numbers)

  pub next_step : (i : ℕ) → ((state z i).next ≤ (state z (suc i)).next) × ((state z i).next ≤ last_number + 1 → (state z (suc i)).next ≤ last_number + 1)
  next_step i = by (outcome_of z i)
    where
      by : OutcomeOf z i → ((state z i).next ≤ (state z (suc i)).next) × ((state z i).next ≤ last_number + 1 → (state z (suc i)).next ≤ last_number + 1)
      by (goes x a) = next_by i x a
      by (stays e) = (omega (arith, ap (λ s. s.next) e), λ h. omega (arith, ap (λ s. s.next) e))

  pub next_on : (i j : ℕ) → i ≤ j → (state z i).next ≤ (state z j).next
  next_on i j l = onward z (λ k. (state z i).next ≤ (state z k).next) (λ k h. le_trans h (next_step k).0) i j l (le_refl _)

  pub numbers_in_range : (i : ℕ) → (state z i).next ≤ last_number + 1
  numbers_in_range zero = omega (arith, ap (λ s. s.next) (state_start z))
  numbers_in_range (suc i) = (next_step i).1 (numbers_in_range i)
