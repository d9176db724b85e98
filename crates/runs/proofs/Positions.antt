-- One run under one name, seen by positions: the state before each step, which steps were accepted, and induction along it.
-- Position i is the place before step i; past the last step nothing happens. Rests on the definitions of runs alone.
use Rattle.std.proofs.Common.{◌≡◌, ℕ, zero, suc, ◌<◌, ◌≤◌, Bool, true, false, List, [], ◌∷◌, length, take, Some, None, Option, refl, ap, ◌∙◌, inl, inr, le_trans, le_refl, arith, slice_get}
use Rattle.std.proofs.lemmas.Bool.{both_ways, cases_Bool, cases_lt}
use Rattle.std.proofs.lemmas.Option.{slice_get_past}
use Rattle.network.specs.declared.fault.StepFault.{StepFault}
use Rattle.network.specs.declared.station.Station.{Station}
use Rattle.network.specs.declared.step.Step.{Step}
use Rattle.network.specs.Keeping.{active}
use Rattle.network.specs.Knowing.{Set}
use Rattle.network.specs.Refusals.{refusal}
use Rattle.network.specs.Runs.{run, state_at, AdmittedStart}
use Rattle.network.specs.States.{Copy, Setup, State, new_run}
use Rattle.network.specs.Steps.{next, unless_refused, after}

-- a run: what it is set up with, how many stations it starts with, its steps, and that its start is admitted
pub record Run (R : Type 0) : Type 0 where
  pub setup : Setup R
  pub founders : ℕ
  pub steps : List (Step R)
  pub admitted : AdmittedStart setup founders

module _ {R : Type 0} where
  -- the state after a step that may be missing
  abbrev after_any : Setup R → Option (Step R) → State R → State R
  after_any u None s = s
  after_any u (Some x) s = after u x s

  run_one_more : (u : Setup R) (xs : List (Step R)) (i : ℕ) (s : State R) → run u (take (suc i) xs) s ≡ after_any u (slice_get xs i) (run u (take i xs) s)
  unfolding run
  run_one_more u [] zero s = refl
  run_one_more u [] (suc i) s = refl
  run_one_more u (x ∷ xs) zero s = refl
  run_one_more u (x ∷ xs) (suc i) s = run_one_more u xs i (after u x s)

  after_accepted : (u : Setup R) (x : Step R) (s : State R) → refusal u x s ≡ None → after u x s ≡ next u x s
  unfolding after
  after_accepted u x s e = ap (λ f. unless_refused f s (next u x s)) e

  after_refused : (u : Setup R) (x : Step R) (s : State R) (f : StepFault) → refusal u x s ≡ Some f → after u x s ≡ s
  unfolding after
  after_refused u x s f e = ap (λ f. unless_refused f s (next u x s)) e

module _ {R : Type 0} (z : Run R) where
  -- the state at a position
  unfoldable pub state : ℕ → State R
  state i = state_at z.setup z.founders z.steps i

  -- it is the state of which the promises speak
  pub state_is : (i : ℕ) → state i ≡ state_at z.setup z.founders z.steps i
  unfolding state
  state_is i = refl

  pub state_start : state 0 ≡ new_run z.setup z.founders
  unfolding state run
  state_start = refl

  abbrev pub clock : ℕ → ℕ
  clock i = (state i).clock

  -- station q at a position
  abbrev pub station : ℕ → ℕ → Station R Set
  station i q = (state i).stations q

  -- present and not crashed
  abbrev pub active_at : ℕ → ℕ → Bool
  active_at i q = active (station i q)

  -- the copy that waits under a number for q
  abbrev pub waiting : ℕ → ℕ → ℕ → Option (Copy R)
  waiting i n q = (state i).waits n q

  -- the longest delay
  abbrev pub D : ℕ
  D = z.setup.choice.d

  -- step i is x, and is not refused
  abbrev pub Accepted : ℕ → Step R → Type 0
  Accepted i x = (slice_get z.steps i ≡ Some x) × (refusal z.setup x (state i) ≡ None)

  state_next : (i : ℕ) → state (suc i) ≡ after_any z.setup (slice_get z.steps i) (state i)
  unfolding state
  state_next i = run_one_more z.setup z.steps i (new_run z.setup z.founders)

  -- the state after an accepted step
  pub after_step : (i : ℕ) (x : Step R) → Accepted i x → state (suc i) ≡ next z.setup x (state i)
  after_step i x t = state_next i ∙ ap (λ o. after_any z.setup o (state i)) t.0 ∙ after_accepted z.setup x (state i) t.1

  -- past the last step nothing happens
  pub after_end : (i : ℕ) → length z.steps ≤ i → state (suc i) ≡ state i
  after_end i l = state_next i ∙ ap (λ o. after_any z.setup o (state i)) (slice_get_past z.steps i l)

  -- what became of step i: it was accepted, or nothing changed
  pub data OutcomeOf (i : ℕ) : Type 0 where
    goes : (x : Step R) → Accepted i x → OutcomeOf i
    stays : state (suc i) ≡ state i → OutcomeOf i

  pub outcome_of : (i : ℕ) → OutcomeOf i
  outcome_of i = step (slice_get z.steps i) refl
    where
      judged : (x : Step R) → slice_get z.steps i ≡ Some x → (f : Option StepFault) → refusal z.setup x (state i) ≡ f → OutcomeOf i
      judged x e None g = goes x (e, g)
      judged x e (Some f) g = stays (state_next i ∙ ap (λ o. after_any z.setup o (state i)) e ∙ after_refused z.setup x (state i) f g)

      step : (o : Option (Step R)) → slice_get z.steps i ≡ o → OutcomeOf i
      step None e = stays (state_next i ∙ ap (λ o. after_any z.setup o (state i)) e)
      step (Some x) e = judged x e (refusal z.setup x (state i)) refl

  -- what each step keeps holds from a position on
  pub onward : (P : ℕ → Type 0) → ((i : ℕ) → P i → P (suc i)) → (i j : ℕ) → i ≤ j → P i → P j
  onward P keep i zero l h = let e : i ≡ 0 = omega arith in rw e at h
  onward P keep i (suc j) l h =
      elim (cases_lt i (suc j)) [ inl k ↦ keep j (onward P keep i j (omega arith) h) | inr k ↦ let e : i ≡ suc j = omega arith in rw e at h ]

  -- what accepted steps keep of a state holds from a position on
  pub along : (P : State R → Type 0) → ((i : ℕ) (x : Step R) → Accepted i x → P (state i) → P (next z.setup x (state i))) → (i j : ℕ) → i ≤ j → P (state i) → P (state j)
  along P keep = onward (λ i. P (state i)) (λ i h. by i (outcome_of i) h)
    where
      by : (i : ℕ) → OutcomeOf i → P (state i) → P (state (suc i))
      by i (goes x t) h = rw (after_step i x t) (keep i x t h)
      by i (stays e) h = rw e h

  -- what holds at a new run, and is kept by each accepted step, always holds
  pub always : (P : State R → Type 0) → P (new_run z.setup z.founders) → ((i : ℕ) (x : Step R) → Accepted i x → P (state i) → P (next z.setup x (state i))) → (i : ℕ) → P (state i)
  always P start keep i = along P keep 0 i (omega arith) (rw state_start start)

  -- what never falls at an accepted step never falls
  pub never_falls : (f : State R → ℕ) → ((i : ℕ) (x : Step R) → Accepted i x → f (state i) ≤ f (next z.setup x (state i))) → (i j : ℕ) → i ≤ j → f (state i) ≤ f (state j)
  never_falls f rise i j l = along (λ s. f (state i) ≤ f s) (λ k x t h. le_trans h (rise k x t)) i j l (le_refl _)

-- a test that fails at i and holds at j begins to hold at some step between
pub turns : (f : ℕ → Bool) (i j : ℕ) → i ≤ j → f i ≡ false → f j ≡ true → (k : ℕ) × (i ≤ k) × (k < j) × (f k ≡ false) × (f (suc k) ≡ true)
turns f i zero l a b = let e : i ≡ 0 = omega arith in absurd (both_ways (f 0) (rw e at a) b)
turns f i (suc j) l a b =
    elim (cases_lt i (suc j)) [
      | inl m ↦
          elim (cases_Bool (f j)) [
            | inl h ↦ let (k, x, y, g, t) = turns f i j (omega arith) a h in (k, x, omega (arith, y), g, t)
            | inr h ↦ (j, omega arith, omega arith, h, b)
          ]
      | inr m ↦ let e : i ≡ suc j = omega arith in absurd (both_ways (f (suc j)) (rw e at a) b)
    ]
