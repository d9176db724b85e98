-- Where each tick ended. The mark of tick t is the position before the tick that ended it; the mark of tick 0 is position 0,
-- which serves as well, since nobody enters or leaves in tick 0. Rests on `Clocks` and `Movement`.
use Rattle.std.proofs.Common.{◌≡◌, ℕ, zero, suc, ◌+◌, ◌<◌, ◌≤◌, true, cond, eqb, leb, length, sym, refl, ap, ◌∙◌, subst, inl, inr, le_refl, arith}
use Rattle.std.proofs.lemmas.Bool.{cases_lt, cond-false, ne_eqb, both_ways}
use Rattle.std.proofs.lemmas.Bool.Decides.{nat_tests}
use Rattle.network.specs.declared.step.Step.{Step}
use Rattle.network.specs.declared.step.Step.TheVariants as step
use Rattle.runs.proofs.Positions.{Run, state, station, clock, Accepted, after_end, onward}
use Rattle.runs.proofs.Clocks.{clock_start, clock_on, sooner, comes_by, enters_late, leaves_late, ClockStep, rises, rests, clock_step}
use Rattle.runs.proofs.Movement.{is_move, MoveStep, moves_one, moves_none, move_step}

module _ {R : Type 0} (z : Run R) where
  -- the last position up to j whose clock is at most t
  last_in : ℕ → ℕ → ℕ
  last_in t zero = 0
  last_in t (suc j) = cond (leb (clock z (suc j)) t) (suc j) (last_in t j)

  last_in_time : (t j : ℕ) → clock z (last_in t j) ≤ t
  unfolding last_in
  last_in_time t zero = omega (arith, clock_start z)
  last_in_time t (suc j) = let h = last_in_time t j in grind (arith, nat_tests, h)

  last_is_last : (t i j : ℕ) → i ≤ j → clock z i ≤ t → i ≤ last_in t j
  unfolding last_in
  last_is_last t i zero l h = l
  last_is_last t i (suc j) l h =
      elim (cases_lt i (suc j)) [
        | inl k ↦ let before = last_is_last t i j (omega arith) h in grind (arith, nat_tests, before, l)
        | inr k ↦ let e : i ≡ suc j = omega arith in let now : clock z (suc j) ≤ t = subst (λ x. clock z x ≤ t) e h in grind (arith, nat_tests, now, l)
      ]

  abbrev end : ℕ
  end = length z.steps

  -- where tick t ended
  pub mark : ℕ → ℕ
  mark t = cond (eqb t 0) 0 (last_in t end)

  pub mark_zero : mark 0 ≡ 0
  unfolding mark
  mark_zero = refl

  mark_later : (t : ℕ) → 0 < t → mark t ≡ last_in t end
  unfolding mark
  mark_later t l = cond-false _ _ _ (ne_eqb t 0 (λ e. omega arith))

  -- no clock is above the last
  clock_highest : (j : ℕ) → clock z j ≤ clock z end
  clock_highest j =
      elim (cases_lt j end) [
        | inl l ↦ clock_on z j end (omega arith)
        | inr l ↦ (onward z (λ k. (end ≤ k) × (clock z k ≤ clock z end)) (λ k f. (omega (arith, f.0), omega (arith, f.1, ap (λ s. s.clock) (after_end z k f.0)))) end j l (le_refl _, le_refl _)).1
      ]

  mark_in_time : (t : ℕ) → clock z (mark t) ≤ t
  mark_in_time zero = omega (arith, ap (clock z) mark_zero, clock_start z)
  mark_in_time (suc t) = subst (λ x. clock z x ≤ suc t) (sym (mark_later (suc t) (omega arith))) (last_in_time (suc t) end)

  -- a tick that is over ended before
  pub mark_before : (t j : ℕ) → t < clock z j → mark t < j
  mark_before t j l = sooner z (mark t) j (omega (arith, mark_in_time t))

  -- a position in a tick that is over, or before it, is not after its mark
  pub mark_not_before : (t i j : ℕ) → 0 < t → t < clock z j → clock z i ≤ t → i ≤ mark t
  mark_not_before t i j p l h = subst (λ x. i ≤ x) (sym (mark_later t p)) (last_is_last t i end (omega (arith, sooner z i end (omega (arith, clock_highest j)))) h)

  pub mark_clock : (t j : ℕ) → t < clock z j → clock z (mark t) ≡ t
  mark_clock zero j l = ap (clock z) mark_zero ∙ clock_start z
  mark_clock (suc t) j l =
      let (k, a, b, e) = comes_by z (suc t) 0 j (omega arith) (omega (arith, clock_start z)) (omega arith) in
      omega (arith, mark_in_time (suc t), clock_on z k (mark (suc t)) (mark_not_before (suc t) k j (omega arith) l (omega (arith, e))), e)

  -- marks come in the order of their ticks
  pub mark_order : (s t j : ℕ) → s ≤ t → t < clock z j → mark s ≤ mark t
  mark_order zero t j l h = omega (arith, mark_zero)
  mark_order (suc s) t j l h = mark_not_before t (mark (suc s)) j (omega arith) h (omega (arith, mark_in_time (suc s)))

  -- the step at a mark is the tick that ended it
  pub mark_tick : (t j : ℕ) → 0 < t → t < clock z j → Accepted z (mark t) step.Tick
  mark_tick t j p l = by (clock_step z (mark t))
    where
      by : ClockStep z (mark t) → Accepted z (mark t) step.Tick
      by (rises a e) = a
      by (rests e) = absurd (omega (arith, mark_not_before t (suc (mark t)) j p l (omega (arith, e, mark_in_time t))))

  -- in tick 0 nobody's life changes
  pub tick_zero : (b : ℕ) → clock z b ≡ 0 → (q : ℕ) → (station z b q).life ≡ (station z 0 q).life
  tick_zero zero e q = refl
  tick_zero (suc b) e q =
      let early : clock z b ≡ 0 = omega (arith, clock_on z b (suc b) (omega arith)) in by early (move_step z b) (tick_zero b early q)
    where
      late : (x : Step R) → Accepted z b x → is_move x ≡ true → 0 < clock z b
      late step.Tick a m = absurd (both_ways _ refl m)
      late (step.Enter p) a m = enters_late z b p a
      late (step.Leave p) a m = leaves_late z b p a
      late (step.Crash p) a m = absurd (both_ways _ refl m)
      late (step.Read p) a m = absurd (both_ways _ refl m)
      late (step.Write p r) a m = absurd (both_ways _ refl m)
      late (step.Deliver n p) a m = absurd (both_ways _ refl m)

      by : clock z b ≡ 0 → MoveStep z b → (station z b q).life ≡ (station z 0 q).life → (station z (suc b) q).life ≡ (station z 0 q).life
      by early (moves_one x a m n) h = absurd (omega (arith, late x a m))
      by early (moves_none f) h = f q ∙ h

  -- where a tick ends, lives are as at its mark
  pub lives_at_mark : (b : ℕ) → Accepted z b step.Tick → clock z (suc b) ≡ clock z b + 1 → (q : ℕ) → (station z b q).life ≡ (station z (mark (clock z b)) q).life
  lives_at_mark b a e q =
      elim (cases_lt 0 (clock z b)) [
        | inl l ↦
            let same : b ≡ mark (clock z b) = omega (arith, mark_not_before (clock z b) b (suc b) l (omega arith) (le_refl _), mark_before (clock z b) (suc b) (omega arith)) in
            ap (λ i. (station z i q).life) same
        | inr l ↦
            let none : clock z b ≡ 0 = omega arith in
            tick_zero b none q ∙ ap (λ i. (station z i q).life) (sym (ap mark none ∙ mark_zero))
      ]

  -- from the mark of a tick that is not over, nobody's life changes
  pub lives_from_mark : (t b : ℕ) → clock z b ≤ t → mark t ≤ b → (q : ℕ) → (station z b q).life ≡ (station z (mark t) q).life
  lives_from_mark zero b h l q = tick_zero b (omega arith) q ∙ ap (λ i. (station z i q).life) (sym mark_zero)
  lives_from_mark (suc t) b h l q =
      let here : (i : ℕ) → i ≤ end → clock z i ≤ suc t → i ≤ mark (suc t) = λ i k e. subst (λ x. i ≤ x) (sym (mark_later (suc t) (omega arith))) (last_is_last (suc t) i end k e) in
      elim (cases_lt end b) [
        | inl k ↦ ap (λ s. (s.stations q).life) (past_end b (mark (suc t)) (here end (le_refl _) (omega (arith, clock_on z end b (omega arith)))) l)
        | inr k ↦ ap (λ i. (station z i q).life) (antisym b (mark (suc t)) (here b k h) l)
      ]
    where
      antisym : (i j : ℕ) → i ≤ j → j ≤ i → i ≡ j
      antisym i j a b = omega arith

      past_end : (i j : ℕ) → end ≤ j → j ≤ i → state z i ≡ state z j
      past_end i j a b = (onward z (λ k. (end ≤ k) × (state z k ≡ state z j)) (λ k f. (omega (arith, f.0), after_end z k f.0 ∙ f.1)) j i b (a, refl)).1
