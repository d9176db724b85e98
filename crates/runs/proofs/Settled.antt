-- A station that entered 2D ticks ago holds every fact that was announced D ticks ago. It has a witness: one who was there
-- 2D ticks before the entry, and D ticks after it. Rests on `Travel` and `CensusOfRuns`.
use Rattle.std.proofs.Common.{◌≡◌, ℕ, zero, suc, ◌+◌, ◌-◌, ◌*◌, ◌<◌, ◌≤◌, true, ◌⊎◌, inl, inr, arith}
use Rattle.std.proofs.lemmas.Bool.{cases_lt}
use Rattle.network.specs.declared.step.Step.TheVariants as step
use Rattle.network.specs.Keeping.{is_used, is_present}
use Rattle.runs.proofs.Positions.{Run, station, clock, active_at, D, Accepted}
use Rattle.runs.proofs.Start.{delay_some}
use Rattle.runs.proofs.Growing.{present_used}
use Rattle.runs.proofs.Changes.{entered_used, grown, active_before, came}
use Rattle.runs.proofs.Clocks.{clock_on, sooner, comes_by, enters_late}
use Rattle.runs.proofs.Marks.{mark, mark_before, mark_clock}
use Rattle.runs.proofs.Facts.{Fact, holds}
use Rattle.runs.proofs.Travel.{holds_on, Announced, direct, since_entry, answer_tells, relay, Answered, answers}
use Rattle.runs.proofs.CensusOfRuns.{someone_stays}

module _ {R : Type 0} (z : Run R) where
  -- the witness q of the entry of p at e, which is over at i: a founder, or it entered 2D ticks before
  pub record Witness (e p i : ℕ) : Type 0 where
    pub q : ℕ
    pub b : ℕ
    pub at_b : clock z b ≡ clock z e + D z
    pub active : active_at z b q ≡ true
    pub answered : Answered z e p q b i
    pub old : (is_used (station z 0 q).life ≡ true) ⊎ ((f : ℕ) × (f < e) × Accepted z f (step.Enter q) × (clock z f + 2 * D z ≤ clock z e))

  pub has_witness : (e p i : ℕ) → Accepted z e (step.Enter p) → active_at z i p ≡ true → clock z e + 2 * D z ≤ clock z i → Witness e p i
  has_witness e p i ent v late =
      let (b, l, m, at_b) = comes_by z (clock z e + D z) e i (by_then (sooner z e i (omega (arith, delay_some z)))) (omega arith) (omega arith) in
      let (q, there, here) = someone_stays z start b (by_then (omega (arith, sooner z e b (omega (arith, delay_some z)), long_before))) (omega arith) in
      from b q at_b there here
    where
      by_then : {a b : ℕ} → a < b → a ≤ b
      by_then l = omega arith

      -- 2D ticks before the entry, or the start
      start : ℕ
      start = clock z e - 2 * D z

      early : start < clock z e
      early = omega (arith, enters_late z e p ent, delay_some z)

      long_before : mark z start < e
      long_before = mark_before z start e early

      from : (b q : ℕ) → clock z b ≡ clock z e + D z → is_present (station z (mark z start) q).life ≡ true → active_at z b q ≡ true → Witness e p i
      from b q at_b there here =
          let used = present_used _ there in
          let e_b : e < b = sooner z e b (omega (arith, delay_some z)) in
          record {
            q = q;
            b = b;
            at_b = at_b;
            active = here;
            answered = answers z e p q b i ent (active_before z q (suc e) b e_b ((grown z q (mark z start) (suc e) (omega (arith, long_before))).used used) here) at_b here v late;
            old = elim (came z q (mark z start) used) [
              | inl f ↦ inl f
              | inr f ↦ inr (f.0, omega (arith, f.1, long_before), f.2, omega (arith, clock_on z f.0 (mark z start) (by_then f.1), mark_clock z start e early, enters_late z f.0 q f.2))
            ];
          }

  -- so it is for those who entered before step n
  abbrev SettlesBefore : ℕ → Type 0
  SettlesBefore n = (e p i x : ℕ) (F : Fact) → e < n → Accepted z e (step.Enter p) → active_at z i p ≡ true → clock z e + 2 * D z ≤ clock z i → Announced z x F → clock z x + D z ≤ clock z i
      → holds (station z i p) F ≡ true

  -- what was announced before the entry: the witness was there and relays it, or entered later and knew it when it answered
  by_witness : (e p i x : ℕ) (F : Fact) → SettlesBefore e → Accepted z e (step.Enter p) → active_at z i p ≡ true → clock z e + 2 * D z ≤ clock z i → Announced z x F → x < e
      → Witness e p i → holds (station z i p) F ≡ true
  by_witness e p i x F earlier ent v late a l w = by w.old
    where
      order : clock z x ≤ clock z e
      order = clock_on z x e (omega arith)

      x_b : x < w.b
      x_b = sooner z x w.b (omega (arith, w.at_b, order, delay_some z))

      relayed : is_used (station z (suc x) w.q).life ≡ true → holds (station z i p) F ≡ true
      relayed u =
          relay z x e p w.answered.asked_at w.q w.answered.given_at w.b i F a ent w.answered.after w.answered.answer w.answered.before
          (active_before z w.q (suc x) w.b x_b u w.active) w.active (omega (arith, w.at_b, order)) v (omega (arith, order))

      told : (f : ℕ) → f < e → Accepted z f (step.Enter w.q) → clock z f + 2 * D z ≤ clock z e → x < f → holds (station z i p) F ≡ true
      told f m entq long k =
          let asked = clock_on z e w.answered.asked_at (omega (arith, w.answered.after)) in
          let first = clock_on z x f (omega arith) in
          let knew = earlier f w.q w.answered.asked_at x F m entq w.answered.answer.asked.before (omega arith) a (omega arith) in
          answer_tells z p w.answered.asked_at w.q w.answered.given_at i F w.answered.answer w.answered.before
          (holds_on z w.q w.answered.asked_at (suc w.answered.asked_at) F (omega arith) knew)

      by : (is_used (station z 0 w.q).life ≡ true) ⊎ ((f : ℕ) × (f < e) × Accepted z f (step.Enter w.q) × (clock z f + 2 * D z ≤ clock z e)) → holds (station z i p) F ≡ true
      by (inl u) = relayed ((grown z w.q 0 (suc x) (omega arith)).used u)
      by (inr (f, m, entq, long)) =
          elim (cases_lt x f) [
            | inl k ↦ told f m entq long k
            | inr k ↦ relayed ((grown z w.q (suc f) (suc x) (omega arith)).used (entered_used z w.q f entq))
          ]

  settles : (n : ℕ) → SettlesBefore n
  settles zero e p i x F l ent v late a soon = absurd (omega arith)
  settles (suc n) e p i x F l ent v late a soon =
      elim (cases_lt x e) [
        | inl k ↦ by_witness e p i x F (λ f q j y G m. settles n f q j y G (omega arith)) ent v late a k (has_witness e p i ent v late)
        | inr k ↦ direct z x p i F a (since_entry z e p (suc x) i ent (omega arith) (sooner z x i (omega (arith, delay_some z))) v) v soon
      ]

  pub settled : (e p i x : ℕ) (F : Fact) → Accepted z e (step.Enter p) → active_at z i p ≡ true → clock z e + 2 * D z ≤ clock z i → Announced z x F → clock z x + D z ≤ clock z i → holds (station z i p) F ≡ true
  settled e p i x F = settles (suc e) e p i x F (omega arith)
