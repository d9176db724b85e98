-- Two windows back: the mark two windows before a position, what was there by then, and a place at most one window later.
-- Rests on `CensusOfRuns`.
use Rattle.std.proofs.Common.{◌≡◌, ℕ, ◌+◌, ◌-◌, ◌*◌, ◌<◌, ◌≤◌, ◌⊎◌, refl, inl, inr, le_refl, arith}
use Rattle.std.proofs.lemmas.Bool.{cases_lt}
use Rattle.counting.specs.Marks.{Near}
use Rattle.counting.proofs.Marks.{back_behind, near_back}
use Rattle.runs.proofs.Positions.{Run, clock, D}
use Rattle.runs.proofs.Start.{delay_some}
use Rattle.runs.proofs.Clocks.{sooner, comes_by}
use Rattle.runs.proofs.Marks.{mark}
use Rattle.runs.proofs.CensusOfRuns.{marks}

module _ {R : Type 0} (z : Run R) where
  -- the mark two windows before v, or the start
  abbrev pub two_back : ℕ → ℕ
  two_back v = mark z (clock z v - 2 * D z)

  pub two_back_clock : (v : ℕ) → clock z (two_back v) ≤ clock z v - 2 * D z
  two_back_clock v = (back_behind (marks z v) (D z) (delay_some z) 2 v (omega arith) (le_refl _)).1

  -- it is before whatever is less than two windows earlier than v, past tick 0
  pub two_back_before : (v e : ℕ) → clock z v < clock z e + 2 * D z → 0 < clock z e → two_back v < e
  two_back_before v e soon late = sooner z (two_back v) e (omega (arith, two_back_clock v))

  -- what is one window later at most is three windows from there
  pub near_two_back : (last v b : ℕ) → b ≤ last → clock z v ≤ clock z b → clock z b ≤ clock z v + D z → Near (marks z last) (D z) 3 (clock z v - 2 * D z) b
  near_two_back last v b bl on soon = near_back (marks z last) (D z) (delay_some z) 1 2 v b (omega arith) on bl (omega arith)

  -- a place one window after v at most: i itself, or one where a whole window has gone
  pub record WindowEnd (v i b : ℕ) : Type 0 where
    pub inside : b ≤ i
    pub after : v < b
    pub soon : clock z b ≤ clock z v + D z
    pub end : (b ≡ i) ⊎ (clock z b ≡ clock z v + D z)

  pub window_end : (v i : ℕ) → v < i → (b : ℕ) × WindowEnd v i b
  window_end v i l =
      elim (cases_lt (clock z v + D z) (clock z i)) [
        | inl k ↦
            let (b, x, y, e) = comes_by z (clock z v + D z) v i (omega arith) (omega arith) (omega arith) in
            (b, record { inside = y; after = sooner z v b (omega (arith, delay_some z)); soon = omega arith; end = inr e })
        | inr k ↦ (i, record { inside = le_refl _; after = l; soon = k; end = inl refl })
      ]
