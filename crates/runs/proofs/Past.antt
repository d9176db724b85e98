-- What a station that is informed knows of the past: who had entered and who had left 2D ticks ago. Rests on `Origins`.
use Rattle.std.proofs.Common.{◌≡◌, ℕ, ◌+◌, ◌-◌, ◌*◌, ◌≤◌, true, inl, inr, arith}
use Rattle.network.specs.Keeping.{is_used}
use Rattle.runs.proofs.Positions.{Run, station, clock, D}
use Rattle.runs.proofs.Growing.{has_left}
use Rattle.runs.proofs.Changes.{came, went}
use Rattle.runs.proofs.Clocks.{clock_on, enters_late, leaves_late}
use Rattle.runs.proofs.Facts.{Fact, entered, left, holds}
use Rattle.runs.proofs.Travel.{Announced}
use Rattle.runs.proofs.Origins.{enter_announced, leave_announced, initial_entered, initial_known}

module _ {R : Type 0} (z : Run R) where
  -- q holds at i every fact that was announced 2D ticks ago
  abbrev pub Informed : ℕ → ℕ → Type 0
  Informed i q = (x : ℕ) (F : Fact) → Announced z x F → clock z x + 2 * D z ≤ clock z i → holds (station z i q) F ≡ true

  -- then it knows who had entered, and who had left, 2D ticks ago
  module _ (i q a : ℕ) (back : clock z a ≤ clock z i - 2 * D z) (informed : Informed i q) where
    pub past_left : (r : ℕ) → has_left (station z a r).life ≡ true → (station z i q).known.left r ≡ true
    unfolding holds
    past_left r h =
        let (e, l, x) = went z r a h in
        informed e (left r) (leave_announced z e r x) (omega (arith, clock_on z e a (omega arith), leaves_late z e r x))

    pub past_entered : (station z i q).joined ≡ true → (r : ℕ) → is_used (station z a r).life ≡ true → (station z i q).known.entered r ≡ true
    unfolding holds
    past_entered j r u =
        elim (came z r a u) [
          | inl s ↦ initial_known z i q (entered r) (initial_entered z r s) j
          | inr (e, l, x) ↦ informed e (entered r) (enter_announced z e r x) (omega (arith, clock_on z e a (omega arith), enters_late z e r x))
        ]
