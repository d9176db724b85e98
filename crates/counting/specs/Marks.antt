-- Positions of a run and the ticks of its clock.
use Rattle.std.specs.Prelude.{◌≡◌, ℕ, ◌+◌, ◌-◌, ◌*◌, ◌<◌, ◌≤◌}

-- The tick of each position, and the mark of each tick, the position at which it ends; tick 0 has its mark at the start.
-- Up to the position `last`, a tick that is over has its mark behind, and marks are in order.
pub record Marks (last : ℕ) : Type 0 where
  pub clock : ℕ → ℕ
  pub mark : ℕ → ℕ
  pub clock_start : clock 0 ≡ 0
  pub mark_start : mark 0 ≡ 0
  pub mark_behind : (t b : ℕ) → b ≤ last → t < clock b → mark t ≤ b
  pub mark_clock : (t b : ℕ) → b ≤ last → t < clock b → clock (mark t) ≤ t
  pub marks_rise : (t u b : ℕ) → b ≤ last → t ≤ u → u < clock b → mark t ≤ mark u

module _ {last : ℕ} (m : Marks last) (d : ℕ) where
  -- b is at most i windows of d ticks after the mark of tick t
  pub record Near (i t b : ℕ) : Type 0 where
    pub after : m.mark t ≤ b
    pub by_last : b ≤ last
    pub soon : m.clock b ≤ t + i * d

  -- the mark i windows before a position, or the start
  abbrev pub back : ℕ → ℕ → ℕ
  back i b = m.mark (m.clock b - i * d)
