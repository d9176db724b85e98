-- Marks some windows before a position: they are behind it, in order, and near to what comes soon after.
-- It rests on the order of marks alone, and on windows of at least one tick.
use Rattle.std.proofs.Common.{◌≡◌, ℕ, zero, suc, ◌+◌, ◌-◌, ◌*◌, ◌<◌, ◌≤◌, ◌⊎◌, ap, ◌∙◌, inl, inr, le_trans, mul-le-mul_right, mul-le-mul, arith}
use Rattle.counting.specs.Marks.{Marks, Near, back}

module _ {last : ℕ} (m : Marks last) (d : ℕ) (long : 1 ≤ d) where
  -- the tick i windows before a position is tick 0, or over
  past : (i b : ℕ) → 1 ≤ i → (m.clock b - i * d ≡ 0) ⊎ (m.clock b - i * d < m.clock b)
  past i b one = at (m.clock b) (mul-le-mul one long)
    where
      at : (t : ℕ) → 1 ≤ i * d → (t - i * d ≡ 0) ⊎ (t - i * d < t)
      at zero l = inl (omega arith)
      at (suc t) l = inr (omega arith)

  -- the mark of tick 0, or of a tick that is over
  mark_past : (t b : ℕ) → (t ≡ 0) ⊎ (t < m.clock b) → b ≤ last → (m.mark t ≤ b) × (m.clock (m.mark t) ≤ t)
  mark_past t b (inl e) bl =
      let start : m.mark t ≡ 0 = ap m.mark e ∙ m.mark_start in
      (omega arith, omega (arith, ap m.clock start ∙ m.clock_start))
  mark_past t b (inr k) bl = (m.mark_behind t b bl k, m.mark_clock t b bl k)

  pub back_behind : (i b : ℕ) → 1 ≤ i → b ≤ last → (back m d i b ≤ b) × (m.clock (back m d i b) ≤ m.clock b - i * d)
  back_behind i b one bl = mark_past (m.clock b - i * d) b (past i b one) bl

  -- more windows before an earlier tick is no later
  pub back_rises : (i j w r : ℕ) → 1 ≤ i → i ≤ j → r ≤ last → m.clock w ≤ m.clock r → back m d j w ≤ back m d i r
  back_rises i j w r one ij rl wr = at (m.clock w - j * d) (m.clock r - i * d) (omega (arith, mul-le-mul_right d ij)) (past i r one)
    where
      at : (t u : ℕ) → t ≤ u → (u ≡ 0) ⊎ (u < m.clock r) → m.mark t ≤ m.mark u
      at t u l (inl e) = let same : t ≡ u = omega arith in omega (arith, ap m.mark same)
      at t u l (inr k) = m.marks_rise t u r rl l k

  -- a position at most i windows after r is near the mark j windows before r
  pub near_back : (i j r b : ℕ) → 1 ≤ j → m.clock r ≤ m.clock b → b ≤ last → m.clock b ≤ m.clock r + i * d → Near m d (i + j) (m.clock r - j * d) b
  near_back i j r b one rb bl soon = record { after = behind (past j r one); by_last = bl; soon = omega arith }
    where
      behind : (m.clock r - j * d ≡ 0) ⊎ (m.clock r - j * d < m.clock r) → m.mark (m.clock r - j * d) ≤ b
      behind (inl e) = (mark_past (m.clock r - j * d) b (inl e) bl).0
      behind (inr k) = (mark_past (m.clock r - j * d) b (inr (omega arith)) bl).0

  -- so is the mark i windows before a later position
  pub back_near : (k i j w r : ℕ) → 1 ≤ i → i ≤ j → r ≤ last → m.clock w ≤ m.clock r → m.clock r - i * d ≤ m.clock w - j * d + k * d
      → Near m d k (m.clock w - j * d) (back m d i r)
  back_near k i j w r one ij rl wr close =
      let (behind, tick) = back_behind i r one rl in
      record { after = back_rises i j w r one ij rl wr; by_last = le_trans behind rl; soon = le_trans tick close }
