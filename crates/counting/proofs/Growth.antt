-- Arrivals and departures over several windows, from the limit on one window: in whole numbers, with no division.
-- It rests on the record of windows alone; of the settings it uses that churn is at most 15 hundredths.
use Rattle.std.proofs.Common.{◌≡◌, ℕ, zero, suc, ◌+◌, ◌-◌, ◌*◌, ◌^◌, ◌<◌, ◌≤◌, ap, inl, inr, le_trans, le_refl, mul-le-mul_left, pow-suc, arith}
use native.Mathlib.Nat.{pow-zero, pow-le-pow_left}
use Rattle.std.proofs.lemmas.Bool.{cases_lt}
use Rattle.settings.specs.declared.choice.Choice.{Choice}
use Rattle.settings.specs.Conditions.{P, M}
use Rattle.settings.proofs.Facts.{alpha_high}
use Rattle.counting.specs.Marks.{Marks, Near}
use Rattle.counting.specs.Windows.{Windows, Growth, GrowthOverWindows}

-- The arithmetic of one window more. h, p and m stand for the powers of 100, P and M; `before` stations are present at first,
-- `e` entered and `l` left up to the window's edge, where `edge` are present, and `e'` and `l'` in the rest.

-- the edge is where the last window begins
enter_more : (h p alpha before e edge e' entered : ℕ) → entered ≤ e + e' → edge ≤ before + e → 100 * e' ≤ alpha * edge
    → h * (before + e) ≤ p * before → h * 100 * (before + entered) ≤ p * (100 + alpha) * before
enter_more h p alpha before e edge e' entered parts there few up =
    let one : 100 * (before + entered) ≤ (100 + alpha) * (before + e) = omega (arith, mul-le-mul_left alpha there) in
    omega (arith, mul-le-mul_left h one, mul-le-mul_left (100 + alpha) up)

-- the edge is where the first window ends; d is h - m, and g is m - d, not below 0 up to the fourth window
leave_parts : (d g alpha m₁ before e l edge l' left : ℕ) → alpha + m₁ ≡ 100 → left ≤ l + l' → edge + l ≡ before + e → 100 * (e + l) ≤ alpha * before
    → (g + d) * edge + (g + d + d) * l' ≤ (g + d + d) * edge
    → (g + d) * m₁ * before + (g + d + d) * 100 * left ≤ (g + d + d) * 100 * before
leave_parts d g alpha m₁ before e l edge l' left hundred parts balance few rest =
    let few_left : 100 * l ≤ alpha * before = omega arith in
    omega (
      arith,
      mul-le-mul_left (g + d + d) parts,
      mul-le-mul_left d few,
      mul-le-mul_left g few_left,
      ap (λ (x : ℕ). d * x) balance,
      ap (λ (x : ℕ). (g + d) * before * x) hundred,
    )

leave_more : (h m alpha m₁ before e l edge l' left : ℕ) → m ≤ h → h ≤ 2 * m → alpha + m₁ ≡ 100 → left ≤ l + l' → edge + l ≡ before + e → 100 * (e + l) ≤ alpha * before
    → m * edge + h * l' ≤ h * edge → m * m₁ * before + h * 100 * left ≤ h * 100 * before
leave_more h m alpha m₁ before e l edge l' left low half hundred parts balance few rest =
    let is_m : m ≡ (2 * m - h) + (h - m) = omega arith in
    let is_h : h ≡ (2 * m - h) + (h - m) + (h - m) = omega arith in
    let r = leave_parts (h - m) (2 * m - h) alpha m₁ before e l edge l' left hundred parts balance few in
    rw (← is_h, ← is_m) at r rest

-- a stretch inside fewer windows is inside one more
enter_wider : (h p alpha before entered : ℕ) → h * (before + entered) ≤ p * before → h * 100 * (before + entered) ≤ p * (100 + alpha) * before
enter_wider h p alpha before entered up = omega arith

leave_wider : (h m m₁ before left : ℕ) → m₁ ≤ 100 → m * before + h * left ≤ h * before → m * m₁ * before + h * 100 * left ≤ h * 100 * before
leave_wider h m m₁ before left low down = omega (arith, mul-le-mul_left (m * before) low)

-- up to three windows, no more than half can go
half_stays : (m i : ℕ) → 85 ≤ m → i ≤ 3 → 100 ^ i ≤ 2 * m ^ i
half_stays m zero a b = omega (arith, pow-le-pow_left a 0)
half_stays m (suc zero) a b = omega (arith, pow-le-pow_left a 1)
half_stays m (suc (suc zero)) a b = omega (arith, pow-le-pow_left a 2)
half_stays m (suc (suc (suc zero))) a b = omega (arith, pow-le-pow_left a 3)
half_stays m (suc (suc (suc (suc i)))) a b = absurd (omega arith)

pow_one : (x : ℕ) → x ^ 1 ≡ x
pow_one x = omega (arith, pow-suc x 0, ap (λ (y : ℕ). y * x) (pow-zero x))

module _ {last : ℕ} (m : Marks last) (c : Choice) (low : c.alpha ≤ 15) (w : Windows m c) where
  -- how many were present when tick t ended, and entered and left since
  abbrev before : ℕ → ℕ
  before t = w.present (m.mark t)

  abbrev entered : ℕ → ℕ → ℕ
  entered t b = w.entered (m.mark t) b

  abbrev left : ℕ → ℕ → ℕ
  left t b = w.left (m.mark t) b

  -- from t to the mark of u, k windows later, and on to b
  record Edge (i k t u b : ℕ) : Type 0 where
    first : Near m c.d k t (m.mark u)
    rest : Near m c.d i u b

  edge : (i k t u b : ℕ) → t ≤ u → u ≤ t + k * c.d → u < m.clock b → m.clock b ≤ u + i * c.d → b ≤ last → Edge i k t u b
  edge i k t u b tu uk ub bi bl =
      let behind = m.mark_behind u b bl ub in
      record {
        first = record { after = m.marks_rise t u b bl tu ub; by_last = le_trans behind bl; soon = le_trans (m.mark_clock u b bl ub) uk };
        rest = record { after = behind; by_last = bl; soon = bi };
      }

  enter_few : (i t b : ℕ) → Near m c.d (suc i) t b → 100 ^ suc i * (before t + entered t b) ≤ P c ^ suc i * before t
  enter_few zero t b n = rw (pow_one (P c)) (omega (arith, w.churn t b n))
  enter_few (suc i) t b n =
      rw (pow-suc 100 (suc i), pow-suc (P c) (suc i))
      (elim (cases_lt (t + suc i * c.d) (m.clock b)) [
        | inr near ↦ enter_wider (100 ^ suc i) (P c ^ suc i) c.alpha (before t) (entered t b) (enter_few i t b (record { after = n.after; by_last = n.by_last; soon = near }))
        | inl far ↦
            let u = t + suc i * c.d in
            let e = edge 1 (suc i) t u b (omega arith) (le_refl _) far (omega (arith, n.soon)) n.by_last in
            let few = w.churn u b e.rest in
            let same = w.balance (m.mark t) (m.mark u) e.first.after e.first.by_last in
            enter_more (100 ^ suc i) (P c ^ suc i) c.alpha (before t) (entered t (m.mark u)) (before u) (entered u b) (entered t b)
            (w.entered_parts (m.mark t) (m.mark u) b e.first.after e.rest.after n.by_last) (omega arith) (omega arith) (enter_few i t (m.mark u) e.first)
      ])

  leave_few : (i t b : ℕ) → i ≤ 3 → Near m c.d (suc i) t b → M c ^ suc i * before t + 100 ^ suc i * left t b ≤ 100 ^ suc i * before t
  leave_few zero t b three n =
      let hundred : c.alpha + M c ≡ 100 = omega arith in
      rw (pow_one (M c)) (omega (arith, w.churn t b n, ap (λ (x : ℕ). x * before t) hundred))
  leave_few (suc i) t b three n =
      let most : M c ≤ 100 = omega arith in
      rw (pow-suc 100 (suc i), pow-suc (M c) (suc i))
      (elim (cases_lt (t + suc i * c.d) (m.clock b)) [
        | inr near ↦ leave_wider (100 ^ suc i) (M c ^ suc i) (M c) (before t) (left t b) most (leave_few i t b (omega arith) (record { after = n.after; by_last = n.by_last; soon = near }))
        | inl far ↦
            let u = t + c.d in
            let e = edge (suc i) 1 t u b (omega arith) (omega arith) (omega arith) (omega (arith, n.soon)) n.by_last in
            leave_more (100 ^ suc i) (M c ^ suc i) c.alpha (M c) (before t) (entered t (m.mark u)) (left t (m.mark u)) (before u) (left u b) (left t b)
            (pow-le-pow_left most (suc i)) (half_stays (M c) (suc i) (omega arith) three) (omega arith)
            (w.left_parts (m.mark t) (m.mark u) b e.first.after e.rest.after n.by_last) (w.balance (m.mark t) (m.mark u) e.first.after e.first.by_last)
            (w.churn t (m.mark u) e.first) (leave_few i u b (omega arith) e.rest)
      ])

pub growth : GrowthOverWindows
growth last m c h w zero t b one four n = absurd (omega arith)
growth last m c h w (suc i) t b one four n =
    record {
      balance = w.balance (m.mark t) b n.after n.by_last;
      few_entered = enter_few m c (alpha_high c h) w i t b n;
      few_left = leave_few m c (alpha_high c h) w i t b (omega arith) n;
    }

-- What growth says of the number present at the end, and of sets of stations between the two.
module _ (c : Choice) (i before entered left after : ℕ) (g : Growth c i before entered left after) where
  -- at most those present before and those that entered
  pub at_most : (some : ℕ) → some ≤ before + entered → 100 ^ i * some ≤ P c ^ i * before
  at_most some l = le_trans (mul-le-mul_left (100 ^ i) l) g.few_entered

  -- at least those present before without those that left
  pub at_least : (some : ℕ) → before ≤ some + left → M c ^ i * before ≤ 100 ^ i * some
  at_least some l = omega (arith, mul-le-mul_left (100 ^ i) l, g.few_left)

  pub grown : 100 ^ i * after ≤ P c ^ i * before
  grown = at_most after (omega (arith, g.balance))

  pub shrunk : M c ^ i * before ≤ 100 ^ i * after
  shrunk = at_least after (omega (arith, g.balance))
