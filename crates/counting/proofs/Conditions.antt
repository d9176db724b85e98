-- What each of the five conditions on the settings is for, in numbers of stations: over three windows someone lasts, someone
-- counted lasts, those that last are enough to join and to end a phase, and two quorums are more than all that were there.
-- It rests on growth over windows and on the settings' named facts, each of which is used once.
use Rattle.std.proofs.Common.{◌≡◌, ℕ, ◌+◌, ◌-◌, ◌*◌, ◌^◌, ◌<◌, ◌≤◌, ap, inl, inr, le_trans, mul-le-mul_right, mul-le-mul_left, pow-suc, arith}
use native.Mathlib.Nat.{pow-zero}
use Rattle.std.proofs.lemmas.Bool.{cases_lt}
use Rattle.settings.specs.declared.choice.Choice.{Choice}
use Rattle.settings.specs.Conditions.{P, M, square, cube}
use Rattle.settings.specs.Admission.{Admitted}
use Rattle.settings.proofs.Facts.{nmin_low, survivors_stay, joiners_hear, join_bound_met, quorum_met, quorums_touch}
use Rattle.counting.specs.Windows.{Growth}
use Rattle.counting.specs.Conditions.{ThreeWindows, SomeoneLasts, SomeoneCountedLasts, EchoesSuffice, RepliesSuffice, QuorumsOverlap}
use Rattle.counting.proofs.Growth.{grown}

-- The powers in the conditions are products; growth has them as powers.
pow_two : (x : ℕ) → x ^ 2 ≡ square x
pow_two x = omega (arith, pow-suc x 1, ap (λ (y : ℕ). y * x) (pow-suc x 0), ap (λ (y : ℕ). y * x * x) (pow-zero x))

pow_three : (x : ℕ) → x ^ 3 ≡ cube x
pow_three x = omega (arith, pow-suc x 2, ap (λ (y : ℕ). y * x) (pow_two x))

pow_four : (x : ℕ) → x ^ 4 ≡ x ^ 2 * x ^ 2
pow_four x = omega (arith, pow-suc x 3, ap (λ (y : ℕ). y * x) (pow-suc x 2), ap (λ (y : ℕ). x ^ 2 * y) (pow_two x))

pow_six : (x : ℕ) → square (cube x) ≡ square x * square x * square x
pow_six x = omega arith

module _ (c : Choice) (h : Admitted c) where
  survivors_last : 10 ^ 8 + c.nmin * (c.delta * P c ^ 3) ≤ c.nmin * (100 * M c ^ 3)
  survivors_last = rw (pow_three (P c), pow_three (M c)) (survivors_stay c h)

  joiners_meet : 10 ^ 8 + c.nmin * ((100 + c.delta) * P c ^ 3) ≤ c.nmin * ((100 + c.gamma) * M c ^ 3)
  joiners_meet = rw (pow_three (P c), pow_three (M c)) (joiners_hear c h)

  echoes_enough : (c.gamma + c.delta) * P c ^ 3 ≤ 100 * M c ^ 3
  echoes_enough = rw (pow_three (P c), pow_three (M c)) (join_bound_met c h)

  replies_enough : 100 * c.beta * P c ^ 2 + c.delta * P c ^ 3 ≤ 100 * M c ^ 3
  replies_enough = rw (pow_two (P c), pow_three (P c), pow_three (M c)) (quorum_met c h)

-- A condition that holds of the least number of stations, with 10^8 to spare, holds of any larger number.
spare : (least before lose keep : ℕ) → 10 ^ 8 + least * lose ≤ least * keep → least ≤ before → 10 ^ 8 + before * lose ≤ before * keep
spare least before lose keep h l =
    let less : lose ≤ keep = elim (cases_lt keep lose) [ inl k ↦ absurd (omega (arith, mul-le-mul_left least (below k))) | inr k ↦ k ] in
    let is : keep ≡ lose + (keep - lose) = omega arith in
    omega (arith, ap (λ (x : ℕ). least * x) is, ap (λ (x : ℕ). before * x) is, mul-le-mul_right (keep - lose) l)
  where
    below : {x y : ℕ} → x < y → x ≤ y
    below k = omega arith

module _ (c : Choice) (before entered left after crashed : ℕ) (w : ThreeWindows c before entered left after crashed) where
  -- the crashed, as a share of those present before
  crashed_share : 100 ^ 4 * crashed ≤ c.delta * (P c ^ 3 * before)
  crashed_share = omega (arith, mul-le-mul_left c.delta (grown c 3 before entered left after w.growth), w.few_crashed)

  -- how many last, as a share
  lasting_share : (lasting : ℕ) → before ≤ lasting + left + crashed → 100 * (M c ^ 3 * before) ≤ 100 ^ 4 * lasting + c.delta * (P c ^ 3 * before)
  lasting_share lasting cover = omega (arith, crashed_share, w.growth.few_left)

pub someone_lasts : SomeoneLasts
someone_lasts c before entered left after crashed lasting w cover =
    let share = lasting_share c before entered left after crashed w lasting cover in
    let more = spare c.nmin before (c.delta * P c ^ 3) (100 * M c ^ 3) (survivors_last c w.admitted) w.enough in
    omega arith

pub someone_counted_lasts : SomeoneCountedLasts
someone_counted_lasts c before entered left after crashed bound counted lasting w low reached cover =
    let dead = crashed_share c before entered left after crashed w in
    let more = spare c.nmin before ((100 + c.delta) * P c ^ 3) ((100 + c.gamma) * M c ^ 3) (joiners_meet c w.admitted) w.enough in
    omega (arith, mul-le-mul_left c.gamma low, w.growth.few_entered, w.growth.few_left)

pub echoes_suffice : EchoesSuffice
echoes_suffice c before entered left after crashed bound lasting echoes w high cover told =
    let share = lasting_share c before entered left after crashed w lasting cover in
    omega (arith, mul-le-mul_right before (echoes_enough c w.admitted), mul-le-mul_left c.gamma high)

pub replies_suffice : RepliesSuffice
replies_suffice c before entered left after crashed base lasting replies w high cover told =
    let share = lasting_share c before entered left after crashed w lasting cover in
    omega (arith, mul-le-mul_right before (replies_enough c w.admitted), mul-le-mul_left c.beta high)

-- the last condition, over the second powers p and m of P and M
abbrev Touching : ℕ → ℕ → ℕ → ℕ → Type 0
Touching beta delta p m =
    100 * (p * p * p) * m + beta * delta * (10 ^ 6 * (p * p) + 100 * (p * p) * m) < beta * (10 ^ 4 * (m * m * m) + m * m * m * p)

quorums_large : (c : Choice) → Admitted c → Touching c.beta c.delta (P c ^ 2) (M c ^ 2)
quorums_large c h = rw (pow_two (P c), pow_two (M c), ← pow_six (P c), ← pow_six (M c)) (quorums_touch c h)

-- a phase's base: all that were present four windows before, without those that left since and those crashed two windows before
pub base_low : (c : Choice) (earlier entered left after present base crashed : ℕ) → Growth c 4 earlier entered left after
    → 100 * crashed ≤ c.delta * present → earlier ≤ base + left + crashed
    → M c ^ 4 * earlier ≤ 100 ^ 4 * base + 100 ^ 3 * (c.delta * present)
base_low c earlier entered left after present base crashed g few cover = omega (arith, g.few_left)

-- The sum, each product by one name: what the condition keeps of the members and what it takes off for the crashed,
-- and the numbers of both phases times one factor.
too_few : (kept kept' off dead dead' top low low' base base' quorum quorum' everyone present' : ℕ)
    → 100 * top + (100 ^ 3 * off + 100 * dead') + present' ≤ 100 ^ 2 * kept + kept' → 1 ≤ present'
    → base ≤ 100 * quorum → base' ≤ 100 * quorum'
    → low ≤ 100 ^ 4 * base + 100 ^ 3 * dead → low' ≤ 100 ^ 4 * base' + 100 ^ 3 * dead'
    → 100 ^ 4 * kept ≤ low → 100 ^ 2 * kept' ≤ low' → dead ≤ 100 ^ 2 * off
    → 100 ^ 2 * everyone ≤ top → quorum + quorum' ≤ everyone → ⊥
too_few kept kept' off dead dead' top low low' base base' quorum quorum' everyone present' a b c d e f g h i j k = omega arith

-- p and m are the second powers of P and M
overlap : (beta delta p m earlier present base quorum earlier' present' base' quorum' everyone : ℕ) → Touching beta delta p m → 1 ≤ present'
    → m * m * earlier ≤ 100 ^ 4 * base + 100 ^ 3 * (delta * present) → beta * base ≤ 100 * quorum
    → m * m * earlier' ≤ 100 ^ 4 * base' + 100 ^ 3 * (delta * present') → beta * base' ≤ 100 * quorum'
    → 100 ^ 2 * present' ≤ p * earlier' → 100 ^ 2 * everyone ≤ p * present'
    → 100 ^ 4 * present' ≤ p * p * earlier → m * present ≤ 100 ^ 2 * present'
    → everyone < quorum + quorum'
overlap beta delta p m earlier present base quorum earlier' present' base' quorum' everyone touching one low share low' share' up few far down =
    elim (cases_lt everyone (quorum + quorum')) [ inl l ↦ l | inr l ↦ absurd (apart l) ]
  where
    -- the common factor, and a part of what the condition keeps
    k : ℕ
    k = p * p * m

    part : ℕ
    part = beta * (m * m * m)

    apart : quorum + quorum' ≤ everyone → ⊥
    apart l =
        too_few (part * present') (part * p * present') (beta * delta * (p * p) * present') (beta * delta * k * present) (beta * delta * k * present')
        (p * p * p * m * present') (k * beta * (m * m) * earlier) (k * beta * (m * m) * earlier') (k * beta * base) (k * beta * base') (k * quorum) (k * quorum') (k * everyone) present'
        (omega (arith, mul-le-mul_right present' touching)) one
        (omega (arith, mul-le-mul_left k share)) (omega (arith, mul-le-mul_left k share'))
        (omega (arith, mul-le-mul_left (k * beta) low)) (omega (arith, mul-le-mul_left (k * beta) low'))
        (omega (arith, mul-le-mul_left part far)) (omega (arith, mul-le-mul_left (part * p) up)) (omega (arith, mul-le-mul_left (beta * delta * (p * p)) down))
        (omega (arith, mul-le-mul_left k few)) (omega (arith, mul-le-mul_left k l))

pub quorums_overlap : QuorumsOverlap
quorums_overlap c earlier present base quorum earlier' present' base' quorum' everyone h x x' enough up few far down =
    overlap c.beta c.delta (P c ^ 2) (M c ^ 2) earlier present base quorum earlier' present' base' quorum' everyone
    (quorums_large c h) (le_trans (nmin_low c h) enough)
    (rw (pow_four (M c)) at x.base_low) x.share (rw (pow_four (M c)) at x'.base_low) x'.share
    up few (rw (pow_four (P c)) at far) down
