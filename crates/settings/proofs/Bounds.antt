-- How large the powers and the two sides of the last condition can grow.
use Rattle.std.proofs.Common.{ℕ, ◌+◌, ◌*◌, ◌≤◌, le_refl, add-le-add}
use Rattle.std.proofs.lemmas.Nat.{mul-le}

pub powers_below : (x k : ℕ) → x ≤ k → (x * x ≤ k * k) × (x * x * x ≤ k * k * k)
powers_below x k h = (mul-le x x k k h h, mul-le (x * x) x (k * k) k (mul-le x x k k h h) h)

pub apart_below : (p3 m2 : ℕ) → p3 ≤ 1520875 → m2 ≤ 10000 → 100 * (p3 * p3) * m2 ≤ 2313060765625000000
apart_below p3 m2 h k = mul-le _ m2 231306076562500 10000 (mul-le 100 _ 100 2313060765625 (le_refl _) (mul-le p3 p3 1520875 1520875 h h)) k

pub crashed_below : (b d p2 m2 : ℕ) → b ≤ 100 → d ≤ 100 → p2 ≤ 13225 → m2 ≤ 10000 → b * d * (1000000 * (p2 * p2) + 100 * (p2 * p2) * m2) ≤ 3498012500000000000
crashed_below b d p2 m2 hb hd h k =
    let p4 = mul-le p2 p2 13225 13225 h h in
    mul-le (b * d) _ 10000 349801250000000 (mul-le b d 100 100 hb hd)
    (add-le-add (mul-le 1000000 _ 1000000 174900625 (le_refl _) p4) (mul-le _ m2 17490062500 10000 (mul-le 100 _ 100 174900625 (le_refl _) p4) k))

pub common_below : (b m3 p2 : ℕ) → b ≤ 100 → m3 ≤ 1000000 → p2 ≤ 13225 → b * (10000 * (m3 * m3) + m3 * m3 * p2) ≤ 2322500000000000000
common_below b m3 p2 hb h k =
    let m6 = mul-le m3 m3 1000000 1000000 h h in
    mul-le b _ 100 23225000000000000 hb (add-le-add (mul-le 10000 _ 10000 1000000000000 (le_refl _) m6) (mul-le _ p2 1000000000000 13225 m6 k))
