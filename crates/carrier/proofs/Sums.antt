-- Sums over a range of numbers.
use Rattle.std.proofs.Common.{◌≡◌, ℕ, zero, suc, ◌+◌, ◌*◌, ◌<◌, ◌≤◌, Bool, sym, refl, ap, ◌∙◌, subst, ⊎_elim, suc-mul, zero-mul, arith}
use Rattle.std.proofs.lemmas.Bool.{cases_eq}
use Rattle.stations.specs.Members.{how_many}
use Rattle.stations.proofs.Counting.{how_many_split}
use Rattle.carrier.specs.Counts.{total}

pub total_same : (f g : ℕ → ℕ) (n : ℕ) → ((k : ℕ) → k < n → f k ≡ g k) → total f n ≡ total g n
unfolding total
total_same f g zero h = refl
total_same f g (suc n) h = omega (arith, total_same f g n (λ k l. h k (omega arith)), h n (omega arith))

pub total_le : (f g : ℕ → ℕ) (n : ℕ) → ((k : ℕ) → k < n → f k ≤ g k) → total f n ≤ total g n
unfolding total
total_le f g zero h = omega arith
total_le f g (suc n) h = omega (arith, total_le f g n (λ k l. h k (omega arith)), h n (omega arith))

pub total_none : (f : ℕ → ℕ) (n : ℕ) → ((k : ℕ) → k < n → f k ≡ 0) → total f n ≡ 0
unfolding total
total_none f zero h = refl
total_none f (suc n) h = omega (arith, total_none f n (λ k l. h k (omega arith)), h n (omega arith))

-- one value grows by at most c
pub total_rise : (f g : ℕ → ℕ) (k c n : ℕ) → ((j : ℕ) → (j ≡ k → ⊥) → g j ≤ f j) → g k ≤ f k + c → total g n ≤ total f n + c
unfolding total
total_rise f g k c zero h more = omega arith
total_rise f g k c (suc n) h more =
    ⊎_elim
    (λ e.
    let rest : total g n ≤ total f n = total_le g f n (λ j l. h j (λ q. omega (arith, e, q))) in
    let here : g n ≤ f n + c = subst (λ (y : ℕ). g y ≤ f y + c) (sym e) more in
    omega arith)
    (λ ne. omega (arith, total_rise f g k c n h more, h n ne))
    (cases_eq n k)

-- rows of m numbers, counted one after another
pub total_rows : (f : ℕ → Bool) (m n : ℕ) → total (λ k. how_many (λ q. f (k * m + q)) m) n ≡ how_many f (n * m)
unfolding total how_many
total_rows f m zero = rw zero-mul
total_rows f m (suc n) =
    ap (λ (x : ℕ). x + how_many (λ q. f (n * m + q)) m) (total_rows f m n)
    ∙ sym (how_many_split f (n * m) m)
    ∙ ap (how_many f) (sym (suc-mul n m))
