-- Counting stations that pass a test, beyond what the crates of stations and of counting have.
-- Rests on the definition of `how_many` and on its first laws.
use Rattle.std.proofs.Common.{◌≡◌, ℕ, zero, suc, ◌+◌, ◌<◌, ◌≤◌, min, Bool, true, false, cond, ltb, sym, ap, ◌∙◌, inl, inr, arith, refl}
use Rattle.std.proofs.lemmas.Bool.{cases_lt, cases_eq, cond-true, cond-false, lt-ltb, le-ltb}
use Rattle.stations.specs.Members.{put, how_many}
use Rattle.stations.proofs.Counting.{how_many_mono, how_many_same, how_many_split, put_other}
use Rattle.counting.proofs.Tests.{put_adds}

-- a test as a number
abbrev pub one_if : Bool → ℕ
one_if b = cond b 1 0

-- where two sums agree at each number, they agree in all
pub how_many_balance : (f g h k : ℕ → Bool) (n : ℕ) → ((q : ℕ) → q < n → one_if (f q) + one_if (g q) ≡ one_if (h q) + one_if (k q))
    → how_many f n + how_many g n ≡ how_many h n + how_many k n
unfolding how_many
how_many_balance f g h k zero e = refl
how_many_balance f g h k (suc n) e = omega (arith, how_many_balance f g h k n (λ q l. e q (omega arith)), e n (omega arith))

-- how many numbers are below k
pub how_many_below : (k n : ℕ) → how_many (λ q. ltb q k) n ≡ min n k
unfolding how_many
how_many_below k zero = omega arith
how_many_below k (suc n) =
    elim (cases_lt n k) [
      | inl l ↦ omega (arith, how_many_below k n, cond-true {A = ℕ} (ltb n k) 1 0 (lt-ltb n k l))
      | inr l ↦ omega (arith, how_many_below k n, cond-false {A = ℕ} (ltb n k) 1 0 (le-ltb n k l))
    ]

-- a weaker test that passes one more passes more
pub how_many_rise : (f g : ℕ → Bool) (n i : ℕ) → i < n → ((q : ℕ) → q < n → f q ≡ true → g q ≡ true) → f i ≡ false → g i ≡ true → how_many f n + 1 ≤ how_many g n
how_many_rise f g n i l h no' yes' = omega (arith, put_adds f i n l no', how_many_mono (put f i true) g n by)
  where
    by : (q : ℕ) → q < n → put f i true q ≡ true → g q ≡ true
    by q k e = elim (cases_eq q i) [ inl s ↦ ap g s ∙ yes' | inr ne ↦ h q k (sym (put_other f i true q ne) ∙ e) ]

-- and so over more numbers
pub how_many_further : (f : ℕ → Bool) (n k : ℕ) → how_many f n ≤ how_many f (n + k)
how_many_further f n k = omega (arith, how_many_split f n k)

-- tests that differ at one place at most
pub how_many_at : (f g : ℕ → Bool) (n i : ℕ) → i < n → ((q : ℕ) → (q ≡ i → ⊥) → f q ≡ g q) → how_many f n + one_if (g i) ≡ how_many g n + one_if (f i)
unfolding how_many
how_many_at f g zero i l h = absurd (omega arith)
how_many_at f g (suc n) i l h =
    elim (cases_lt i n) [
      | inl k ↦ omega (arith, how_many_at f g n i k h, ap one_if (h n (λ e. omega arith)))
      | inr k ↦
          let e : i ≡ n = omega arith in
          omega (arith, how_many_same f g n (λ q m. h q (λ d. omega arith)), ap (λ q. one_if (f q)) e, ap (λ q. one_if (g q)) e)
    ]
