-- How many stations pass a test: of one test with another, of a test changed at one place, and who passes.
-- It rests on the first laws of counting, beside the sets of stations.
use Rattle.std.proofs.Common.{◌≡◌, ℕ, zero, suc, ◌+◌, ◌-◌, ◌<◌, ◌≤◌, Bool, true, false, cond, not, ◌&&◌, ◌||◌, List, [], ◌∷◌, sym, refl, ap, ◌∙◌, inl, inr, arith}
use Rattle.std.proofs.lemmas.Bool.{cases_Bool, cases_eq, and_parts, cond-false}
use Rattle.stations.specs.Members.{either, only, put, how_many}
use Rattle.stations.proofs.Counting.{how_many_same, how_many_split, how_many_mono, how_many_none, how_many_more, put_here, put_other}
use Rattle.counting.specs.Census.{both, Within, TwoLargeSetsMeet}

bit_either : (x y : Bool) → cond {A = ℕ} (x || y) 1 0 + cond {A = ℕ} (x && y) 1 0 ≡ cond {A = ℕ} x 1 0 + cond {A = ℕ} y 1 0
bit_either true y = omega arith
bit_either false y = omega arith

-- in one of two sets, and in both
pub how_many_either : (f g : ℕ → Bool) (n : ℕ) → how_many (either f g) n + how_many (both f g) n ≡ how_many f n + how_many g n
unfolding how_many
how_many_either f g zero = refl
how_many_either f g (suc n) = omega (arith, how_many_either f g n, bit_either (f n) (g n))

bit_only : (x y : Bool) → cond {A = ℕ} (x && not y) 1 0 + cond {A = ℕ} (x && y) 1 0 ≡ cond {A = ℕ} x 1 0
bit_only true true = refl
bit_only true false = refl
bit_only false y = refl

-- in one set and not in another, and in both
pub how_many_only : (f g : ℕ → Bool) (n : ℕ) → how_many (only f g) n + how_many (both f g) n ≡ how_many f n
unfolding how_many
how_many_only f g zero = refl
how_many_only f g (suc n) = omega (arith, how_many_only f g n, bit_only (f n) (g n))

-- the same of a set inside another
pub how_many_rest : (f g : ℕ → Bool) (n : ℕ) → Within n g f → how_many (only f g) n + how_many g n ≡ how_many f n
how_many_rest f g n inside =
    let same : how_many (both f g) n ≡ how_many g n = how_many_same (both f g) g n (λ q l. one (f q) (g q) (inside q l)) in
    omega (arith, how_many_only f g n)
  where
    one : (x y : Bool) → (y ≡ true → x ≡ true) → (x && y) ≡ y
    one true y h = refl
    one false true h = h refl
    one false false h = refl

-- in one of several sets
abbrev pub in_some : List (ℕ → Bool) → ℕ → Bool
in_some [] q = false
in_some (f ∷ fs) q = f q || in_some fs q

-- the sum of their counts
abbrev pub in_all : List (ℕ → Bool) → ℕ → ℕ
in_all [] n = 0
in_all (f ∷ fs) n = how_many f n + in_all fs n

in_some_few : (fs : List (ℕ → Bool)) (n : ℕ) → how_many (in_some fs) n ≤ in_all fs n
in_some_few [] n = omega (arith, how_many_none (in_some []) n (λ q l. refl))
in_some_few (f ∷ fs) n = omega (arith, how_many_either f (in_some fs) n, in_some_few fs n)

-- a set that several cover counts at most what they count together
pub covered : (f : ℕ → Bool) (fs : List (ℕ → Bool)) (n : ℕ) → Within n f (in_some fs) → how_many f n ≤ in_all fs n
covered f fs n inside = omega (arith, how_many_mono f (in_some fs) n inside, in_some_few fs n)

-- where some are counted, one passes
pub someone : (f : ℕ → Bool) (n : ℕ) → 1 ≤ how_many f n → (q : ℕ) × (q < n) × (f q ≡ true)
unfolding how_many
someone f zero h = absurd (omega arith)
someone f (suc n) h =
    elim (cases_Bool (f n)) [
      | inl e ↦ (n, omega arith, e)
      | inr e ↦ let (q, l, k) = someone f n (omega (arith, cond-false {A = ℕ} (f n) 1 0 e)) in (q, omega arith, k)
    ]

-- two sets inside a third that is smaller than both together have a station in common
pub meet : TwoLargeSetsMeet
meet n f g whole inside inside' large =
    let few = how_many_mono (either f g) whole n (λ q l. one (f q) (g q) (whole q) (inside q l) (inside' q l)) in
    let (q, l, e) = someone (both f g) n (omega (arith, how_many_either f g n)) in
    let (x, y) = and_parts (f q) (g q) e in
    (q, l, x, y)
  where
    one : (x y u : Bool) → (x ≡ true → u ≡ true) → (y ≡ true → u ≡ true) → (x || y) ≡ true → u ≡ true
    one true y u a b e = a refl
    one false y u a b e = b e

-- one more passes
pub put_adds : (f : ℕ → Bool) (p n : ℕ) → p < n → f p ≡ false → how_many (put f p true) n ≡ how_many f n + 1
put_adds f p n l e = how_many_more (put f p true) f n p l (put_here f p true) e (λ q ne. put_other f p true q ne)

-- one fewer passes
pub put_takes : (f : ℕ → Bool) (p n : ℕ) → p < n → f p ≡ true → how_many f n ≡ how_many (put f p false) n + 1
put_takes f p n l e = how_many_more f (put f p false) n p l e (put_here f p false) (λ q ne. sym (put_other f p false q ne))

-- as many pass, where nothing changes below n
pub put_keeps : (f : ℕ → Bool) (p n : ℕ) (b : Bool) → (p < n → f p ≡ b) → how_many (put f p b) n ≡ how_many f n
put_keeps f p n b same = how_many_same (put f p b) f n at
  where
    at : (q : ℕ) → q < n → put f p b q ≡ f q
    at q l =
        elim (cases_eq q p) [
          | inl e ↦ ap (put f p b) e ∙ put_here f p b ∙ sym (same (omega arith)) ∙ ap f (sym e)
          | inr ne ↦ put_other f p b q ne
        ]

-- counting further finds no more, where nobody passes further on
pub how_many_beyond : (f : ℕ → Bool) (m n : ℕ) → m ≤ n → ((q : ℕ) → m ≤ q → f q ≡ false) → how_many f n ≡ how_many f m
how_many_beyond f m n l none =
    let parts : how_many f (m + (n - m)) ≡ how_many f m + how_many (λ q. f (m + q)) (n - m) = how_many_split f m (n - m) in
    let rest : how_many (λ q. f (m + q)) (n - m) ≡ 0 = how_many_none (λ q. f (m + q)) (n - m) (λ q _. none (m + q) (omega arith)) in
    let whole : m + (n - m) ≡ n = omega arith in
    omega (arith, ap (how_many f) whole)
