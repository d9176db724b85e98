-- Counting the numbers that pass a test.
use Rattle.std.proofs.Common.{◌≡◌, ℕ, zero, suc, ◌+◌, ◌%◌, ◌^◌, ◌<◌, ◌≤◌, Bool, true, false, cond, eqb, ◌⊎◌, sym, refl, ap, ◌∙◌, inl, inr, ⊎_elim, add-zero, add_assoc, add-suc, add_comm, arith, pow_pos}
use lib.Count.{ones, ones_cat}
use lib.Pow.{mod-pow-add}
use Rattle.std.proofs.lemmas.Nat.{mod_below}
use Rattle.std.proofs.lemmas.Bool.{cases_eq, cases_Bool, eq-eqb, ne_eqb, cond-true, cond-false}
use Rattle.stations.specs.Members.{how_many, put}
use Rattle.stations.specs.Words.{bit, bit_set}
use Rattle.std.proofs.lemmas.Nat.Bits.{bit_at-lt}

-- what passes alike is counted alike
pub how_many_same : (f g : ℕ → Bool) (n : ℕ) → ((i : ℕ) → i < n → f i ≡ g i) → how_many f n ≡ how_many g n
unfolding how_many
how_many_same f g zero h = refl
how_many_same f g (suc n) h =
    let a : how_many f n ≡ how_many g n = how_many_same f g n (λ i l. h i (omega arith)) in
    let b : f n ≡ g n = h n (omega arith) in
    cc

pub how_many_split : (f : ℕ → Bool) (m n : ℕ) → how_many f (m + n) ≡ how_many f m + how_many (λ i. f (m + i)) n
unfolding how_many
how_many_split f m zero = ap (how_many f) (add-zero m) ∙ sym (add-zero (how_many f m))
how_many_split f m (suc n) =
    ap (how_many f) (add-suc m n) ∙ ap (λ (x : ℕ). x + cond (f (m + n)) 1 0) (how_many_split f m n)
    ∙ add_assoc (how_many f m) (how_many (λ i. f (m + i)) n) (cond (f (m + n)) 1 0)

one_more : (b : Bool) → cond {A = ℕ} b 1 0 ≤ 1
one_more true = omega arith
one_more false = omega arith

pub how_many_bound : (f : ℕ → Bool) (n : ℕ) → how_many f n ≤ n
unfolding how_many
how_many_bound f zero = omega arith
how_many_bound f (suc n) = omega (arith, how_many_bound f n, one_more (f n))

bit_mono : (a b : Bool) → (a ≡ true → b ≡ true) → cond {A = ℕ} a 1 0 ≤ cond {A = ℕ} b 1 0
bit_mono true b h = omega (arith, cond-true {A = ℕ} b 1 0 (h refl))
bit_mono false b h = omega arith

-- a weaker test passes at least as many
pub how_many_mono : (f g : ℕ → Bool) (n : ℕ) → ((i : ℕ) → i < n → f i ≡ true → g i ≡ true) → how_many f n ≤ how_many g n
unfolding how_many
how_many_mono f g zero h = omega arith
how_many_mono f g (suc n) h =
    omega (arith, how_many_mono f g n (λ i l. h i (omega arith)), bit_mono (f n) (g n) (h n (omega arith)))

pub how_many_none : (f : ℕ → Bool) (n : ℕ) → ((i : ℕ) → i < n → f i ≡ false) → how_many f n ≡ 0
unfolding how_many
how_many_none f zero h = refl
how_many_none f (suc n) h =
    omega (arith, how_many_none f n (λ i l. h i (omega arith)), cond-false {A = ℕ} (f n) 1 0 (h n (omega arith)))

-- one that passes is counted
pub how_many_some : (f : ℕ → Bool) (n i : ℕ) → i < n → f i ≡ true → 0 < how_many f n
unfolding how_many
how_many_some f zero i l h = absurd (omega arith)
how_many_some f (suc n) i l h =
    ⊎_elim
    (λ e. omega (arith, cond-true {A = ℕ} (f n) 1 0 (ap f (sym e) ∙ h)))
    (λ ne. omega (arith, how_many_some f n i (omega arith) h))
    (cases_eq i n)

-- where none is counted, none passes
pub how_many_zero : (f : ℕ → Bool) (n i : ℕ) → how_many f n ≡ 0 → i < n → f i ≡ false
how_many_zero f n i z l = at (cases_Bool (f i)) where
  at : (f i ≡ true) ⊎ (f i ≡ false) → f i ≡ false
  at (inl h) = absurd (omega (arith, how_many_some f n i l h))
  at (inr h) = h

-- a test that differs from another at one place, where it passes and the other does not
pub how_many_more : (f g : ℕ → Bool) (n i : ℕ) → i < n → f i ≡ true → g i ≡ false → ((j : ℕ) → (j ≡ i → ⊥) → f j ≡ g j)
    → how_many f n ≡ how_many g n + 1
unfolding how_many
how_many_more f g zero i l yes' no' same = absurd (omega arith)
how_many_more f g (suc n) i l yes' no' same =
    ⊎_elim
    (λ e.
    let below : how_many f n ≡ how_many g n = how_many_same f g n (λ j h. same j (omega arith)) in
    let a : cond {A = ℕ} (f n) 1 0 ≡ 1 = cond-true {A = ℕ} (f n) 1 0 (ap f (sym e) ∙ yes') in
    let b : cond {A = ℕ} (g n) 1 0 ≡ 0 = cond-false {A = ℕ} (g n) 1 0 (ap g (sym e) ∙ no') in
    omega arith)
    (λ ne.
    let below : how_many f n ≡ how_many g n + 1 = how_many_more f g n i (omega arith) yes' no' same in
    let a : cond {A = ℕ} (f n) 1 0 ≡ cond {A = ℕ} (g n) 1 0 = ap (λ (t : Bool). cond {A = ℕ} t 1 0) (same n (λ e. ne (sym e))) in
    omega arith)
    (cases_eq i n)

pub put_here : {A : Type 0} (f : ℕ → A) (p : ℕ) (a : A) → put f p a p ≡ a
unfolding put
put_here f p a = cond-true (eqb p p) a (f p) (eq-eqb p p refl)

pub put_other : {A : Type 0} (f : ℕ → A) (p : ℕ) (a : A) (q : ℕ) → (q ≡ p → ⊥) → put f p a q ≡ f q
unfolding put
put_other f p a q ne = cond-false (eqb q p) a (f q) (ne_eqb q p ne)

ones_bit : (x : ℕ) → x < 2 → ones x ≡ cond (eqb x 1) 1 0
unfolding ones
ones_bit zero h = refl
ones_bit (suc zero) h = refl
ones_bit (suc (suc x)) h = let n : ⊥ = omega arith in absurd n

-- the ones of a word are its bits that are set
pub ones_count : (w k : ℕ) → ones (w % 2 ^ k) ≡ how_many (bit_set w) k
unfolding how_many ones
ones_count w zero = let e : w % 1 ≡ 0 = omega arith in ap ones e
ones_count w (suc k) =
    ap (λ (j : ℕ). ones (w % 2 ^ j)) (omega arith) ∙ ap ones (mod-pow-add w 1 k)
    ∙ ones_cat k (bit w k) (w % 2 ^ k) (mod_below w (2 ^ k) (pow_pos k))
    ∙ ap (λ (x : ℕ). ones (bit w k) + x) (ones_count w k)
    ∙ ap (λ (x : ℕ). x + how_many (bit_set w) k) (ones_bit (bit w k) (bit_at-lt w k))
    ∙ add_comm _ _
