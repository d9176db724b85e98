-- The bits of a word under `|`, `&` and `!`, as tests.
use Rattle.std.proofs.Common.{◌≡◌, ℕ, ◌-◌, ◌^◌, ◌<◌, false, not, ◌&&◌, ◌||◌, eqb, sym, ap, ◌∙◌, ⊎_elim, arith, w64}
use lib.Bits.{bit_and, bit_or}
use Rattle.std.proofs.lemmas.Bool.{eq-eqb, ne_eqb, cases_eq}
use Rattle.std.proofs.lemmas.Bool.Decides.{nat_tests}
use Rattle.std.proofs.lemmas.Nat.Bits.{bit_at-lt, bit_at-zero, bit_at_or, bit_at_and, bit_at_not, bit_at-pow_same, bit_at-pow_other}
use Rattle.stations.specs.Words.{bit_set}

pub set_or : (a b i : ℕ) → bit_set (bit_or a b) i ≡ bit_set a i || bit_set b i
set_or a b i = let e = bit_at_or a b i in let f = bit_at-lt a i in let g = bit_at-lt b i in grind (arith, nat_tests)

pub set_without : (a b i : ℕ) → i < 64 → b < 2 ^ 64 → bit_set (bit_and a ((2 ^ 64 - 1) - b)) i ≡ bit_set a i && not (bit_set b i)
set_without a b i h l =
    let e = bit_at_and a ((2 ^ 64 - 1) - b) i in
    let f = bit_at-lt a i in
    let g = bit_at-lt b i in
    let n = bit_at_not w64 b i l h in
    grind (arith, nat_tests)

pub set_zero : (i : ℕ) → bit_set 0 i ≡ false
set_zero i = ap (λ (x : ℕ). eqb x 1) (bit_at-zero i)

-- the word with one bit
pub set_pow : (k i : ℕ) → bit_set (2 ^ k) i ≡ eqb i k
set_pow k i =
    ⊎_elim
    (λ (e : i ≡ k). ap (λ (j : ℕ). bit_set (2 ^ k) j) e ∙ ap (λ (x : ℕ). eqb x 1) (bit_at-pow_same k) ∙ sym (eq-eqb i k e))
    (λ ne. ap (λ (x : ℕ). eqb x 1) (bit_at-pow_other k i ne) ∙ sym (ne_eqb i k ne))
    (cases_eq i k)
