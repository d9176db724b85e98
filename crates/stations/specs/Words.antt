-- Words of 64 bits, and the word whose bits are those that pass a test.
use Rattle.std.specs.Prelude.{◌≡◌, ℕ, zero, suc, ◌+◌, ◌*◌, ◌/◌, ◌%◌, ◌^◌, ◌<◌, ◌≤◌, Bool, true, false, cond, ◌&&◌, List, [], ◌∷◌, ◌==◌, nat_lt, slice_index, bit_and, refl}
use Rattle.std.proofs.Common.{pow-suc, arith}
use lib.Bits.{and_le_l}
use Rattle.std.proofs.lemmas.Bool.{and_parts, and_from, lt-ltb, ltb-true}

-- the bit of a word at a place, as a number
abbrev pub bit : ℕ → ℕ → ℕ
bit w i = w / 2 ^ i % 2

-- whether a word's bit is set
abbrev pub bit_set : ℕ → ℕ → Bool
bit_set w i = bit w i == 1

-- so many words of 64 bits
abbrev pub are_words : ℕ → List ℕ → Bool
are_words zero [] = true
are_words zero (w ∷ ws) = false
are_words (suc n) [] = false
are_words (suc n) (w ∷ ws) = nat_lt w (2 ^ 64) && are_words n ws

-- the number whose first n bits are set where the test is passed
unfoldable pub bits : (ℕ → Bool) → ℕ → ℕ
bits f zero = 0
bits f (suc n) = bits f n + cond (f n) (2 ^ n) 0

-- the word of 64 stations, from 64 j on, of those that pass
abbrev pub word_of : (ℕ → Bool) → ℕ → ℕ
word_of f j = bits (λ i. f (64 * j + i)) 64

-- the four words of the stations that pass
abbrev pub words_of : (ℕ → Bool) → List ℕ
words_of f = word_of f 0 ∷ word_of f 1 ∷ word_of f 2 ∷ word_of f 3 ∷ []

at_most : (b : Bool) (n : ℕ) → cond b n 0 ≤ n
at_most true n = omega arith
at_most false n = omega arith

pub bits_small : (f : ℕ → Bool) (n : ℕ) → bits f n < 2 ^ n
unfolding bits
bits_small f zero = omega arith
bits_small f (suc n) = omega (arith, bits_small f n, pow-suc 2 n, at_most (f n) (2 ^ n))

-- four words of 64 bits
pub four_are_words : (f : ℕ → ℕ) → ((i : ℕ) → i < 4 → f i < 2 ^ 64) → are_words 4 (f 0 ∷ f 1 ∷ f 2 ∷ f 3 ∷ []) ≡ true
four_are_words f small = and_from _ _ (at 0 (omega arith)) (and_from _ _ (at 1 (omega arith)) (and_from _ _ (at 2 (omega arith)) (and_from _ _ (at 3 (omega arith)) refl))) where
  at : (i : ℕ) → i < 4 → nat_lt (f i) (2 ^ 64) ≡ true
  at i h = lt-ltb (f i) (2 ^ 64) (small i h)

pub words_of_are : (f : ℕ → Bool) → are_words 4 (words_of f) ≡ true
words_of_are f = four_are_words (word_of f) (λ j h. bits_small (λ i. f (64 * j + i)) 64)

false_true : false ≡ true → ◌≡◌ {A = ℕ} 0 1
false_true h = cc

-- each of the words has 64 bits
pub words_small : (n : ℕ) (ws : List ℕ) (j : ℕ) → are_words n ws ≡ true → j < n → slice_index ws j < 2 ^ 64
words_small zero ws j h l = absurd (omega arith)
words_small (suc n) [] j h l = absurd (omega (arith, false_true h))
words_small (suc n) (w ∷ ws) zero h l = ltb-true w (2 ^ 64) (and_parts (nat_lt w (2 ^ 64)) (are_words n ws) h).0
words_small (suc n) (w ∷ ws) (suc j) h l = words_small n ws j (and_parts (nat_lt w (2 ^ 64)) (are_words n ws) h).1 (omega arith)

-- a word that may be masked is no larger
pub masked_small : (b : Bool) (w m : ℕ) → w < 2 ^ 64 → cond b (bit_and w m) w < 2 ^ 64
masked_small true w m h = omega (arith, and_le_l w m)
masked_small false w m h = h
