-- Which stations a set holds, and how many.
use Rattle.std.specs.Prelude.{◌≡◌, ℕ, zero, suc, ◌+◌, ◌-◌, ◌*◌, ◌/◌, ◌%◌, ◌^◌, ◌<◌, Bool, true, false, cond, not, ◌&&◌, ◌||◌, ◌∷◌, [], ◌==◌, nat_lt, slice_index, bit_and}
use Rattle.stations.specs.Words.{bit_set, are_words, words_of, words_of_are, masked_small, words_small, four_are_words}
use Rattle.stations.specs.declared.Stations.{Stations}

-- whether a station number is in the set; from 256 on none is
unfoldable pub member : Stations → ℕ → Bool
member s p = nat_lt p 256 && bit_set (slice_index s.words (p / 64)) (p % 64)

-- the test that nobody passes
abbrev pub nobody : ℕ → Bool
nobody p = false

-- in one of the two
abbrev pub either : (ℕ → Bool) → (ℕ → Bool) → ℕ → Bool
either f g p = f p || g p

-- in the first and not in the second
abbrev pub only : (ℕ → Bool) → (ℕ → Bool) → ℕ → Bool
only f g p = f p && not (g p)

-- the function with another value at one place
unfoldable pub put : {A : Type 0} → (ℕ → A) → ℕ → A → ℕ → A
put f p a q = cond (q == p) a (f q)

-- the set of the stations that pass, of the 256 that there are
unfoldable pub set_of : (ℕ → Bool) → Stations
set_of f = record { words = words_of f; whole = words_of_are f }

-- a word of the set without the bit of a station
abbrev pub word_without : Stations → ℕ → ℕ → ℕ
word_without s p i = cond (i == p / 64) (bit_and (slice_index s.words i) ((2 ^ 64 - 1) - (1 * 2 ^ (p % 64)) % 2 ^ 64)) (slice_index s.words i)

without_small : (s : Stations) (p i : ℕ) → i < 4 → word_without s p i < 2 ^ 64
without_small s p i h = masked_small (i == p / 64) (slice_index s.words i) ((2 ^ 64 - 1) - (1 * 2 ^ (p % 64)) % 2 ^ 64) (words_small 4 s.words i s.whole h)

pub without_are : (s : Stations) (p : ℕ) → are_words 4 (word_without s p 0 ∷ word_without s p 1 ∷ word_without s p 2 ∷ word_without s p 3 ∷ []) ≡ true
without_are s p = four_are_words (word_without s p) (without_small s p)

-- the set without a station, by its words
unfoldable pub removed : Stations → ℕ → Stations
removed s p = record { words = word_without s p 0 ∷ word_without s p 1 ∷ word_without s p 2 ∷ word_without s p 3 ∷ []; whole = without_are s p }

-- how many numbers below n pass the test
unfoldable pub how_many : (ℕ → Bool) → ℕ → ℕ
how_many f zero = 0
how_many f (suc n) = how_many f n + cond (f n) 1 0
