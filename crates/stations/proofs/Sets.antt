-- A set of stations is known by its members: words of 64 bits, by their bits.
use Rattle.std.proofs.Common.{◌≡◌, ℕ, zero, suc, ◌+◌, ◌*◌, ◌/◌, ◌%◌, ◌^◌, ◌<◌, ◌≤◌, Bool, true, false, cond, ◌&&◌, ◌||◌, eqb, ltb, List, [], ◌∷◌, length, get_or, set, sym, refl, ap, ap₂, ◌∙◌, map, ⊎_elim, mod-eq_of_lt, add_comm, arith}
use mathlib.Core.Path.{fun_ext}
use mathlib.Core.HLevel.{is_prop→PathP}
use mathlib.Core.Bool.{Bool-set}
use lib.Bits.{or_shifted}
use lib.Pow.{mod-pow-add}
use Rattle.std.proofs.lemmas.Bool.{and_parts, and_from, lt-ltb, cases_eq, cases_lt}
use Rattle.std.proofs.lemmas.Bool.Decides.{nat_tests}
use Rattle.std.specs.List.{sum, zip}
use Rattle.stations.specs.declared.Stations.{Stations}
use Rattle.stations.specs.Members.{member, only, how_many, set_of}
use Rattle.stations.specs.Words.{bit, bit_set, are_words, bits, bits_small, word_of, words_of, words_small}
use Rattle.std.proofs.lemmas.Nat.Bits.{bit_at-lt}
use Rattle.stations.proofs.Digits.{set_or, set_zero, set_pow}
use Rattle.stations.proofs.Words.{four_each, member_at, member_past, only_words}

pub words_length : (n : ℕ) (ws : List ℕ) → are_words n ws ≡ true → length ws ≡ n
words_length zero [] h = refl
words_length zero (w ∷ ws) h = cc
words_length (suc n) [] h = cc
words_length (suc n) (w ∷ ws) h = ap suc (words_length n ws (and_parts (ltb w (2 ^ 64)) (are_words n ws) h).1)

-- one word changed
pub words_set : (n : ℕ) (ws : List ℕ) (j w : ℕ) → are_words n ws ≡ true → w < 2 ^ 64 → are_words n (set ws j w) ≡ true
words_set zero [] j w h l = h
words_set zero (v ∷ ws) j w h l = cc
words_set (suc n) [] j w h l = cc
words_set (suc n) (v ∷ ws) zero w h l = and_from _ _ (lt-ltb w (2 ^ 64) l) (and_parts (ltb v (2 ^ 64)) (are_words n ws) h).1
words_set (suc n) (v ∷ ws) (suc j) w h l =
    let p = and_parts (ltb v (2 ^ 64)) (are_words n ws) h in
    and_from _ _ p.0 (words_set n ws j w p.1 l)

-- a word is the number of its bits
bits_back : (w n : ℕ) → bits (bit_set w) n ≡ w % 2 ^ n
unfolding bits
bits_back w zero = omega arith
bits_back w (suc n) =
    ap (λ (x : ℕ). x + cond (bit_set w n) (2 ^ n) 0) (bits_back w n)
    ∙ ap (λ (x : ℕ). w % 2 ^ n + x) (one_bit (bit w n) (bit_at-lt w n))
    ∙ add_comm (w % 2 ^ n) (bit w n * 2 ^ n)
    ∙ sym (ap (λ (j : ℕ). w % 2 ^ j) (omega arith) ∙ mod-pow-add w 1 n) where
      one_bit : (b : ℕ) → b < 2 → cond (eqb b 1) (2 ^ n) 0 ≡ b * 2 ^ n
      one_bit zero h = omega arith
      one_bit (suc zero) h = omega arith
      one_bit (suc (suc b)) h = absurd (omega arith)

bits_same : (f g : ℕ → Bool) (n : ℕ) → ((i : ℕ) → i < n → f i ≡ g i) → bits f n ≡ bits g n
unfolding bits
bits_same f g zero h = refl
bits_same f g (suc n) h =
    let a : bits f n ≡ bits g n = bits_same f g n (λ i l. h i (omega arith)) in
    let b : f n ≡ g n = h n (omega arith) in
    cc

-- one bit more above the others
bit_above : (x n i : ℕ) (b : Bool) → x < 2 ^ n → bit_set (x + cond b (2 ^ n) 0) i ≡ (b && eqb i n) || bit_set x i
bit_above x n i true h =
    ap (λ (y : ℕ). bit_set y i) (omega (arith, or_shifted 1 n x h))
    ∙ set_or (1 * 2 ^ n) x i
    ∙ ap (λ (y : ℕ). bit_set y i || bit_set x i) (omega arith)
    ∙ ap (λ (c : Bool). c || bit_set x i) (set_pow n i)
bit_above x n i false h = ap (λ (y : ℕ). bit_set y i) (omega arith)

-- the bits of the word of a test
bits_set : (f : ℕ → Bool) (n i : ℕ) → bit_set (bits f n) i ≡ ltb i n && f i
unfolding bits
bits_set f zero i = set_zero i ∙ grind (arith, nat_tests)
bits_set f (suc n) i =
    bit_above (bits f n) n i (f n) (bits_small f n)
    ∙ ap (λ (c : Bool). (f n && eqb i n) || c) (bits_set f n i)
    ∙ ⊎_elim
    (λ (e : i ≡ n). let u : f i ≡ f n = ap f e in grind (arith, nat_tests))
    (λ ne. grind (arith, nat_tests))
    (cases_eq i n)

pub four_words : (ws : List ℕ) → are_words 4 ws ≡ true → get_or ws 0 0 ∷ get_or ws 1 0 ∷ get_or ws 2 0 ∷ get_or ws 3 0 ∷ [] ≡ ws
four_words (a ∷ b ∷ c ∷ d ∷ []) h = refl
four_words [] h = cc
four_words (a ∷ []) h = let z = words_length 4 (a ∷ []) h in absurd (omega arith)
four_words (a ∷ b ∷ []) h = let z = words_length 4 (a ∷ b ∷ []) h in absurd (omega arith)
four_words (a ∷ b ∷ c ∷ []) h = let z = words_length 4 (a ∷ b ∷ c ∷ []) h in absurd (omega arith)
four_words (a ∷ b ∷ c ∷ d ∷ e ∷ l) h = let z = words_length 4 (a ∷ b ∷ c ∷ d ∷ e ∷ l) h in absurd (omega arith)

abbrev pub without_ones : ℕ × ℕ → ℕ
without_ones p = how_many (only (bit_set p.0) (bit_set p.1)) 64

-- the ones of each word under the mask of the other set add up to those that are only in the first
pub counted_words : (s t : Stations) → sum (map without_ones (zip s.words t.words)) ≡ how_many (only (member s) (member t)) 256
counted_words s t =
    ap₂ (λ (xs ys : List ℕ). sum (map without_ones (zip xs ys))) (sym (four_words s.words s.whole)) (sym (four_words t.words t.whole))
    ∙ omega (arith, only_words s t)

word_back : (s : Stations) (j : ℕ) → j < 4 → word_of (member s) j ≡ get_or s.words j 0
word_back s j l =
    bits_same (λ i. member s (64 * j + i)) (bit_set (get_or s.words j 0)) 64 (λ i k. member_at s (64 * j + i) j i (omega arith) (omega arith) (omega arith))
    ∙ bits_back (get_or s.words j 0) 64
    ∙ mod-eq_of_lt (words_small 4 s.words j s.whole l)

words_back : (s : Stations) → words_of (member s) ≡ s.words
words_back s =
    let a : word_of (member s) 0 ≡ get_or s.words 0 0 = word_back s 0 (omega arith) in
    let b : word_of (member s) 1 ≡ get_or s.words 1 0 = word_back s 1 (omega arith) in
    let c : word_of (member s) 2 ≡ get_or s.words 2 0 = word_back s 2 (omega arith) in
    let d : word_of (member s) 3 ≡ get_or s.words 3 0 = word_back s 3 (omega arith) in
    let four = four_words s.words s.whole in
    cc

-- the words decide: what a set keeps to is one fact
pub same_words : (s t : Stations) → s.words ≡ t.words → s ≡ t
same_words s t e = λ i. record { words = e i; whole = is_prop→PathP (λ j. are_words 4 (e j) ≡ true) (λ j. Bool-set _ _) s.whole t.whole i }

-- every set is the set of its members
pub set_of_member : (s : Stations) → set_of (member s) ≡ s
unfolding set_of
set_of_member s = same_words (set_of (member s)) s (words_back s)

-- sets with the same members are equal
pub same_members : (s t : Stations) → member s ≡ member t → s ≡ t
same_members s t e = sym (set_of_member s) ∙ ap set_of e ∙ set_of_member t

-- the members of the set of those that pass a test, where only stations pass
pub member_set_of : (f : ℕ → Bool) → ((p : ℕ) → 256 ≤ p → f p ≡ false) → member (set_of f) ≡ f
unfolding set_of
member_set_of f past =
    fun_ext (λ p. ⊎_elim
    (λ l.
    member_at (set_of f) p (p / 64) (p % 64) l refl refl
    ∙ ap (λ (w : ℕ). bit_set w (p % 64)) (four_each (word_of f) (p / 64) (omega arith))
    ∙ bits_set (λ i. f (64 * (p / 64) + i)) 64 (p % 64)
    ∙ ap (λ (t : Bool). t && f (64 * (p / 64) + p % 64)) (lt-ltb (p % 64) 64 (omega arith))
    ∙ ap f (omega arith))
    (λ l. member_past (set_of f) p l ∙ sym (past p l))
    (cases_lt p 256))
