-- What a change of the four words does to the set that they hold.
use Rattle.std.proofs.Common.{◌≡◌, ℕ, zero, suc, ◌+◌, ◌-◌, ◌*◌, ◌/◌, ◌%◌, ◌^◌, ◌<◌, ◌≤◌, Bool, true, false, cond, not, ◌&&◌, ◌||◌, eqb, ltb, List, [], ◌∷◌, length, get_or, set, sym, refl, ap, ◌∙◌, ⊎_elim, arith, get_or-set_other, get_or-set_same}
use mathlib.Core.Path.{fun_ext}
use lib.Bits.{bit_or, bit_and}
use lib.Pow.{pow-lt}
use Rattle.std.proofs.lemmas.Bool.{eq-eqb, ne_eqb, cond-true, cond-false, cases_eq, cases_lt}
use Rattle.std.proofs.lemmas.Nat.{one_shl}
use Rattle.std.proofs.lemmas.Bool.Decides.{nat_tests}
use Rattle.stations.specs.declared.Stations.{Stations}
use Rattle.stations.specs.Members.{member, nobody, either, only, put, how_many}
use Rattle.stations.specs.Words.{bit_set}
use Rattle.stations.proofs.Digits.{set_or, set_without, set_zero, set_pow}
use Rattle.stations.proofs.Counting.{how_many_same, how_many_split}

-- the bit of a station among four words
abbrev pub at_word : List ℕ → ℕ → Bool
at_word l q = bit_set (get_or l (q / 64) 0) (q % 64)

guarded : (q : ℕ) (b c : Bool) → (q < 256 → b ≡ c) → ltb q 256 && b ≡ ltb q 256 && c
guarded q b c h =
    ⊎_elim
    (λ l. ap (λ x. ltb q 256 && x) (h l))
    (λ l. let e : ltb q 256 ≡ false = grind (arith, nat_tests) in grind (arith, nat_tests))
    (cases_lt q 256)

-- the values of a function at the four places
pub four_each : (f : ℕ → ℕ) (j : ℕ) → j < 4 → get_or (f 0 ∷ f 1 ∷ f 2 ∷ f 3 ∷ []) j 0 ≡ f j
four_each f zero h = refl
four_each f (suc zero) h = refl
four_each f (suc (suc zero)) h = refl
four_each f (suc (suc (suc zero))) h = refl
four_each f (suc (suc (suc (suc j)))) h = absurd (omega arith)

pub member_none : (s : Stations) → s.words ≡ 0 ∷ 0 ∷ 0 ∷ 0 ∷ [] → member s ≡ nobody
unfolding member
member_none s e =
    fun_ext (λ q. guarded q _ false (λ h. ap (λ l. bit_set (get_or l (q / 64) 0) (q % 64)) e ∙ ap (λ x. bit_set x (q % 64)) (four_each (λ _. 0) (q / 64) (omega arith)) ∙ set_zero (q % 64)) ∙ grind (arith, nat_tests))

-- one word changed, where its new bits are known
changed : (l ws : List ℕ) (p w : ℕ) (b : Bool) → ((j : ℕ) → j < 4 → get_or ws j 0 ≡ cond (eqb j (p / 64)) w (get_or l j 0))
    → ((i : ℕ) → i < 64 → bit_set w i ≡ cond (eqb i (p % 64)) b (bit_set (get_or l (p / 64) 0) i))
    → (q : ℕ) → q < 256 → at_word ws q ≡ cond (eqb q p) b (at_word l q)
changed l ws p w b each new q hq =
    ⊎_elim
    (λ (e : q / 64 ≡ p / 64).
    let g : get_or ws (q / 64) 0 ≡ w = each (q / 64) (omega arith) ∙ cond-true _ _ _ (eq-eqb _ _ e) in
    let same : eqb (q % 64) (p % 64) ≡ eqb q p = grind arith in
    ap (λ (x : ℕ). bit_set x (q % 64)) g ∙ new (q % 64) (omega arith)
    ∙ ap (λ (t : Bool). cond t b (bit_set (get_or l (p / 64) 0) (q % 64))) same
    ∙ ap (λ (j : ℕ). cond (eqb q p) b (bit_set (get_or l j 0) (q % 64))) (sym e))
    (λ ne.
    let g : get_or ws (q / 64) 0 ≡ get_or l (q / 64) 0 = each (q / 64) (omega arith) ∙ cond-false _ _ _ (ne_eqb _ _ ne) in
    let f : eqb q p ≡ false = grind arith in
    ap (λ (x : ℕ). bit_set x (q % 64)) g ∙ sym (ap (λ (t : Bool). cond t b (at_word l q)) f))
    (cases_eq (q / 64) (p / 64))

below_only : (q p : ℕ) (b a : Bool) → p < 256 → ltb q 256 && cond (eqb q p) b a ≡ cond (eqb q p) b (ltb q 256 && a)
below_only q p true a h = grind (arith, nat_tests)
below_only q p false a h = grind (arith, nat_tests)

module _ (s t : Stations) (p w : ℕ) (b : Bool) (h : p < 256) (each : (j : ℕ) → j < 4 → get_or t.words j 0 ≡ cond (eqb j (p / 64)) w (get_or s.words j 0)) where
  member_changed : ((i : ℕ) → i < 64 → bit_set w i ≡ cond (eqb i (p % 64)) b (bit_set (get_or s.words (p / 64) 0) i)) → member t ≡ put (member s) p b
  unfolding member put
  member_changed new = fun_ext (λ q. guarded q _ _ (λ l. changed s.words t.words p w b each new q l) ∙ below_only q p b _ h)

set_each : (l : List ℕ) (i w j : ℕ) → length l ≡ 4 → j < 4 → i < 4 → get_or (set l i w) j 0 ≡ cond (eqb j i) w (get_or l j 0)
set_each l i w j n h k =
    ⊎_elim
    (λ e. ap (λ (m : ℕ). get_or (set l i w) m 0) e ∙ get_or-set_same l i w 0 (omega arith) ∙ sym (cond-true _ _ _ (eq-eqb _ _ e)))
    (λ ne. get_or-set_other l i j w 0 ne ∙ sym (cond-false _ _ _ (ne_eqb _ _ ne)))
    (cases_eq j i)

pub member_insert : (s t : Stations) (p : ℕ) → length s.words ≡ 4 → p < 256
    → t.words ≡ set s.words (p / 64) (bit_or (get_or s.words (p / 64) 0) ((1 * 2 ^ (p % 64)) % 2 ^ 64)) → member t ≡ put (member s) p true
member_insert s t p n h e =
    let old = get_or s.words (p / 64) 0 in
    member_changed s t p _ true h (λ j l. ap (λ ws. get_or ws j 0) e ∙ set_each s.words (p / 64) _ j n l (omega arith))
    (λ i l.
    set_or old _ i
    ∙ ap (λ (x : ℕ). bit_set old i || bit_set x i) (one_shl (p % 64) 64 (omega arith))
    ∙ ap (λ (y : Bool). bit_set old i || y) (set_pow (p % 64) i)
    ∙ grind (arith, nat_tests))

-- one word is masked, so that the bit of the station goes
pub member_masked : (s t : Stations) (p : ℕ) → p < 256
    → ((j : ℕ) → j < 4 → get_or t.words j 0 ≡ cond (eqb j (p / 64)) (bit_and (get_or s.words (p / 64) 0) ((2 ^ 64 - 1) - (1 * 2 ^ (p % 64)) % 2 ^ 64)) (get_or s.words j 0))
    → member t ≡ put (member s) p false
member_masked s t p h each =
    let old = get_or s.words (p / 64) 0 in
    let small : p % 64 < 64 = omega arith in
    member_changed s t p _ false h each
    (λ i l.
    ap (λ (x : ℕ). bit_set (bit_and old ((2 ^ 64 - 1) - x)) i) (one_shl (p % 64) 64 (omega arith))
    ∙ set_without old (2 ^ (p % 64)) i l (pow-lt small) ∙ ap (λ (y : Bool). bit_set old i && not y) (set_pow (p % 64) i) ∙ grind (arith, nat_tests))

pub member_remove : (s t : Stations) (p : ℕ) → length s.words ≡ 4 → p < 256
    → t.words ≡ set s.words (p / 64) (bit_and (get_or s.words (p / 64) 0) ((2 ^ 64 - 1) - (1 * 2 ^ (p % 64)) % 2 ^ 64)) → member t ≡ put (member s) p false
member_remove s t p n h e = member_masked s t p h (λ j l. ap (λ ws. get_or ws j 0) e ∙ set_each s.words (p / 64) _ j n l (omega arith))

spread : (q : ℕ) (a b : Bool) → ltb q 256 && (a || b) ≡ (ltb q 256 && a) || (ltb q 256 && b)
spread q a b = grind (arith, nat_tests)

abbrev or_at : Stations → Stations → ℕ → ℕ
or_at s t i = bit_or (get_or s.words i 0) (get_or t.words i 0)

pub member_either : (s t u : Stations) → u.words ≡ or_at s t 0 ∷ or_at s t 1 ∷ or_at s t 2 ∷ or_at s t 3 ∷ [] → member u ≡ either (member s) (member t)
unfolding member
member_either s t u e =
    fun_ext (λ q.
    guarded q _ _ (λ h.
    ap (λ ws. at_word ws q) e
    ∙ ap (λ (x : ℕ). bit_set x (q % 64)) (four_each (or_at s t) (q / 64) (omega arith))
    ∙ set_or _ _ (q % 64))
    ∙ spread q _ _)

below : (b : Bool) (x y : ℕ) → x < y → ltb x y && b ≡ b
below b x y h = grind (arith, nat_tests)

-- a station's bit, by the word and the place in it
pub member_at : (s : Stations) (p j i : ℕ) → p < 256 → p / 64 ≡ j → p % 64 ≡ i → member s p ≡ bit_set (get_or s.words j 0) i
unfolding member
member_at s p j i h d m =
    below _ p 256 h ∙ ap (λ (x : ℕ). bit_set (get_or s.words x 0) (p % 64)) d ∙ ap (bit_set (get_or s.words j 0)) m

-- no station from 256 on is in a set
pub member_past : (s : Stations) (p : ℕ) → 256 ≤ p → member s p ≡ false
unfolding member
member_past s p h = let e : ltb p 256 ≡ false = grind (arith, nat_tests) in ap (λ (t : Bool). t && at_word s.words p) e

abbrev in_word : Stations → Stations → ℕ → ℕ → Bool
in_word s t j = only (bit_set (get_or s.words j 0)) (bit_set (get_or t.words j 0))

only_at : (s t : Stations) (p j i : ℕ) → p < 256 → p / 64 ≡ j → p % 64 ≡ i → only (member s) (member t) p ≡ in_word s t j i
only_at s t p j i h d m = let a = member_at s p j i h d m in let b = member_at t p j i h d m in cc

-- the set is counted word by word
pub only_words : (s t : Stations) → how_many (only (member s) (member t)) 256
    ≡ how_many (in_word s t 0) 64 + how_many (in_word s t 1) 64 + how_many (in_word s t 2) 64 + how_many (in_word s t 3) 64
only_words s t =
    let f : ℕ → Bool = only (member s) (member t) in
    let a = how_many_split f 64 192 in
    let b = how_many_split (λ i. f (64 + i)) 64 128 in
    let c = how_many_split (λ i. f (64 + (64 + i))) 64 64 in
    let w0 = how_many_same f (in_word s t 0) 64 (λ i h. only_at s t i 0 i (omega arith) (omega arith) (omega arith)) in
    let w1 = how_many_same (λ i. f (64 + i)) (in_word s t 1) 64 (λ i h. only_at s t (64 + i) 1 i (omega arith) (omega arith) (omega arith)) in
    let w2 = how_many_same (λ i. f (64 + (64 + i))) (in_word s t 2) 64 (λ i h. only_at s t (64 + (64 + i)) 2 i (omega arith) (omega arith) (omega arith)) in
    let w3 = how_many_same (λ i. f (64 + (64 + (64 + i)))) (in_word s t 3) 64 (λ i h. only_at s t (64 + (64 + (64 + i))) 3 i (omega arith) (omega arith) (omega arith)) in
    omega (arith, a, b, c, w0, w1, w2, w3)
