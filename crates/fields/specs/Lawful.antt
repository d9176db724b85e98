-- That the numbers of two and four bytes keep the laws.
use Rattle.std.proofs.Common.{◌≡◌, ℕ, ◌+◌, ◌*◌, ◌/◌, ◌%◌, ◌^◌, ◌<◌, ◌≤◌, List, [], ◌∷◌, ◌++◌, length, take, drop, ℤ, sym, refl, ap, ◌∙◌, arith, to_z-of_z, w32, SFits, to_z, of_z}
use native.Mathlib.Nat.{div-div-eq-div-mul}
use mir.Facts.{Fits-of_z, of_z-to_z}
use Rattle.std.proofs.Math.Facts.{sfits_to_z}
use Rattle.std.specs.List.{AllByRecursion}
use Rattle.fields.specs.Numbers.{two, four, signed_four, le2, le4, signed_le4}
use Rattle.fields.specs.Laws.{FieldLaws}

-- what follows the first bytes does not count
pub two_first : (bs : List ℕ) → two (take 2 bs) 0 ≡ two bs 0
two_first [] = refl
two_first (a ∷ []) = refl
two_first (a ∷ b ∷ r) = refl

pub four_first : (bs : List ℕ) → four (take 4 bs) 0 ≡ four bs 0
four_first [] = refl
four_first (a ∷ []) = refl
four_first (a ∷ b ∷ []) = refl
four_first (a ∷ b ∷ c ∷ []) = refl
four_first (a ∷ b ∷ c ∷ d ∷ r) = refl

pub signed_first : (bs : List ℕ) → signed_four (take 4 bs) 0 ≡ signed_four bs 0
signed_first bs = ap (to_z w32) (four_first bs)

byte : (x : ℕ) → x % 256 < 256
byte x = omega arith

-- a spelling is of bytes
pub all_le2 : (x : ℕ) → AllByRecursion (λ b. b < 256) (le2 x)
all_le2 x = (byte x, (byte (x / 256), tt))

pub all_le4 : (x : ℕ) → AllByRecursion (λ b. b < 256) (le4 x)
all_le4 x = (byte x, (byte (x / 256), (byte (x / 65536), (byte (x / 16777216), tt))))

pub all_signed_le4 : (z : ℤ) → AllByRecursion (λ b. b < 256) (signed_le4 z)
all_signed_le4 z = all_le4 (of_z w32 z)

-- what was spelled is read back, whatever follows it
pub two_le2_more : (x : ℕ) (more : List ℕ) → x < 2 ^ 16 → two (le2 x ++ more) 0 ≡ x
two_le2_more x more h = omega arith

digits : (x q r : ℕ) → q ≡ x / 256 / 256 → r ≡ q / 256 → x < 2 ^ 32 → x % 256 + x / 256 % 256 * 256 + q % 256 * 65536 + r % 256 * 16777216 ≡ x
digits x q r e f h = omega arith

pub four_le4_more : (x : ℕ) (more : List ℕ) → x < 2 ^ 32 → four (le4 x ++ more) 0 ≡ x
four_le4_more x more h = digits x (x / 65536) (x / 16777216) (sym (div-div-eq-div-mul x 256 256)) (sym (div-div-eq-div-mul x 65536 256)) h

pub signed_back_more : (z : ℤ) (more : List ℕ) → SFits w32 z → signed_four (signed_le4 z ++ more) 0 ≡ z
signed_back_more z more h = ap (to_z w32) (four_le4_more (of_z w32 z) more (Fits-of_z h).fits) ∙ to_z-of_z h

-- bytes give back the same bytes
le2_two : (a b : ℕ) → a < 256 → b < 256 → le2 (a + b * 256) ≡ a ∷ b ∷ []
le2_two a b ha hb =
    let x : ℕ = a + b * 256 in
    let e0 : x % 256 ≡ a = omega arith in
    let d1 : x / 256 ≡ b = omega arith in
    let e1 : x / 256 % 256 ≡ b = rw d1 (omega arith) in
    cc

le4_four : (a b c d : ℕ) → a < 256 → b < 256 → c < 256 → d < 256 → le4 (a + b * 256 + c * 65536 + d * 16777216) ≡ a ∷ b ∷ c ∷ d ∷ []
le4_four a b c d ha hb hc hd =
    let x : ℕ = a + b * 256 + c * 65536 + d * 16777216 in
    let e0 : x % 256 ≡ a = omega arith in
    let d1 : x / 256 ≡ b + c * 256 + d * 65536 = omega arith in
    let d2 : x / 65536 ≡ c + d * 256 = omega arith in
    let d3 : x / 16777216 ≡ d = omega arith in
    let e1 : x / 256 % 256 ≡ b = rw d1 (omega arith) in
    let e2 : x / 65536 % 256 ≡ c = rw d2 (omega arith) in
    let e3 : x / 16777216 % 256 ≡ d = rw d3 (omega arith) in
    cc

-- bytes say a number that fits
pub two_below : (bs : List ℕ) → AllByRecursion (λ b. b < 256) bs → two bs 0 < 2 ^ 16
two_below [] k = omega arith
two_below (a ∷ []) k = omega (arith, k.0)
two_below (a ∷ b ∷ r) k = omega (arith, k.0, k.1.0)

pub four_below : (bs : List ℕ) → AllByRecursion (λ b. b < 256) bs → four bs 0 < 2 ^ 32
four_below [] k = omega arith
four_below (a ∷ []) k = omega (arith, k.0)
four_below (a ∷ b ∷ []) k = omega (arith, k.0, k.1.0)
four_below (a ∷ b ∷ c ∷ []) k = omega (arith, k.0, k.1.0, k.1.1.0)
four_below (a ∷ b ∷ c ∷ d ∷ r) k = omega (arith, k.0, k.1.0, k.1.1.0, k.1.1.1.0)

pub signed_below : (bs : List ℕ) → AllByRecursion (λ b. b < 256) bs → SFits w32 (signed_four bs 0)
signed_below bs k = sfits_to_z (record { fits = four_below bs k })

-- bytes are the spelling of the number in front, and what follows it
pub two_front : (bs : List ℕ) → AllByRecursion (λ b. b < 256) bs → 2 ≤ length bs → bs ≡ le2 (two bs 0) ++ drop 2 bs
two_front [] k h = grind arith
two_front (a ∷ []) k h = grind arith
two_front (a ∷ b ∷ r) k h = ap (λ (x : List ℕ). x ++ r) (sym (le2_two a b k.0 k.1.0))

pub four_front : (bs : List ℕ) → AllByRecursion (λ b. b < 256) bs → 4 ≤ length bs → bs ≡ le4 (four bs 0) ++ drop 4 bs
four_front [] k h = grind arith
four_front (a ∷ []) k h = grind arith
four_front (a ∷ b ∷ []) k h = grind arith
four_front (a ∷ b ∷ c ∷ []) k h = grind arith
four_front (a ∷ b ∷ c ∷ d ∷ r) k h = ap (λ (x : List ℕ). x ++ r) (sym (le4_four a b c d k.0 k.1.0 k.1.1.0 k.1.1.1.0))

pub signed_front : (bs : List ℕ) → AllByRecursion (λ b. b < 256) bs → 4 ≤ length bs → bs ≡ signed_le4 (signed_four bs 0) ++ drop 4 bs
signed_front bs k h =
    four_front bs k h ∙ ap (λ (x : ℕ). le4 x ++ drop 4 bs) (sym (of_z-to_z {w = w32} (record { fits = four_below bs k })))

-- the three numbers keep the laws
pub two_laws : FieldLaws 2 (λ bs. two bs 0) le2 (λ x. x < 2 ^ 16)
two_laws = record {
  short = omega arith;
  front_only = two_first;
  length_spelled = λ x. refl;
  bytes_spelled = all_le2;
  front_fits = two_below;
  read_back = two_le2_more;
  one_spelling = two_front;
}

pub four_laws : FieldLaws 4 (λ bs. four bs 0) le4 (λ x. x < 2 ^ 32)
four_laws = record {
  short = omega arith;
  front_only = four_first;
  length_spelled = λ x. refl;
  bytes_spelled = all_le4;
  front_fits = four_below;
  read_back = four_le4_more;
  one_spelling = four_front;
}

pub signed_laws : FieldLaws 4 (λ bs. signed_four bs 0) signed_le4 (λ x. SFits w32 x)
signed_laws = record {
  short = omega arith;
  front_only = signed_first;
  length_spelled = λ x. refl;
  bytes_spelled = all_signed_le4;
  front_fits = signed_below;
  read_back = signed_back_more;
  one_spelling = signed_front;
}
