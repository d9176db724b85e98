-- How numbers are spelled in bytes: reading gives back what was spelled, and bytes that are read have one spelling.
use Rattle.std.proofs.Common.{◌≡◌, ℕ, ◌^◌, ◌<◌, List, [], ◌++◌, length, drop, ℤ, ap, ◌∙◌, add-zero, arith, w32, SFits, to_z}
use Rattle.std.proofs.lemmas.List.{drop_all, get_or-drop}
use Rattle.std.specs.List.{AllByRecursion}
use Rattle.fields.specs.Numbers.{two, four, signed_four, le2, le4, signed_le4}
pub use Rattle.fields.specs.Lawful.{two_le2_more, four_le4_more, signed_back_more, two_front, four_front, signed_front}

pub four_le4 : (x : ℕ) → x < 2 ^ 32 → four (le4 x) 0 ≡ x
four_le4 x h = four_le4_more x [] h

pub signed_back : (z : ℤ) → SFits w32 z → signed_four (signed_le4 z) 0 ≡ z
signed_back z h = signed_back_more z [] h

-- the number from an index on is the number in front of the rest
pub two_drop : (n : ℕ) (bs : List ℕ) → two (drop n bs) 0 ≡ two bs n
two_drop n bs = simp (get_or-drop, add-zero)

pub four_drop : (n : ℕ) (bs : List ℕ) → four (drop n bs) 0 ≡ four bs n
four_drop n bs = simp (get_or-drop, add-zero)

pub signed_drop : (n : ℕ) (bs : List ℕ) → signed_four (drop n bs) 0 ≡ signed_four bs n
signed_drop n bs = ap (to_z w32) (four_drop n bs)

-- bytes that are one number are its spelling
pub two_only : (bs : List ℕ) → AllByRecursion (λ b. b < 256) bs → length bs ≡ 2 → bs ≡ le2 (two bs 0)
two_only bs k h = two_front bs k (omega arith) ∙ ap (λ (r : List ℕ). le2 (two bs 0) ++ r) (drop_all 2 bs (omega arith))

pub four_only : (bs : List ℕ) → AllByRecursion (λ b. b < 256) bs → length bs ≡ 4 → bs ≡ le4 (four bs 0)
four_only bs k h = four_front bs k (omega arith) ∙ ap (λ (r : List ℕ). le4 (four bs 0) ++ r) (drop_all 4 bs (omega arith))

pub signed_only : (bs : List ℕ) → AllByRecursion (λ b. b < 256) bs → length bs ≡ 4 → bs ≡ signed_le4 (signed_four bs 0)
signed_only bs k h = signed_front bs k (omega arith) ∙ ap (λ (r : List ℕ). signed_le4 (signed_four bs 0) ++ r) (drop_all 4 bs (omega arith))
