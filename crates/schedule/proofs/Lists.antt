-- Items that were read, ahead of what is still to be read.
use Rattle.std.proofs.Common.{◌≡◌, ℕ, true, List, [], ◌∷◌, ◌++◌, is_ok, Ok, Err, refl, ap, ◌∙◌, arith}
use Rattle.schedule.specs.Items.{PlacedItem}
use Rattle.schedule.specs.Reading.{Reading, ahead}
use Rattle.schedule.specs.Readers.{verdict}

abbrev pub prefixed : List PlacedItem → Reading → Reading
prefixed [] r = r
prefixed (x ∷ xs) r = ahead x (prefixed xs r)

pub prefixed_more : (xs : List PlacedItem) (x : PlacedItem) (r : Reading) → prefixed xs (ahead x r) ≡ prefixed (xs ++ x ∷ []) r
prefixed_more [] x r = refl
prefixed_more (y ∷ ys) x r = ap (ahead y) (prefixed_more ys x r)

pub prefixed_all : (xs : List PlacedItem) → prefixed xs (Ok []) ≡ Ok xs
prefixed_all [] = refl
prefixed_all (x ∷ xs) = ap (ahead x) (prefixed_all xs)

pub verdict_ahead : (x : PlacedItem) (r : Reading) → verdict (ahead x r) ≡ verdict r
verdict_ahead x (Ok xs) = refl
verdict_ahead x (Err e) = refl

pub verdict_prefixed : (xs : List PlacedItem) (r : Reading) → verdict (prefixed xs r) ≡ verdict r
verdict_prefixed [] r = refl
verdict_prefixed (x ∷ xs) r = verdict_ahead x (prefixed xs r) ∙ verdict_prefixed xs r

pub verdict_ok : (r : Reading) → Ok tt ≡ verdict r → is_ok r ≡ true
verdict_ok (Ok xs) e = refl
verdict_ok (Err f) e = let z : ◌≡◌ {A = ℕ} 0 1 = cc in let no : ⊥ = omega arith in absurd no
