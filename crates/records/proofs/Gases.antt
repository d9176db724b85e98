-- Gas records are read back, have one spelling, and are read where they fit.
use Rattle.std.proofs.Common.{◌≡◌, ℕ, ◌<◌, ◌≤◌, List, [], ◌++◌, length, drop, ℤ, Some, refl, ap, ◌∙◌, ap₂, arith, length-drop}
use Rattle.std.proofs.ByRecursion.{All-drop}
use Rattle.std.proofs.lemmas.List.{drop_all, get_or-drop}
use Rattle.std.specs.List.{AllByRecursion}
use Rattle.fields.specs.Numbers.{two, four, signed_four, le2, le4, signed_le4}
use Rattle.fields.proofs.Spelling.{four_le4, signed_back, two_front, signed_front, four_only, signed_only, four_drop, signed_drop}
use Rattle.records.specs.declared.gas.Gas.TheVariants.{NoCell, Zero, ZeroSpan}
use Rattle.records.specs.declared.class.Class.TheVariants as classes
use Rattle.records.specs.Gases.{gas_of, gas_bytes, Held}
use Rattle.records.specs.Spellings.{ReadsBack, OneSpelling, ReadWhereItFits}

pub reads_back : ReadsBack gas_of Held gas_bytes
reads_back NoCell h = refl
reads_back (Zero z) h = ap (λ (y : ℤ). Some (Zero y)) (signed_back z h)
reads_back (ZeroSpan z s) h = ap₂ (λ (y : ℤ) (t : ℕ). Some (ZeroSpan y t)) (signed_back z h.0) (four_le4 s h.1)

-- bytes after a form
formed : (bs more : List ℕ) (f : ℕ) → AllByRecursion (λ b. b < 256) bs → 2 ≤ length bs → two bs 0 ≡ f → drop 2 bs ≡ more → bs ≡ le2 f ++ more
formed bs more f a h e d = two_front bs a h ∙ ap₂ (λ (x : ℕ) (xs : List ℕ). le2 x ++ xs) e d

-- eight bytes are a signed number and a number
zero_span : (bs : List ℕ) → AllByRecursion (λ b. b < 256) bs → length bs ≡ 8 → bs ≡ signed_le4 (signed_four bs 0) ++ le4 (four bs 4)
zero_span bs a h =
    signed_front bs a (omega arith)
    ∙ ap (λ (xs : List ℕ). signed_le4 (signed_four bs 0) ++ xs) (four_only (drop 4 bs) (All-drop _ 4 bs a) (simp length-drop (omega arith)) ∙ ap le4 (four_drop 4 bs))

pub one_spelling : OneSpelling gas_of gas_bytes
one_spelling bs NoCell a e = formed bs [] 0 a (grind arith) (grind arith) (drop_all 2 bs (grind arith))
one_spelling bs (Zero z) a e =
    let v : signed_four bs 2 ≡ z = grind arith in
    formed bs (signed_le4 z) 1 a (grind arith) (grind arith)
    (signed_only (drop 2 bs) (All-drop _ 2 bs a) (simp length-drop (grind arith)) ∙ ap signed_le4 (signed_drop 2 bs ∙ v))
one_spelling bs (ZeroSpan z s) a e =
    let v : signed_four bs 2 ≡ z = grind arith in
    let w : four bs 6 ≡ s = grind arith in
    formed bs (signed_le4 z ++ le4 s) 2 a (grind arith) (grind arith)
    (zero_span (drop 2 bs) (All-drop _ 2 bs a) (simp length-drop (grind arith))
    ∙ ap₂ (λ (y : ℤ) (t : ℕ). signed_le4 y ++ le4 t) (signed_drop 2 bs ∙ v) (simp get_or-drop w))

pub read_where_it_fits : ReadWhereItFits gas_of classes.Gas
read_where_it_fits bs = (λ e. grind arith, λ e. grind arith)
