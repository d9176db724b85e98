-- Responses are read back, have one spelling, and are read where they fit.
use Rattle.std.proofs.Common.{◌≡◌, ℕ, ◌<◌, List, ◌++◌, length, drop, Some, ap, ◌∙◌, ap₂, arith, length-drop}
use Rattle.std.proofs.ByRecursion.{All-drop}
use Rattle.std.specs.List.{AllByRecursion}
use Rattle.fields.specs.Numbers.{four, le4}
use Rattle.fields.proofs.Spelling.{four_le4, four_front, four_only, four_drop}
use Rattle.records.specs.declared.class.Class.TheVariants as classes
use Rattle.records.specs.Responses.{response_of, response_bytes, Within}
use Rattle.records.specs.Spellings.{ReadsBack, OneSpelling, ReadWhereItFits}

pub reads_back : ReadsBack response_of Within response_bytes
reads_back r h = ap₂ (λ (x y : ℕ). Some (record { gain = x; corner = y })) (four_le4 r.gain h.0) (four_le4 r.corner h.1)

-- eight bytes are two numbers
two_fours : (bs : List ℕ) → AllByRecursion (λ b. b < 256) bs → length bs ≡ 8 → bs ≡ le4 (four bs 0) ++ le4 (four bs 4)
two_fours bs a h =
    four_front bs a (omega arith)
    ∙ ap (λ (xs : List ℕ). le4 (four bs 0) ++ xs) (four_only (drop 4 bs) (All-drop _ 4 bs a) (simp length-drop (omega arith)) ∙ ap le4 (four_drop 4 bs))

pub one_spelling : OneSpelling response_of response_bytes
one_spelling bs r a e =
    let g : four bs 0 ≡ r.gain = grind arith in
    let c : four bs 4 ≡ r.corner = grind arith in
    two_fours bs a (grind arith) ∙ ap₂ (λ (x y : ℕ). le4 x ++ le4 y) g c

pub read_where_it_fits : ReadWhereItFits response_of classes.Response
read_where_it_fits bs = (λ e. grind arith, λ e. grind arith)
