-- A start is judged by its fields as it is by its bytes.
use Rattle.std.proofs.Common.{◌≡◌, ℕ, ◌<◌, ◌≤◌, Bool, true, false, cond, not, ltb, List, [], length, drop, Some, Ok, Err, Option, Result, sym, refl, ap, ◌∙◌, ap₂, arith}
use Rattle.fields.specs.Numbers.{two, le2}
use Rattle.fields.proofs.Spelling.{two_le2_more}
use Rattle.records.specs.declared.class.Class.{Class}
use Rattle.records.specs.declared.class.Class.TheVariants.{Response, Gas}
use Rattle.records.specs.declared.class.Misfit.{Misfit}
use Rattle.records.specs.Classes.{class_of, class_number}
use Rattle.records.specs.Shapes.{shape_of}
use Rattle.settings.specs.Admission.{start_in_range}
use Rattle.schedule.specs.declared.fault.Flaw.{Flaw}
use Rattle.schedule.specs.declared.fault.Flaw.TheVariants as flaw
use Rattle.schedule.specs.declared.stage.Stage.{Stage}
use Rattle.schedule.specs.Items.{Item, start}
use Rattle.schedule.specs.Kinds.{Start, class_or, item_of, body_of}
use Rattle.schedule.specs.Rules.{wrong, unknown, start_wrong, wrong_length, misplaced, start_out, judged, start_judged}
use Rattle.schedule.specs.Writing.{onward, stage_past_item}

-- an item, where nothing is wrong
abbrev pub said : Result Unit Flaw → Item → Result Item Flaw
said (Ok u) i = Ok i
said (Err f) i = Err f

by_tests : (a b c : Bool) (i : Item)
    → ◌≡◌ {A = Result Item Flaw} (cond a (Err flaw.Length) (cond b (Err flaw.Order) (cond c (Err flaw.Range) (Ok i))))
    (said (cond a (Err flaw.Length) (cond b (Err flaw.Order) (cond c (Err flaw.Range) (Ok tt)))) i)
by_tests true b c i = refl
by_tests false true c i = refl
by_tests false false true i = refl
by_tests false false false i = refl

pub judged_start : (s : Stage) (c : Class) (bs : List ℕ) → 6 ≤ length bs → class_of (two bs 0) ≡ Some c
    → judged s Start bs ≡ said (start_judged s c (two bs 2) (two bs 4) (drop 6 bs)) (start c (two bs 2) (two bs 4) (drop 6 bs))
judged_start s c bs h e =
    let x : Result Unit Misfit = shape_of c (drop 6 bs) in
    let i : Item = start c (two bs 2) (two bs 4) (drop 6 bs) in
    let out : Bool = cond (unknown x) true (not (start_in_range (two bs 2) (two bs 4))) in
    let two_held : ltb (length bs) 2 ≡ false = grind arith in
    let six_held : ltb (length bs) 6 ≡ false = grind arith in
    let l : wrong_length s Start bs ≡ wrong x =
    ap (λ (b : Bool). cond b true (start_wrong (class_of (two bs 0)) bs)) two_held
    ∙ ap (λ (o : Option Class). start_wrong o bs) e ∙ ap (λ (b : Bool). cond b true (wrong x)) six_held in
    tests (wrong_length s Start bs) (start_out (class_of (two bs 0)) bs) (item_of Start bs) (wrong x) out i l
    (ap (λ (o : Option Class). start_out o bs) e) (ap (λ (o : Option Class). start (class_or o) (two bs 2) (two bs 4) (drop 6 bs)) e)
  where
    tests : (a c : Bool) (i : Item) (a' c' : Bool) (i' : Item) → a ≡ a' → c ≡ c' → i ≡ i' → ◌≡◌ {A = Result Item Flaw}
        (cond a (Err flaw.Length) (cond (misplaced s Start) (Err flaw.Order) (cond c (Err flaw.Range) (Ok i))))
        (said (cond a' (Err flaw.Length) (cond (misplaced s Start) (Err flaw.Order) (cond c' (Err flaw.Range) (Ok tt)))) i')
    tests a c i a' c' i' p q r = rw (p, q, r) (by_tests a' (misplaced s Start) c' i')

class_back : (c : Class) → class_of (class_number c) ≡ Some c
class_back Response = refl
class_back Gas = refl

number_back : (c : Class) → two (le2 (class_number c)) 0 ≡ class_number c
number_back Response = refl
number_back Gas = refl

-- the flaw of a start is the one that a reader finds in its bytes
pub spelled_flaw : (s : Stage) (c : Class) (t k : ℕ) (r : List ℕ) (f : Flaw) → t < 65536 → k < 65536
    → Err f ≡ start_judged s c t k r → Err f ≡ stage_past_item s (start c t k r)
spelled_flaw s c t k r f ht hk e =
    let bs : List ℕ = body_of (start c t k r) in
    let j = judged_start s c bs (omega arith) (ap class_of (number_back c) ∙ class_back c) in
    let same : start_judged s c (two bs 2) (two bs 4) r ≡ start_judged s c t k r =
    ap₂ (λ (x y : ℕ). start_judged s c x y r) (two_le2_more t [] ht) (two_le2_more k [] hk) in
    ap (λ (x : Result Unit Flaw). onward s (said x (start c (two bs 2) (two bs 4) r))) (e ∙ sym same) ∙ ap (onward s) (sym j)
