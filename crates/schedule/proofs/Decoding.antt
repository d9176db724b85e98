-- Items and bodies: what a body says is spelled by that body alone.
use Rattle.std.proofs.Common.{◌≡◌, ℕ, ◌+◌, ◌<◌, ◌≤◌, Bool, true, false, cond, ltb, List, [], ◌++◌, length, drop, Some, None, Ok, Err, Option, Result, sym, refl, ap, ◌∙◌, ap₂, arith, length-drop}
use Rattle.std.proofs.ByRecursion.{All-drop}
use Rattle.std.proofs.lemmas.List.{drop_all, drop-drop}
use Rattle.std.specs.List.{AllByRecursion}
use Rattle.fields.specs.Numbers.{two, four, le2, le4}
use Rattle.fields.proofs.Spelling.{two_le2_more, four_le4_more, two_front, four_front, two_only, two_drop}
use Rattle.records.specs.declared.class.Class.{Class}
use Rattle.records.specs.declared.class.Class.TheVariants.{Response, Gas}
use Rattle.records.specs.Classes.{class_of, class_number}
use Rattle.schedule.specs.declared.fault.Flaw.{Flaw}
use Rattle.schedule.specs.declared.fault.Flaw.TheVariants as flaw
use Rattle.schedule.specs.declared.stage.Stage.{Stage}
use Rattle.schedule.specs.declared.stage.Stage.TheVariants as stage
use Rattle.schedule.specs.Items.{Item, settings, start, tick, enter, leave, crash, read, write, deliver}
use Rattle.schedule.specs.Kinds.{Kind, Settings, Start, Tick, Enter, Leave, Crash, Read, Write, Deliver, class_or, choice_of, choice_bytes, item_of, kind_in, body_of}
use Rattle.schedule.specs.Rules.{wrong_length, misplaced, out_of_range, judged, start_wrong, start_out, write_wrong, unless_length}
use Rattle.schedule.specs.Writing.{Fitting}
use Rattle.schedule.proofs.Readings.{never}

abbrev pub Bytes : List ℕ → Type 0
Bytes bs = AllByRecursion (λ b. b < 256) bs

-- an item whose numbers fit is what its body says
pub item_back : (i : Item) → Fitting i → item_of (kind_in i) (body_of i) ≡ i
item_back (settings c) h =
    λ i. settings (record {
      alpha = two_le2_more c.alpha [] h.0 i;
      delta = two_le2_more c.delta [] h.1 i;
      beta = two_le2_more c.beta [] h.2 i;
      gamma = two_le2_more c.gamma [] h.3 i;
      nmin = two_le2_more c.nmin [] h.4 i;
      d = two_le2_more c.d [] h.5 i;
    })
item_back (start Response t k r) h = let a = two_le2_more t [] h.0 in let b = two_le2_more k [] h.1 in cc
item_back (start Gas t k r) h = let a = two_le2_more t [] h.0 in let b = two_le2_more k [] h.1 in cc
item_back tick h = refl
item_back (enter p) h = ap enter (two_le2_more p [] h)
item_back (leave p) h = ap leave (two_le2_more p [] h)
item_back (crash p) h = ap crash (two_le2_more p [] h)
item_back (read p) h = ap read (two_le2_more p [] h)
item_back (write p r) h = ap (λ (x : ℕ). write x r) (two_le2_more p [] h)
item_back (deliver m p) h = ap₂ deliver (four_le4_more m [] h.0) (two_le2_more p [] h.1)

-- a record without a flaw passes each test, and says its item
pub record Passed (s : Stage) (k : Kind) (bs : List ℕ) (i : Item) : Type 0 where
  pub length_right : wrong_length s k bs ≡ false
  pub placed : misplaced s k ≡ false
  pub in_range : out_of_range s k bs ≡ false
  pub says : item_of k bs ≡ i

three_tests : (a b c : Bool) (x i : Item)
    → ◌≡◌ {A = Result Item Flaw} (cond a (Err flaw.Length) (cond b (Err flaw.Order) (cond c (Err flaw.Range) (Ok x)))) (Ok i)
    → (a ≡ false) × (b ≡ false) × (c ≡ false) × (x ≡ i)
three_tests true b c x i e = never (cc)
three_tests false true c x i e = never (cc)
three_tests false false true x i e = never (cc)
three_tests false false false x i e = (refl, refl, refl, cc)

pub passed : (s : Stage) (k : Kind) (bs : List ℕ) (i : Item) → judged s k bs ≡ Ok i → Passed s k bs i
passed s k bs i e =
    let t = three_tests (wrong_length s k bs) (misplaced s k) (out_of_range s k bs) (item_of k bs) i e in
    record { length_right = t.0; placed = t.1; in_range = t.2; says = t.3 }

of_length : (n : ℕ) (bs : List ℕ) → unless_length n bs ≡ false → length bs ≡ n
of_length n bs e = grind arith

-- the number in front of what follows n bytes
front_at : (n : ℕ) (bs : List ℕ) → Bytes bs → n + 2 ≤ length bs → drop n bs ≡ le2 (two bs n) ++ drop (n + 2) bs
front_at n bs a h =
    let l = length-drop n bs in
    two_front (drop n bs) (All-drop _ n bs a) (omega arith)
    ∙ ap₂ (λ (x : ℕ) (r : List ℕ). le2 x ++ r) (two_drop n bs) (drop-drop 2 n bs)

front : (bs : List ℕ) → Bytes bs → 2 ≤ length bs → bs ≡ le2 (two bs 0) ++ drop 2 bs
front bs a h = two_front bs a h

alone : (bs : List ℕ) → Bytes bs → unless_length 2 bs ≡ false → bs ≡ le2 (two bs 0)
alone bs a e = two_only bs a (of_length 2 bs e)

settings_bytes : (bs : List ℕ) → Bytes bs → length bs ≡ 12 → bs ≡ choice_bytes (choice_of bs)
settings_bytes bs a l =
    front bs a (omega arith)
    ∙ ap (λ (r : List ℕ). le2 (two bs 0) ++ r)
    (front_at 2 bs a (omega arith)
    ∙ ap (λ (r : List ℕ). le2 (two bs 2) ++ r)
    (front_at 4 bs a (omega arith)
    ∙ ap (λ (r : List ℕ). le2 (two bs 4) ++ r)
    (front_at 6 bs a (omega arith)
    ∙ ap (λ (r : List ℕ). le2 (two bs 6) ++ r)
    (front_at 8 bs a (omega arith)
    ∙ ap (λ (r : List ℕ). le2 (two bs 8) ++ r)
    (front_at 10 bs a (omega arith) ∙ ap (λ (r : List ℕ). le2 (two bs 10) ++ r) (drop_all 12 bs (omega arith)))))))

-- a start that passes has a class, and is long enough for its fields
start_class : (o : Option Class) (bs : List ℕ) → start_wrong o bs ≡ false → start_out o bs ≡ false → (o ≡ Some (class_or o)) × (6 ≤ length bs)
start_class None bs w e = never (cc)
start_class (Some c) bs w e = (refl, grind arith)

class_numbered : (n : ℕ) (c : Class) → class_of n ≡ Some c → n ≡ class_number c
class_numbered n Response e = grind arith
class_numbered n Gas e = grind arith

start_held : (bs : List ℕ) → cond (ltb (length bs) 2) true (start_wrong (class_of (two bs 0)) bs) ≡ false
    → (2 ≤ length bs) × (start_wrong (class_of (two bs 0)) bs ≡ false)
start_held bs e = (grind arith, grind arith)

start_bytes : (bs : List ℕ) → Bytes bs → cond (ltb (length bs) 2) true (start_wrong (class_of (two bs 0)) bs) ≡ false
    → start_out (class_of (two bs 0)) bs ≡ false → bs ≡ body_of (item_of Start bs)
start_bytes bs a w e =
    let h = start_held bs w in
    let c = start_class (class_of (two bs 0)) bs h.1 e in
    front bs a h.0
    ∙ ap (λ (n : ℕ). le2 n ++ drop 2 bs) (class_numbered (two bs 0) (class_or (class_of (two bs 0))) c.0)
    ∙ ap (λ (r : List ℕ). le2 (class_number (class_or (class_of (two bs 0)))) ++ r)
    (front_at 2 bs a (omega (arith, c.1)) ∙ ap (λ (r : List ℕ). le2 (two bs 2) ++ r) (front_at 4 bs a (omega (arith, c.1))))

deliver_bytes : (bs : List ℕ) → Bytes bs → length bs ≡ 6 → bs ≡ le4 (four bs 0) ++ le2 (two bs 4)
deliver_bytes bs a l =
    four_front bs a (omega arith)
    ∙ ap (λ (r : List ℕ). le4 (four bs 0) ++ r)
    (front_at 4 bs a (omega arith) ∙ ap (λ (r : List ℕ). le2 (two bs 4) ++ r) (drop_all 6 bs (omega arith)))

write_bytes : (s : Stage) (bs : List ℕ) → Bytes bs → write_wrong s bs ≡ false → misplaced s Write ≡ false → bs ≡ le2 (two bs 0) ++ drop 2 bs
write_bytes stage.Settings bs a w m = never (cc)
write_bytes stage.Start bs a w m = never (cc)
write_bytes (stage.Steps c) bs a w m = let h : 2 ≤ length bs = grind arith in front bs a h

-- a body that passes is the body of what it says
body_back : (s : Stage) (k : Kind) (bs : List ℕ) → Bytes bs → wrong_length s k bs ≡ false → misplaced s k ≡ false → out_of_range s k bs ≡ false
    → bs ≡ body_of (item_of k bs)
body_back s Settings bs a w m o = settings_bytes bs a (of_length 12 bs w)
body_back s Start bs a w m o = start_bytes bs a w o
body_back s Tick bs a w m o = let l = of_length 0 bs w in drop_all 0 bs (omega arith)
body_back s Enter bs a w m o = alone bs a w
body_back s Leave bs a w m o = alone bs a w
body_back s Crash bs a w m o = alone bs a w
body_back s Read bs a w m o = alone bs a w
body_back s Write bs a w m o = write_bytes s bs a w m
body_back s Deliver bs a w m o = deliver_bytes bs a (of_length 6 bs w)

kind_back : (k : Kind) (bs : List ℕ) → kind_in (item_of k bs) ≡ k
kind_back Settings bs = refl
kind_back Start bs = refl
kind_back Tick bs = refl
kind_back Enter bs = refl
kind_back Leave bs = refl
kind_back Crash bs = refl
kind_back Read bs = refl
kind_back Write bs = refl
kind_back Deliver bs = refl

-- what is accepted of a kind and a body has just that kind and that body
pub body_spelled : (s : Stage) (k : Kind) (bs : List ℕ) (i : Item) → Bytes bs → judged s k bs ≡ Ok i → (k ≡ kind_in i) × (bs ≡ body_of i)
body_spelled s k bs i a e =
    let p = passed s k bs i e in
    (sym (kind_back k bs) ∙ ap kind_in p.says, body_back s k bs a p.length_right p.placed p.in_range ∙ ap body_of p.says)
