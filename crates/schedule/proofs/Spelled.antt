-- What a reader meets in the bytes of items.
use Rattle.std.proofs.Common.{◌≡◌, ℕ, ◌+◌, ◌-◌, ◌<◌, ◌≤◌, List, [], ◌++◌, length, take, Some, Ok, Err, Option, Result, sym, refl, ap, ◌∙◌, ap₂, arith, length-append}
use Rattle.std.proofs.lemmas.List.{take_at, drop_at}
use Rattle.fields.proofs.Spelling.{two_le2_more}
use Rattle.schedule.specs.declared.fault.Flaw.{Flaw}
use Rattle.schedule.specs.declared.fault.FileFault.TheVariants.{At}
use Rattle.schedule.specs.declared.stage.Stage.{Stage}
use Rattle.schedule.specs.Items.{Item, PlacedItem}
use Rattle.schedule.specs.Framing.{frame_of, framed, frame_size}
use Rattle.schedule.specs.Kinds.{Kind, Settings, Start, Tick, Enter, Leave, Crash, Read, Write, Deliver, number, kind_of, kind_in, body_of, spell}
use Rattle.schedule.specs.Rules.{judged, of_kind, stage_after}
use Rattle.schedule.specs.Reading.{measured, in_frame, turn_record, turn, Reading, ahead, reading}
use Rattle.schedule.specs.Readers.{length_if}
use Rattle.schedule.specs.Writing.{onward, stage_past_item}
use Rattle.schedule.proofs.Frames.{frame_ok}
use Rattle.schedule.proofs.Turns.{turn_some}
use Rattle.schedule.proofs.Readings.{never, reading_gives, reading_fails}

pub number_small : (k : Kind) → number k < 65536
number_small Settings = omega arith
number_small Start = omega arith
number_small Tick = omega arith
number_small Enter = omega arith
number_small Leave = omega arith
number_small Crash = omega arith
number_small Read = omega arith
number_small Write = omega arith
number_small Deliver = omega arith

pub kind_of_number : (k : Kind) → kind_of (number k) ≡ Some k
kind_of_number Settings = refl
kind_of_number Start = refl
kind_of_number Tick = refl
kind_of_number Enter = refl
kind_of_number Leave = refl
kind_of_number Crash = refl
kind_of_number Read = refl
kind_of_number Write = refl
kind_of_number Deliver = refl

less_two : (n : ℕ) → (2 + n) - 2 ≡ n
less_two n = omega arith

-- a frame is read as the kind and the body that it was made of
frame_framed : (k : ℕ) (body more : List ℕ) → k < 65536 → 2 + length body < 65536
    → frame_of (framed k body ++ more) ≡ Ok (record { kind = k; body = body })
frame_framed k body more hk hb =
    sym (frame_ok (framed k body ++ more) (2 + length body) k body
    (omega arith) (sym (two_le2_more (2 + length body) [] hb)) (sym (two_le2_more k [] hk)) (omega arith)
    (omega (arith, length-append body more))
    (sym (ap (λ (j : ℕ). take j (body ++ more)) (less_two (length body)) ∙ take_at body more _ refl)))

size_of : (i : Item) → frame_size (body_of i) ≡ length (spell i)
size_of i = omega arith

-- what is met where an item is spelled
pub turn_spelled : (s : Stage) (at : ℕ) (i : Item) (more : List ℕ) → length (spell i) ≤ 65536
    → turn s at (spell i ++ more) ≡ turn_record s at (measured (length (spell i)) (judged s (kind_in i) (body_of i)))
turn_spelled s at i more h =
    let k : Kind = kind_in i in
    let f = frame_framed (number k) (body_of i) more (number_small k) (omega arith) in
    turn_some s at (spell i ++ more) (omega arith)
    ∙ ap (λ r. turn_record s at (in_frame s r)) f
    ∙ ap₂ (λ (n : ℕ) (o : Option Kind). turn_record s at (measured n (of_kind s (body_of i) o))) (size_of i) (kind_of_number k)

-- an item that a reader refuses
pub reading_flaw : (s : Stage) (at : ℕ) (i : Item) (more : List ℕ) (f : Flaw) → length (spell i) ≤ 65536
    → Err f ≡ stage_past_item s i → reading s at (spell i ++ more) ≡ Err (At f at)
reading_flaw s at i more f h e =
    reading_fails s at (spell i ++ more) (At f at)
    (turn_spelled s at i more h ∙ ap (λ r. turn_record s at (measured (length (spell i)) r)) (flawed (judged s (kind_in i) (body_of i)) e))
  where
    flawed : (r : Result Item Flaw) → Err f ≡ onward s r → r ≡ Err f
    flawed (Ok j) e = never (cc)
    flawed (Err g) e = cc

onward_item : (s t : Stage) (r : Result Item Flaw) → Ok t ≡ onward s r → (j : Item) × (r ≡ Ok j) × (t ≡ stage_after s j)
onward_item s t (Ok j) e = (j, refl, cc)
onward_item s t (Err g) e = never (cc)

-- an item that a reader accepts, ahead of what follows it
pub reading_past : (s t : Stage) (at : ℕ) (i : Item) (more : List ℕ) → length (spell i) ≤ 65536 → Ok t ≡ stage_past_item s i
    → (j : Item) × (judged s (kind_in i) (body_of i) ≡ Ok j)
    × (reading s at (spell i ++ more) ≡ ahead (record { at = at; item = j }) (reading t (at + length (spell i)) more))
reading_past s t at i more h e =
    let g = onward_item s t (judged s (kind_in i) (body_of i)) e in
    let j : Item = g.0 in (
      j,
      g.1,
      reading_gives s at (spell i ++ more) (record { at = at; item = j }) (stage_after s j) (length (spell i))
          (turn_spelled s at i more h ∙ ap (λ r. turn_record s at (measured (length (spell i)) r)) g.1)
          ∙ ap₂ (λ (u : Stage) (bs : List ℕ). ahead (record { at = at; item = j }) (reading u (at + length (spell i)) bs)) (sym g.2)
          (drop_at (spell i) more (length (spell i)) refl),
    )

pub length_if_ahead : (n : ℕ) (x : PlacedItem) (r : Reading) → length_if n (ahead x r) ≡ length_if n r
length_if_ahead n x (Ok xs) = refl
length_if_ahead n x (Err e) = refl
