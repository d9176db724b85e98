-- Writer and reader are inverses: what is written is read again, and what is read has one spelling.
use Rattle.std.proofs.Common.{◌≡◌, ℕ, zero, suc, ◌+◌, ◌-◌, ◌<◌, ◌≤◌, Bool, true, false, cond, eqb, ltb, List, [], ◌∷◌, ◌++◌, length, drop, Some, None, Ok, Err, Option, Result, sym, refl, ap, ◌∙◌, subst, ap₂, arith, length-append, length-drop, true-eqb}
use borrow.Author.Tests.{false-ltb}
use Rattle.std.proofs.ByRecursion.{All-take, All-drop}
use Rattle.std.proofs.lemmas.List.{drop_all, drop-drop, take-append-drop}
use Rattle.std.specs.List.{AllByRecursion}
use Rattle.refusals.specs.declared.Refusal.{Refusal}
use Rattle.fields.specs.Numbers.{two, le2}
use Rattle.fields.proofs.Spelling.{two_front, two_drop}
use Rattle.schedule.specs.declared.fault.Flaw.{Flaw}
use Rattle.schedule.specs.declared.fault.FileFault.TheVariants.{Oversize}
use Rattle.schedule.specs.declared.stage.Stage.{Stage}
use Rattle.schedule.specs.declared.stage.Stage.TheVariants as stage
use Rattle.schedule.specs.Items.{Item, PlacedItem}
use Rattle.schedule.specs.Framing.{Parts, frame_of, framed, frame_size}
use Rattle.schedule.specs.Kinds.{Kind, Settings, Start, Tick, Enter, Leave, Crash, Read, Write, Deliver, number, kind_of, kind_in, body_of, spell}
use Rattle.schedule.specs.Rules.{judged, of_kind, decided, stage_after}
use Rattle.schedule.specs.Reading.{Measured, measured, in_frame, record_of, Turn, ends, fails, gives, turn_end, turn_record, turn, Reading, ahead, follow, scan, reading, most_bytes, read_of}
use Rattle.schedule.specs.Writing.{spelled, as_read, placed_from, Fitting, items_of, onward, WrittenIsRead, ReadIsWritten}
use Rattle.schedule.proofs.Decoding.{Bytes, item_back, passed, body_spelled}
use Rattle.schedule.proofs.Readings.{never, end_gives_none, turn_size}
use Rattle.schedule.proofs.Spelled.{reading_flaw, reading_past}
use Rattle.schedule.proofs.Turns.{framed_at, frame_within}

-- what is written is read again

ahead_ok : (x : PlacedItem) (r : Reading) (xs : List PlacedItem) → ahead x r ≡ Ok xs → (ys : List PlacedItem) × (r ≡ Ok ys) × (xs ≡ x ∷ ys)
ahead_ok x (Ok ys) xs e = (ys, refl, cc)
ahead_ok x (Err f) xs e = never (cc)

end_empty : (s : Stage) (at : ℕ) (xs : List PlacedItem) → reading s at [] ≡ Ok xs → xs ≡ []
end_empty stage.Settings at xs e = never (cc)
end_empty stage.Start at xs e = never (cc)
end_empty (stage.Steps c) at xs e = cc

-- one item ahead of others that are read as themselves
reads_one : (i : Item) (is : List Item) (s : Stage) (at : ℕ) (xs : List PlacedItem) → Fitting i → length (spell i) ≤ most_bytes
    → ((t : Stage) (to : ℕ) (ys : List PlacedItem) → reading t to (spelled is) ≡ Ok ys → ys ≡ placed_from to is)
    → reading s at (spell i ++ spelled is) ≡ Ok xs
    → (r : Result Item Flaw) → judged s (kind_in i) (body_of i) ≡ r → xs ≡ placed_from at (i ∷ is)
reads_one i is s at xs f l others e (Err g) j =
    let no = sym (reading_flaw s at i (spelled is) g l (sym (ap (onward s) j))) ∙ e in
    never (cc)
reads_one i is s at xs f l others e (Ok k) j =
    let p = reading_past s (stage_after s k) at i (spelled is) l (sym (ap (onward s) j)) in
    let same : p.0 ≡ i = sym (passed s (kind_in i) (body_of i) p.0 p.1).says ∙ item_back i f in
    let q = ahead_ok (record { at = at; item = p.0 }) _ xs (sym p.2 ∙ e) in
    q.2 ∙ ap₂ (λ (x : Item) (ys : List PlacedItem). record { at = at; item = x } ∷ ys) same (others (stage_after s k) (at + length (spell i)) q.0 q.1)

-- what is read of spelled items are those items, each at its place
reads_items : (items : List Item) (s : Stage) (at : ℕ) (xs : List PlacedItem) → AllByRecursion Fitting items → length (spelled items) ≤ most_bytes
    → reading s at (spelled items) ≡ Ok xs → xs ≡ placed_from at items
reads_items [] s at xs f l e = end_empty s at xs e
reads_items (i ∷ is) s at xs f l e =
    let n = length-append (spell i) (spelled is) in
    reads_one i is s at xs f.0 (omega arith) (λ t to ys g. reads_items is t to ys f.1 (omega arith) g) e (judged s (kind_in i) (body_of i)) refl

room_ok : (b : Bool) (r : Refusal) (bs cs : List ℕ) → ◌≡◌ {A = Result (List ℕ) Refusal} (cond b (Err r) (Ok bs)) (Ok cs) → bs ≡ cs
room_ok true r bs cs e = never (cc)
room_ok false r bs cs e = cc

as_read_ok : (room : ℕ) (bs cs : List ℕ) (r : Reading) → as_read room bs r ≡ Ok cs → (xs : List PlacedItem) × (r ≡ Ok xs) × (bs ≡ cs)
as_read_ok room bs cs (Err f) e = never (cc)
as_read_ok room bs cs (Ok xs) e = (xs, refl, room_ok (ltb room most_bytes) _ bs cs e)

size_read : (b : Bool) (n : ℕ) (r : Reading) (xs : List PlacedItem) → ltb most_bytes n ≡ b → cond b (Err Oversize) r ≡ Ok xs → (n ≤ most_bytes) × (r ≡ Ok xs)
size_read true n r xs h e = never (cc)
size_read false n r xs h e = (false-ltb most_bytes n (sym h), e)

read_small : (bs : List ℕ) (xs : List PlacedItem) → read_of bs ≡ Ok xs → (length bs ≤ most_bytes) × (reading stage.Settings 0 bs ≡ Ok xs)
read_small bs xs e = size_read (ltb most_bytes (length bs)) (length bs) (reading stage.Settings 0 bs) xs refl e

pub written_is_read : WrittenIsRead
written_is_read room items f bs e =
    let a = as_read_ok room (spelled items) bs (read_of (spelled items)) e in
    let r = read_small (spelled items) a.0 a.1 in
    ap read_of (sym a.2) ∙ a.1 ∙ ap (λ (xs : List PlacedItem). Ok xs) (reads_items items stage.Settings 0 a.0 f r.0 r.1)

-- what is read has one spelling

measured_item : (n : ℕ) (x : Result Item Flaw) (m : Measured) → measured n x ≡ Ok m → (x ≡ Ok m.item) × (n ≡ m.size)
measured_item n (Ok i) m e = (cc, cc)
measured_item n (Err f) m e = never (cc)

kind_numbered : (n : ℕ) (k : Kind) → kind_of n ≡ Some k → n ≡ number k
kind_numbered n Settings e = grind arith
kind_numbered n Start e = grind arith
kind_numbered n Tick e = grind arith
kind_numbered n Enter e = grind arith
kind_numbered n Leave e = grind arith
kind_numbered n Crash e = grind arith
kind_numbered n Read e = grind arith
kind_numbered n Write e = grind arith
kind_numbered n Deliver e = grind arith

of_kind_ok : (s : Stage) (bs : List ℕ) (o : Option Kind) (i : Item) → of_kind s bs o ≡ Ok i → (k : Kind) × (o ≡ Some k) × (judged s k bs ≡ Ok i)
of_kind_ok s bs None i e = never (cc)
of_kind_ok s bs (Some k) i e = (k, refl, e)

-- a frame's bytes are those of its kind and body
frame_bytes : (bs : List ℕ) (p : Parts) → Bytes bs → frame_of bs ≡ Ok p → bs ≡ framed p.kind p.body ++ drop (frame_size p.body) bs
frame_bytes bs p a e =
    let o = framed_at bs p e in
    let w = frame_within bs p e in
    let d = length-drop 2 bs in
    let n : two bs 0 ≡ 2 + length p.body = omega arith in
    let body : drop 4 bs ≡ p.body ++ drop (frame_size p.body) bs =
    sym (take-append-drop (two bs 0 - 2) (drop 4 bs))
    ∙ ap₂ (λ (x y : List ℕ). x ++ y) (sym o.body_is)
    (drop-drop (two bs 0 - 2) 4 bs ∙ ap (λ (k : ℕ). drop k bs) (omega (arith, o.low))) in
    two_front bs a (omega (arith, o.fits))
    ∙ ap₂ (λ (x : ℕ) (y : List ℕ). le2 x ++ y) n
    (two_front (drop 2 bs) (All-drop _ 2 bs a) (omega (arith, o.low, o.fits))
    ∙ ap₂ (λ (x : ℕ) (y : List ℕ). le2 x ++ y) (two_drop 2 bs ∙ sym o.kind_is) (drop-drop 2 2 bs ∙ body))

-- the bytes of a record that is read are the item's, and then what follows
frame_spelled : (s : Stage) (bs : List ℕ) (p : Parts) (i : Item) → Bytes bs → frame_of bs ≡ Ok p → decided s p.kind p.body ≡ Ok i
    → bs ≡ spell i ++ drop (frame_size p.body) bs
frame_spelled s bs p i a f d =
    let o = framed_at bs p f in
    let k = of_kind_ok s p.body (kind_of p.kind) i d in
    let b : Bytes p.body = subst Bytes (sym o.body_is) (All-take _ _ _ (All-drop _ 4 bs a)) in
    let h = body_spelled s k.0 p.body i b k.2 in
    frame_bytes bs p a f
    ∙ ap₂ (λ (n : ℕ) (x : List ℕ). framed n x ++ drop (frame_size p.body) bs)
    (kind_numbered p.kind k.0 k.1 ∙ ap number h.0) h.1

record_spelled : (s : Stage) (bs : List ℕ) (f : Result Parts Flaw) (m : Measured) → Bytes bs → frame_of bs ≡ f → in_frame s f ≡ Ok m
    → bs ≡ spell m.item ++ drop m.size bs
record_spelled s bs (Err e) m a h g = never (cc)
record_spelled s bs (Ok p) m a h g =
    let x = measured_item (frame_size p.body) (decided s p.kind p.body) m g in
    frame_spelled s bs p m.item a h x.0 ∙ ap (λ (n : ℕ). spell m.item ++ drop n bs) x.1

record_gives : (s : Stage) (at : ℕ) (bs : List ℕ) (r : Result Measured Flaw) (x : PlacedItem) (t : Stage) (k : ℕ) → Bytes bs
    → record_of s bs ≡ r → turn_record s at r ≡ gives x t k → bs ≡ spell x.item ++ drop k bs
record_gives s at bs (Err e) x t k a h g = never (cc)
record_gives s at bs (Ok m) x t k a h g =
    let i : m.item ≡ x.item = cc in
    let n : m.size ≡ k = cc in
    record_spelled s bs (frame_of bs) m a refl h ∙ ap₂ (λ (y : Item) (z : ℕ). spell y ++ drop z bs) i n

turn_by : (b : Bool) (s : Stage) (at : ℕ) (bs : List ℕ) (x : PlacedItem) (t : Stage) (k : ℕ) → Bytes bs
    → cond b (turn_end s at) (turn_record s at (record_of s bs)) ≡ gives x t k → bs ≡ spell x.item ++ drop k bs
turn_by true s at bs x t k a e = never (end_gives_none s at x t k e)
turn_by false s at bs x t k a e = record_gives s at bs (record_of s bs) x t k a refl e

record_ends : (s : Stage) (at : ℕ) (r : Result Measured Flaw) → turn_record s at r ≡ ends → ◌≡◌ {A = ℕ} 0 1
record_ends s at (Ok m) e = cc
record_ends s at (Err f) e = cc

ends_by : (b : Bool) (s : Stage) (at : ℕ) (bs : List ℕ) → eqb (length bs) 0 ≡ b
    → cond b (turn_end s at) (turn_record s at (record_of s bs)) ≡ ends → length bs ≡ 0
ends_by true s at bs h e = true-eqb (length bs) 0 (sym h)
ends_by false s at bs h e = never (record_ends s at (record_of s bs) e)

-- what follows an item that is read, by what follows in the bytes
follow_spelled : (more : Stage → ℕ → List ℕ → Reading) (at : ℕ) (bs : List ℕ) (xs : List PlacedItem) (t : Turn)
    → (t ≡ ends → length bs ≡ 0)
    → ((x : PlacedItem) (u : Stage) (k : ℕ) → t ≡ gives x u k → bs ≡ spell x.item ++ drop k bs)
    → ((x : PlacedItem) (u : Stage) (k : ℕ) (ys : List PlacedItem) → t ≡ gives x u k → more u (at + k) (drop k bs) ≡ Ok ys → drop k bs ≡ spelled (items_of ys))
    → follow more at bs t ≡ Ok xs → bs ≡ spelled (items_of xs)
follow_spelled more at bs xs ends z g h e =
    let n = z refl in
    let none : xs ≡ [] = cc in
    drop_all 0 bs (omega arith) ∙ ap (λ (ys : List PlacedItem). spelled (items_of ys)) (sym none)
follow_spelled more at bs xs (fails f) z g h e = never (cc)
follow_spelled more at bs xs (gives x u k) z g h e =
    let q = ahead_ok x (more u (at + k) (drop k bs)) xs e in
    g x u k refl ∙ ap (λ (r : List ℕ). spell x.item ++ r) (h x u k q.0 refl q.1) ∙ ap (λ (ys : List PlacedItem). spelled (items_of ys)) (sym q.2)

-- a reading that comes to its end has gone through the bytes of its items
scan_spelled : (n : ℕ) (s : Stage) (at : ℕ) (bs : List ℕ) (xs : List PlacedItem) → Bytes bs → length bs < n → scan n s at bs ≡ Ok xs → bs ≡ spelled (items_of xs)
scan_spelled zero s at bs xs a h e = absurd (omega arith)
scan_spelled (suc n) s at bs xs a h e =
    follow_spelled (scan n) at bs xs (turn s at bs)
    (λ t. ends_by (eqb (length bs) 0) s at bs refl t)
    (λ x u k t. turn_by (eqb (length bs) 0) s at bs x u k a t)
    (λ x u k ys t g.
    let z = turn_size s at bs x u k t in
    let l = length-drop k bs in
    scan_spelled n u (at + k) (drop k bs) ys (All-drop _ k bs a) (omega (arith, z.0, z.1)) g)
    e

pub read_is_written : ReadIsWritten
read_is_written bs a xs e =
    let r = read_small bs xs e in
    let same : spelled (items_of xs) ≡ bs = sym (scan_spelled (suc (length bs)) stage.Settings 0 bs xs a (omega arith) r.1) in
    ap (λ (cs : List ℕ). as_read most_bytes cs (read_of cs)) same ∙ ap (as_read most_bytes bs) e
