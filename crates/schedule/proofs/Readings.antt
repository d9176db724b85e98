-- What one turn does to what is still to be read.
use Rattle.std.proofs.Common.{◌≡◌, ℕ, zero, suc, ◌+◌, ◌<◌, ◌≤◌, Bool, true, false, cond, eqb, List, [], length, drop, Some, None, Ok, Err, Option, Result, sym, refl, ap, ◌∙◌, ap₂, arith, length-drop}
use Rattle.std.proofs.lemmas.List.{drop-drop}
use Rattle.refusals.specs.declared.Refusal.{Refusal}
use Rattle.schedule.specs.declared.fault.Flaw.{Flaw}
use Rattle.schedule.specs.declared.fault.FileFault.{FileFault}
use Rattle.schedule.specs.declared.Placed.{Placed}
use Rattle.schedule.specs.declared.reader.Reader.{Reader}
use Rattle.schedule.specs.declared.stage.Stage.{Stage}
use Rattle.schedule.specs.declared.stage.Stage.TheVariants as stage
use Rattle.schedule.specs.Faults.{told}
use Rattle.schedule.specs.Items.{PlacedItem, shown_placed}
use Rattle.schedule.specs.Reading.{Measured, record_of, Turn, ends, fails, gives, turn_end, turn_record, turn, Reading, ahead, follow, scan, reading}
use Rattle.schedule.specs.Readers.{answer, answered, stage_past, place_past, to_come, turn_at, verdict}
use Rattle.schedule.proofs.Turns.{record_size}

pub never : {A : Type 0} → ◌≡◌ {A = ℕ} 0 1 → A
never e = absurd (omega arith)

pub end_gives_none : (s : Stage) (at : ℕ) (x : PlacedItem) (t : Stage) (k : ℕ) → turn_end s at ≡ gives x t k → ◌≡◌ {A = ℕ} 0 1
end_gives_none stage.Settings at x t k e = cc
end_gives_none stage.Start at x t k e = cc
end_gives_none (stage.Steps c) at x t k e = cc

record_gives : (s : Stage) (at : ℕ) (bs : List ℕ) (r : Result Measured Flaw) (x : PlacedItem) (t : Stage) (k : ℕ)
    → record_of s bs ≡ r → turn_record s at r ≡ gives x t k → (4 ≤ k) × (k ≤ length bs)
record_gives s at bs (Err e) x t k h g = never (cc)
record_gives s at bs (Ok m) x t k h g =
    let z = record_size s bs m h in
    let n : m.size ≡ k = cc in
    (omega (arith, z.0), omega (arith, z.1))

either_gives : (b : Bool) (s : Stage) (at : ℕ) (bs : List ℕ) (x : PlacedItem) (t : Stage) (k : ℕ)
    → cond b (turn_end s at) (turn_record s at (record_of s bs)) ≡ gives x t k → (4 ≤ k) × (k ≤ length bs)
either_gives true s at bs x t k e = never (end_gives_none s at x t k e)
either_gives false s at bs x t k e = record_gives s at bs (record_of s bs) x t k refl e

-- an item takes some of the bytes, and no more than there are
pub turn_size : (s : Stage) (at : ℕ) (bs : List ℕ) (x : PlacedItem) (t : Stage) (k : ℕ)
    → turn s at bs ≡ gives x t k → (4 ≤ k) × (k ≤ length bs)
turn_size s at bs x t k e = either_gives (eqb (length bs) 0) s at bs x t k e

follow_same : (more less : Stage → ℕ → List ℕ → Reading) (at : ℕ) (bs : List ℕ) (t : Turn)
    → ((x : PlacedItem) (s : Stage) (k : ℕ) → t ≡ gives x s k → more s (at + k) (drop k bs) ≡ less s (at + k) (drop k bs))
    → follow more at bs t ≡ follow less at bs t
follow_same more less at bs ends h = refl
follow_same more less at bs (fails e) h = refl
follow_same more less at bs (gives x s k) h = ap (ahead x) (h x s k refl)

-- turns enough are as good as any more
scan_enough : (n m : ℕ) (s : Stage) (at : ℕ) (bs : List ℕ) → length bs < n → length bs < m → scan n s at bs ≡ scan m s at bs
scan_enough zero m s at bs h g = absurd (omega arith)
scan_enough (suc n) zero s at bs h g = absurd (omega arith)
scan_enough (suc n) (suc m) s at bs h g =
    follow_same (scan n) (scan m) at bs (turn s at bs)
    (λ x t k e.
    let z = turn_size s at bs x t k e in
    let l = length-drop k bs in
    scan_enough n m t (at + k) (drop k bs) (omega (arith, z.0, z.1)) (omega (arith, z.0, z.1)))

pub reading_gives : (s : Stage) (at : ℕ) (bs : List ℕ) (x : PlacedItem) (t : Stage) (k : ℕ)
    → turn s at bs ≡ gives x t k → reading s at bs ≡ ahead x (reading t (at + k) (drop k bs))
reading_gives s at bs x t k e =
    let z = turn_size s at bs x t k e in
    let l = length-drop k bs in
    ap (follow (scan (length bs)) at bs) e
    ∙ ap (ahead x) (scan_enough (length bs) (suc (length (drop k bs))) t (at + k) (drop k bs) (omega (arith, z.0, z.1)) (omega arith))

pub reading_ends : (s : Stage) (at : ℕ) (bs : List ℕ) → turn s at bs ≡ ends → reading s at bs ≡ Ok []
reading_ends s at bs e = ap (follow (scan (length bs)) at bs) e

pub reading_fails : (s : Stage) (at : ℕ) (bs : List ℕ) (f : FileFault) → turn s at bs ≡ fails f → reading s at bs ≡ Err f
reading_fails s at bs f e = ap (follow (scan (length bs)) at bs) e

-- an answer says which turn it was

answer_item : (t : Turn) (x : PlacedItem) → Ok (Some x) ≡ answer t → (s : Stage) × (k : ℕ) × (t ≡ gives x s k)
answer_item ends x e = never (cc)
answer_item (fails f) x e = never (cc)
answer_item (gives y s k) x e = (s, k, let h : y ≡ x = cc in ap (λ (z : PlacedItem). gives z s k) h)

answer_end : (t : Turn) → Ok None ≡ answer t → t ≡ ends
answer_end ends e = refl
answer_end (fails f) e = never (cc)
answer_end (gives y s k) e = never (cc)

answer_fault : (t : Turn) (r : Refusal) → Err r ≡ answer t → (f : FileFault) × (t ≡ fails f) × (told f ≡ r)
answer_fault ends r e = never (cc)
answer_fault (fails f) r e = (f, refl, let h : told f ≡ r = cc in h)
answer_fault (gives y s k) r e = never (cc)

-- a reader before and after a call that gave an item
pub record Moved (file : List ℕ) (old new : Reader) (x : PlacedItem) : Type 0 where
  pub read : to_come old ≡ ahead x (to_come new)
  pub same : new.file.now ≡ file
  pub further : old.at < new.at
  pub within : new.at ≤ length file

pub next_item : (file : List ℕ) (old new : Reader) (o : Option Placed) (p : Placed) → old.file.now ≡ file → new.file.now ≡ old.file.now → o ≡ Some p
    → answered (Ok o) ≡ answer (turn_at old) → new.stage ≡ stage_past old.stage (turn_at old) → new.at ≡ place_past old.at (turn_at old)
    → Moved file old new (shown_placed p)
next_item file old new o p here there is e et eat =
    let x : PlacedItem = shown_placed p in
    let bs : List ℕ = drop old.at old.file.now in
    let g = answer_item (turn_at old) x (sym (ap (λ (q : Option Placed). answered (Ok q)) is) ∙ e) in
    let k : ℕ = g.1 in
    let z = turn_size old.stage old.at bs x g.0 k g.2 in
    let l = length-drop old.at old.file.now in
    let n = ap length here in
    let ts : g.0 ≡ new.stage = sym (et ∙ ap (stage_past old.stage) g.2) in
    let ps : old.at + k ≡ new.at = sym (eat ∙ ap (place_past old.at) g.2) in
    record {
      read =
          reading_gives old.stage old.at bs x g.0 k g.2
          ∙ ap (λ (r : List ℕ). ahead x (reading g.0 (old.at + k) r)) (drop-drop k old.at old.file.now)
          ∙ ap₂ (λ (u : Stage) (at : ℕ). ahead x (reading u at (drop at old.file.now))) ts ps
          ∙ ap (λ (f : List ℕ). ahead x (reading new.stage new.at (drop new.at f))) (sym there);
      same = there ∙ here;
      further = omega (arith, z.0);
      within = omega (arith, z.0, z.1);
    }

pub next_end : (r : Reader) (o : Option Placed) → o ≡ None → answered (Ok o) ≡ answer (turn_at r) → to_come r ≡ Ok []
next_end r o is e =
    reading_ends r.stage r.at (drop r.at r.file.now) (answer_end _ (sym (ap (λ (q : Option Placed). answered (Ok q)) is) ∙ e))

pub next_fault : (r : Reader) (f : FileFault) → answered (Err f) ≡ answer (turn_at r) → verdict (to_come r) ≡ Err (told f)
next_fault r f e =
    let g = answer_fault (turn_at r) (told f) e in
    ap verdict (reading_fails r.stage r.at (drop r.at r.file.now) g.0 g.1) ∙ ap (λ (t : Refusal). Err t) g.2
