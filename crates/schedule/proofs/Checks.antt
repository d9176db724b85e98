-- A writer's check goes through its records as a reader would go through their bytes.
use Rattle.std.proofs.Common.{◌≡◌, ℕ, ◌+◌, ◌<◌, ◌≤◌, Bool, true, false, cond, ltb, List, [], length, Ok, Err, sym, refl, ap, ◌∙◌, arith}
use borrow.Author.Tests.{false-ltb}
use Rattle.refusals.specs.declared.Refusal.{Refusal}
use Rattle.settings.specs.declared.fault.SettingsFault.TheVariants.{MemorySize}
use Rattle.settings.specs.Faults.{told as settings_told}
use Rattle.schedule.specs.declared.Record.{Record}
use Rattle.schedule.specs.declared.fault.Flaw.{Flaw}
use Rattle.schedule.specs.declared.fault.FileFault.TheVariants.{Oversize, At}
use Rattle.schedule.specs.declared.stage.Stage.{Stage}
use Rattle.schedule.specs.declared.stage.Stage.TheVariants as stage
use Rattle.schedule.specs.Faults.{told}
use Rattle.schedule.specs.Items.{shown}
use Rattle.schedule.specs.Kinds.{spell}
use Rattle.schedule.specs.Reading.{Reading, most_bytes, reading}
use Rattle.schedule.specs.Readers.{checked_length, length_if}
use Rattle.schedule.specs.Writing.{stage_past_item, into_room, as_read, buffer_after, how_long}
use Rattle.schedule.proofs.Remaining.{all_bytes, bytes_from, record_at, bytes_next, length_next, bytes_end, length_end}
use Rattle.schedule.proofs.Spelled.{reading_flaw, reading_past, length_if_ahead}
use Rattle.schedule.proofs.Readings.{never}

-- the records up to an index were gone through, and a reader would be at this stage and place
pub record ComeTo (rs : List Record) (i : ℕ) (s : Stage) (at : ℕ) : Type 0 where
  pub place : at + length (bytes_from i rs) ≡ length (all_bytes rs)
  pub left : checked_length (all_bytes rs) ≡ length_if (length (all_bytes rs)) (reading s at (bytes_from i rs))

pub come_to_start : (rs : List Record) → length (all_bytes rs) ≤ most_bytes → ComeTo rs 0 stage.Settings 0
come_to_start rs h =
    let e : ltb most_bytes (length (all_bytes rs)) ≡ false = grind arith in
    record {
      place = omega arith;
      left = ap (λ b. length_if (length (all_bytes rs)) (cond b (Err Oversize) (reading stage.Settings 0 (all_bytes rs)))) e;
    }

pub oversize : (rs : List Record) → most_bytes < length (all_bytes rs) → Err (told Oversize) ≡ checked_length (all_bytes rs)
oversize rs h =
    let e : ltb most_bytes (length (all_bytes rs)) ≡ true = grind arith in
    sym (ap (λ b. length_if (length (all_bytes rs)) (cond b (Err Oversize) (reading stage.Settings 0 (all_bytes rs)))) e)

module _ (rs : List Record) (i : ℕ) (s : Stage) (at : ℕ) (small : length (all_bytes rs) ≤ most_bytes) (here : ComeTo rs i s at) where
  pub size_small : i < length rs → at + length (spell (shown (record_at rs i))) ≤ most_bytes
  size_small h = omega (arith, length_next rs i h, here.place)

  pub come_to_flaw : (f : Flaw) → i < length rs → Err f ≡ stage_past_item s (shown (record_at rs i))
      → Err (told (At f at)) ≡ checked_length (all_bytes rs)
  come_to_flaw f h e =
      sym (here.left ∙ ap (λ bs. length_if (length (all_bytes rs)) (reading s at bs)) (bytes_next rs i h)
      ∙ ap (length_if (length (all_bytes rs))) (reading_flaw s at (shown (record_at rs i)) (bytes_from (i + 1) rs) f (omega (arith, size_small h)) e))

  pub come_past : (t : Stage) → i < length rs → Ok t ≡ stage_past_item s (shown (record_at rs i))
      → ComeTo rs (i + 1) t (at + length (spell (shown (record_at rs i))))
  come_past t h e =
      let g = reading_past s t at (shown (record_at rs i)) (bytes_from (i + 1) rs) (omega (arith, size_small h)) e in
      record {
        place = omega (arith, length_next rs i h, here.place);
        left =
            here.left ∙ ap (λ bs. length_if (length (all_bytes rs)) (reading s at bs)) (bytes_next rs i h)
            ∙ ap (length_if (length (all_bytes rs))) g.2 ∙ length_if_ahead (length (all_bytes rs)) _ _;
      }

  pub come_to_end : length rs ≤ i → checked_length (all_bytes rs) ≡ length_if at (reading s at [])
  come_to_end h =
      let l : length (all_bytes rs) ≡ at = omega (arith, length_end rs i h, here.place) in
      here.left ∙ ap (λ bs. length_if (length (all_bytes rs)) (reading s at bs)) (bytes_end rs i h)
      ∙ ap (λ m. length_if m (reading s at [])) l

-- what a writer answers and leaves, by what a reader would say of the bytes

pub write_refused : (room n : ℕ) (bs buffer : List ℕ) (x : Reading) (e : Refusal) → Err e ≡ length_if n x
    → (Err e ≡ how_long (as_read room bs x)) × (buffer ≡ buffer_after (as_read room bs x) buffer)
write_refused room n bs buffer (Ok xs) e h = never (cc)
write_refused room n bs buffer (Err f) e h = (h, refl)

pub write_accepted : (room n m : ℕ) (bs : List ℕ) (x : Reading) → Ok m ≡ length_if n x → (as_read room bs x ≡ into_room room bs) × (m ≡ n)
write_accepted room n m bs (Ok xs) h = (refl, cc)
write_accepted room n m bs (Err f) h = never (cc)

pub length_read : (bs : List ℕ) (m : ℕ) → Ok m ≡ checked_length bs → length bs ≤ most_bytes
length_read bs m e = by_size (ltb most_bytes (length bs)) refl e
  where
    by_size : (b : Bool) → ltb most_bytes (length bs) ≡ b → Ok m ≡ length_if (length bs) (cond b (Err Oversize) (reading stage.Settings 0 bs)) → length bs ≤ most_bytes
    by_size true h e = never (cc)
    by_size false h e = false-ltb most_bytes (length bs) (sym h)

pub room_short : (room : ℕ) (bs : List ℕ) → room < most_bytes → into_room room bs ≡ Err (settings_told MemorySize)
room_short room bs h = let e : ltb room most_bytes ≡ true = grind arith in ap (λ b. cond b (Err (settings_told MemorySize)) (Ok bs)) e

pub room_enough : (room : ℕ) (bs : List ℕ) → most_bytes ≤ room → into_room room bs ≡ Ok bs
room_enough room bs h = let e : ltb room most_bytes ≡ false = grind arith in ap (λ b. cond b (Err (settings_told MemorySize)) (Ok bs)) e
