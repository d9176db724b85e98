-- Puts, one after the other, and the records that are still to be put.
use Rattle.std.proofs.Common.{◌≡◌, ℕ, ◌+◌, ◌-◌, ◌<◌, ◌≤◌, List, [], ◌++◌, length, take, drop, sym, ap, ◌∙◌, ap₂, add-zero, zero-add, arith, append-nil, length-drop, take-append-drop}
use Rattle.std.proofs.lemmas.List.{take_rest, drop_all, drop-drop}
use borrow.Rule.Slice.PartMut.{put_mid}
use Rattle.fields.specs.Patches.{patched}
use Rattle.fields.proofs.Patches.{patched_append}
use Rattle.schedule.specs.declared.Record.{Record}
use Rattle.schedule.specs.Items.{shown}
use Rattle.schedule.specs.Kinds.{spell}
use Rattle.schedule.specs.Writing.{at_front}
use Rattle.schedule.proofs.Remaining.{all_bytes, bytes_from, record_at, bytes_next, length_next, bytes_end}

-- bytes that were put at the front of what follows a place
pub put_after : (at : ℕ) (bytes buffer part : List ℕ) → at ≤ length buffer
    → part ≡ at_front bytes (take (length buffer - at) (drop at buffer)) → put_mid at (length buffer - at) buffer part ≡ patched at bytes buffer
put_after at bytes buffer part h e =
    let none : drop (length buffer - at) (drop at buffer) ≡ [] = drop_all (length buffer - at) (drop at buffer) (simp length-drop (omega arith)) in
    ap₂ (λ (ys zs : List ℕ). take at buffer ++ (ys ++ zs)) (e ∙ ap (at_front bytes) (take_rest buffer at)) none
    ∙ ap (λ (zs : List ℕ). take at buffer ++ zs) (append-nil (at_front bytes (drop at buffer)) ∙ ap (λ (r : List ℕ). bytes ++ r) (drop-drop (length bytes) at buffer))

pub patched_none : (at : ℕ) (buffer : List ℕ) → patched at [] buffer ≡ buffer
patched_none at buffer = ap (λ (n : ℕ). take at buffer ++ drop n buffer) (add-zero at) ∙ take-append-drop at buffer

-- the records from an index on are still to be put at a place of the buffer
pub record PutTo (rs : List Record) (i at : ℕ) (buffer first : List ℕ) : Type 0 where
  pub place : at + length (bytes_from i rs) ≡ length (all_bytes rs)
  pub left : patched at (bytes_from i rs) buffer ≡ all_bytes rs ++ drop (length (all_bytes rs)) first

pub put_to_start : (rs : List Record) (first : List ℕ) → PutTo rs 0 0 first first
put_to_start rs first =
    record {
      place = omega arith;
      left = ap (λ (n : ℕ). all_bytes rs ++ drop n first) (zero-add (length (all_bytes rs)));
    }

module _ (rs : List Record) (i at : ℕ) (buffer first : List ℕ) (room : length (all_bytes rs) ≤ length buffer) (here : PutTo rs i at buffer first) where
  pub put_fits : i < length rs → at + length (spell (shown (record_at rs i))) ≤ length (all_bytes rs)
  put_fits h = omega (arith, length_next rs i h, here.place)

  pub put_past : (to : ℕ) (after : List ℕ) → i < length rs → to ≡ at + length (spell (shown (record_at rs i)))
      → after ≡ patched at (spell (shown (record_at rs i))) buffer → PutTo rs (i + 1) to after first
  put_past to after h t p =
      let x : List ℕ = spell (shown (record_at rs i)) in
      let more : List ℕ = bytes_from (i + 1) rs in
      let l : length (bytes_from i rs) ≡ length x + length more = length_next rs i h in
      record {
        place = omega (arith, here.place);
        left =
            ap₂ (λ (n : ℕ) (b : List ℕ). patched n more b) t p
            ∙ sym (patched_append at x more buffer (omega (arith, here.place)))
            ∙ ap (λ (bs : List ℕ). patched at bs buffer) (sym (bytes_next rs i h))
            ∙ here.left;
      }

  pub put_to_end : length rs ≤ i → buffer ≡ all_bytes rs ++ drop (length (all_bytes rs)) first
  put_to_end h = sym (patched_none at buffer) ∙ ap (λ (bs : List ℕ). patched at bs buffer) (sym (bytes_end rs i h)) ∙ here.left
