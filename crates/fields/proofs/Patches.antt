-- Bytes that are written into a buffer: their length, what lies before and after them, and one write after another.
use Rattle.std.proofs.Common.{◌≡◌, ℕ, ◌+◌, ◌-◌, ◌≤◌, List, ◌++◌, length, take, drop, sym, ap, ◌∙◌, ap₂, append_assoc, add_assoc, arith, length-append, length-drop, length-take}
use borrow.Rule.Slice.PartMut.{put_mid}
use Rattle.std.proofs.lemmas.List.{drop-drop, take_at, drop_at, length-take-le}
use Rattle.fields.specs.Patches.{patched}

-- a part of a buffer that now holds the bytes
pub put_middle : (at : ℕ) (buffer part bytes : List ℕ) → part ≡ bytes → put_mid at ((at + length bytes) - at) buffer part ≡ patched at bytes buffer
put_middle at buffer part bytes e =
    let k : (at + length bytes) - at ≡ length bytes = omega arith in
    ap₂ (λ (j : ℕ) (ys : List ℕ). put_mid at j buffer ys) k e
    ∙ ap (λ (zs : List ℕ). take at buffer ++ (bytes ++ zs)) (drop-drop (length bytes) at buffer)

-- a write keeps the buffer's length
pub length_patched : (at : ℕ) (bytes buffer : List ℕ) → at + length bytes ≤ length buffer → length (patched at bytes buffer) ≡ length buffer
length_patched at bytes buffer h = simp (length-append, length-take, length-drop) (omega arith)

-- the buffer up to the end of a write
pub take_patched : (at : ℕ) (bytes buffer : List ℕ) → at ≤ length buffer → take (at + length bytes) (patched at bytes buffer) ≡ take at buffer ++ bytes
take_patched at bytes buffer h =
    ap (take (at + length bytes)) (sym (append_assoc (take at buffer) bytes _))
    ∙ take_at (take at buffer ++ bytes) _ _ (length-append (take at buffer) bytes ∙ ap (λ (n : ℕ). n + length bytes) (length-take-le at buffer h))

-- what follows a write is untouched
pub drop_patched : (at : ℕ) (bytes buffer : List ℕ) → at ≤ length buffer → drop (at + length bytes) (patched at bytes buffer) ≡ drop (at + length bytes) buffer
drop_patched at bytes buffer h =
    ap (drop (at + length bytes)) (sym (append_assoc (take at buffer) bytes _))
    ∙ drop_at (take at buffer ++ bytes) _ _ (length-append (take at buffer) bytes ∙ ap (λ (n : ℕ). n + length bytes) (length-take-le at buffer h))

-- two writes, one after the other, are one write
pub patched_append : (at : ℕ) (a b buffer : List ℕ) → at + length a + length b ≤ length buffer
    → patched at (a ++ b) buffer ≡ patched (at + length a) b (patched at a buffer)
patched_append at a b buffer h =
    let low : at ≤ length buffer = omega arith in
    let n : at + length (a ++ b) ≡ at + length a + length b = simp length-append (sym (add_assoc at (length a) (length b))) in
    let tail : drop (at + length a + length b) (patched at a buffer) ≡ drop (at + length a + length b) buffer =
    sym (drop-drop (length b) (at + length a) (patched at a buffer)) ∙ ap (drop (length b)) (drop_patched at a buffer low)
    ∙ drop-drop (length b) (at + length a) buffer in
    ap (λ (j : ℕ). take at buffer ++ ((a ++ b) ++ drop j buffer)) n
    ∙ ap (λ (xs : List ℕ). take at buffer ++ xs) (append_assoc a b _)
    ∙ sym (append_assoc (take at buffer) a _)
    ∙ ap₂ (λ (xs ys : List ℕ). xs ++ (b ++ ys)) (sym (take_patched at a buffer low)) (sym tail)
