-- Bytes written into a buffer from an offset on.
use Rattle.std.specs.Prelude.{ℕ, ◌+◌, Bool, cond, List, ◌++◌, length, take, drop, Some, None, Option, nat_le}

-- whether so many bytes fit from an offset on
abbrev pub fits : ℕ → ℕ → List ℕ → Bool
fits at n buffer = nat_le (at + n) (length buffer)

-- the buffer with bytes in place of its own from an offset on
abbrev pub patched : ℕ → List ℕ → List ℕ → List ℕ
patched at bytes buffer = take at buffer ++ (bytes ++ drop (at + length bytes) buffer)

-- the buffer after a write: as it was where the bytes do not fit
abbrev pub after_put : ℕ → List ℕ → List ℕ → List ℕ
after_put at bytes buffer = cond (fits at (length bytes) buffer) (patched at bytes buffer) buffer

-- the offset after what was written, or none where it does not fit
abbrev pub put_end : ℕ → List ℕ → List ℕ → Option ℕ
put_end at bytes buffer = cond (fits at (length bytes) buffer) (Some (at + length bytes)) None
