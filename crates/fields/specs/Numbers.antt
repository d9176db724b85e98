-- Little-endian numbers of two and four bytes: what bytes say, and how a number is spelled.
use Rattle.std.specs.Prelude.{ℕ, ◌+◌, ◌*◌, ◌/◌, ◌%◌, List, [], ◌∷◌, ℤ, slice_index}
use Rattle.std.specs.Int.{w32}
use Rattle.std.proofs.Common.{to_z, of_z}

-- the number of two bytes from an index on, the low byte first
abbrev pub two : List ℕ → ℕ → ℕ
two bs i = slice_index bs i + slice_index bs (i + 1) * 256

-- the number of four bytes from an index on, the low byte first
abbrev pub four : List ℕ → ℕ → ℕ
four bs i = slice_index bs i + slice_index bs (i + 1) * 256 + slice_index bs (i + 2) * 65536 + slice_index bs (i + 3) * 16777216

-- the signed number of four bytes, in two's complement
abbrev pub signed_four : List ℕ → ℕ → ℤ
signed_four bs i = to_z w32 (four bs i)

-- the two bytes of a number below 2 ^ 16
abbrev pub le2 : ℕ → List ℕ
le2 x = (x % 256) ∷ (x / 256 % 256) ∷ []

-- the four bytes of a number below 2 ^ 32
abbrev pub le4 : ℕ → List ℕ
le4 x = (x % 256) ∷ (x / 256 % 256) ∷ (x / 65536 % 256) ∷ (x / 16777216 % 256) ∷ []

-- the four bytes of a signed number of 32 bits
abbrev pub signed_le4 : ℤ → List ℕ
signed_le4 z = le4 (of_z w32 z)
