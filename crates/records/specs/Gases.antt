-- The bytes and the text of a gas record.
use Rattle.std.specs.Prelude.{ℕ, ◌^◌, ◌<◌, Bool, false, cond, List, ◌++◌, length, Some, None, codes, decimal, Option, FitsSigned, ◌==◌}
use Rattle.std.specs.Int.{w32}
use Rattle.std.specs.Fmt.{signed_decimal}
use Rattle.fields.specs.Numbers.{two, four, signed_four, le2, le4, signed_le4}
use Rattle.records.specs.declared.gas.Gas.{Gas}
use Rattle.records.specs.declared.gas.Gas.TheVariants.{NoCell, Zero, ZeroSpan}

-- bytes of a length that start with a form
abbrev pub has_form : ℕ → ℕ → List ℕ → Bool
has_form form n bs = cond (length bs == n) (two bs 0 == form) false

-- the gas record that bytes say: the form, then nothing, a zero, or a zero and a span
abbrev pub gas_of : List ℕ → Option Gas
gas_of bs =
    cond (has_form 0 2 bs) (Some NoCell)
    (cond (has_form 1 6 bs) (Some (Zero (signed_four bs 2)))
    (cond (has_form 2 10 bs) (Some (ZeroSpan (signed_four bs 2) (four bs 6))) None))

-- the bytes of a gas record
abbrev pub gas_bytes : Gas → List ℕ
gas_bytes NoCell = le2 0
gas_bytes (Zero z) = le2 1 ++ signed_le4 z
gas_bytes (ZeroSpan z s) = le2 2 ++ (signed_le4 z ++ le4 s)

-- the text of a gas record: `-`, the zero, or the zero and the span, as `-3/9`
abbrev pub gas_text : Gas → List ℕ
gas_text NoCell = codes "-"
gas_text (Zero z) = signed_decimal z
gas_text (ZeroSpan z s) = signed_decimal z ++ (codes "/" ++ decimal s)

-- the numbers of a gas record fit their 32 bits
abbrev pub Held : Gas → Type 0
Held NoCell = Unit {0}
Held (Zero z) = FitsSigned w32 z
Held (ZeroSpan z s) = FitsSigned w32 z × (s < 2 ^ 32)
