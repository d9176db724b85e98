-- How bytes compare with a class of records.
use Rattle.std.specs.Prelude.{ℕ, cond, List, length, Ok, Err, Result, ◌==◌, nat_lt}
use Rattle.fields.specs.Numbers.{two}
use Rattle.records.specs.declared.class.Class.{Class}
use Rattle.records.specs.declared.class.Class.TheVariants.{Response, Gas}
use Rattle.records.specs.declared.class.Misfit.{Misfit}
use Rattle.records.specs.declared.class.Misfit.TheVariants.{WrongLength, UnknownForm}

-- bytes that are to have one length
abbrev pub of_length : ℕ → List ℕ → Result Unit Misfit
of_length n bs = cond (length bs == n) (Ok tt) (Err WrongLength)

-- the length of a gas record by its form: no cell, a zero, a zero and a span
abbrev pub gas_length : ℕ → ℕ
gas_length form = cond (form == 0) 2 (cond (form == 1) 6 10)

-- a response has 8 bytes; a gas record starts with its form, at most 2, and has the form's length
abbrev pub shape_of : Class → List ℕ → Result Unit Misfit
shape_of Response bs = of_length 8 bs
shape_of Gas bs = cond (nat_lt (length bs) 2) (Err WrongLength) (cond (nat_lt 2 (two bs 0)) (Err UnknownForm) (of_length (gas_length (two bs 0)) bs))
