-- The number and the name of a class of records.
use Rattle.std.specs.Prelude.{ℕ, cond, List, Some, None, ok_or, Option, Result, codes, ◌==◌}
use Rattle.records.specs.declared.class.Class.{Class}
use Rattle.records.specs.declared.class.Class.TheVariants.{Response, Gas}
use Rattle.records.specs.declared.class.UnknownClass.{UnknownClass}

-- classes go by 1 and 2
abbrev pub class_of : ℕ → Option Class
class_of n = cond (n == 1) (Some Response) (cond (n == 2) (Some Gas) None)

abbrev pub class_number : Class → ℕ
class_number Response = 1
class_number Gas = 2

-- the class of a number, or the number where no class has it
abbrev pub class_named : ℕ → Result Class UnknownClass
class_named n = ok_or (class_of n) (record { 0 = n })

-- the name of a class
abbrev pub class_name : Class → List ℕ
class_name Response = codes "response"
class_name Gas = codes "gas"
