-- What holds of a type of records: of the record that bytes say, of a record's bytes, and of its class.
use Rattle.std.specs.Prelude.{◌≡◌, ℕ, ◌<◌, true, ◌↔◌, List, is_some, Some, Ok, Option}
use Rattle.std.specs.List.{AllByRecursion}
use Rattle.records.specs.declared.class.Class.{Class}
use Rattle.records.specs.Shapes.{shape_of}

module _ {R : Type 0} (said : List ℕ → Option R) where
  -- the bytes of a record whose numbers fit are read as that record
  abbrev pub ReadsBack : (R → Type 0) → (R → List ℕ) → Type 0
  ReadsBack held bytes = (r : R) → held r → said (bytes r) ≡ Some r

  -- bytes that are read as a record are its bytes
  abbrev pub OneSpelling : (R → List ℕ) → Type 0
  OneSpelling bytes = (bs : List ℕ) (r : R) → AllByRecursion (λ b. b < 256) bs → said bs ≡ Some r → bs ≡ bytes r

  -- bytes are read as a record exactly where they fit the class
  abbrev pub ReadWhereItFits : Class → Type 0
  ReadWhereItFits class = (bs : List ℕ) → (is_some (said bs) ≡ true) ↔ (shape_of class bs ≡ Ok tt)
