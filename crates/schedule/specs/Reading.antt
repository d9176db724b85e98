-- A whole schedule file, record by record: the items with their places, or the first fault.
use Rattle.std.specs.Prelude.{ℕ, zero, suc, ◌+◌, cond, List, [], ◌∷◌, length, drop, Ok, Err, Result, ◌==◌, nat_lt}
use Rattle.schedule.specs.declared.fault.Flaw.{Flaw}
use Rattle.schedule.specs.declared.fault.Flaw.TheVariants as flaw
use Rattle.schedule.specs.declared.fault.FileFault.{FileFault}
use Rattle.schedule.specs.declared.fault.FileFault.TheVariants.{Oversize, At}
use Rattle.schedule.specs.declared.stage.Stage.{Stage}
use Rattle.schedule.specs.declared.stage.Stage.TheVariants as stage
use Rattle.schedule.specs.Items.{Item, PlacedItem}
use Rattle.schedule.specs.Framing.{Parts, frame_of, frame_size}
use Rattle.schedule.specs.Rules.{decided, stage_after}

-- an item, and how many bytes its schedule record takes
pub record Measured : Type 0 where
  pub item : Item
  pub size : ℕ

abbrev pub measured : ℕ → Result Item Flaw → Result Measured Flaw
measured n (Err e) = Err e
measured n (Ok i) = Ok (record { item = i; size = n })

abbrev pub in_frame : Stage → Result Parts Flaw → Result Measured Flaw
in_frame s (Err e) = Err e
in_frame s (Ok p) = measured (frame_size p.body) (decided s p.kind p.body)

-- the schedule record at the front of bytes, or its smallest flaw
abbrev pub record_of : Stage → List ℕ → Result Measured Flaw
record_of s bs = in_frame s (frame_of bs)

-- what a reader meets next: the end, a fault, or an item with the stage after it and the bytes that it takes
pub data Turn : Type 0 where
  ends : Turn
  fails : FileFault → Turn
  gives : PlacedItem → Stage → ℕ → Turn

-- a file may end once it has a start
abbrev pub turn_end : Stage → ℕ → Turn
turn_end stage.Settings at = fails (At flaw.Order at)
turn_end stage.Start at = fails (At flaw.Order at)
turn_end (stage.Steps c) at = ends

abbrev pub turn_record : Stage → ℕ → Result Measured Flaw → Turn
turn_record s at (Err e) = fails (At e at)
turn_record s at (Ok m) = gives (record { at = at; item = m.item }) (stage_after s m.item) m.size

-- what is met at a place, by the bytes from there on
abbrev pub turn : Stage → ℕ → List ℕ → Turn
turn s at bs = cond (length bs == 0) (turn_end s at) (turn_record s at (record_of s bs))

-- items or a fault
abbrev pub Reading : Type 0
Reading = Result (List PlacedItem) FileFault

-- an item ahead of what is read after it
abbrev pub ahead : PlacedItem → Reading → Reading
ahead x (Ok xs) = Ok (x ∷ xs)
ahead x (Err e) = Err e

abbrev pub follow : (Stage → ℕ → List ℕ → Reading) → ℕ → List ℕ → Turn → Reading
follow more at bs ends = Ok []
follow more at bs (fails e) = Err e
follow more at bs (gives x s size) = ahead x (more s (at + size) (drop size bs))

-- what is read in at most n turns
abbrev pub scan : ℕ → Stage → ℕ → List ℕ → Reading
scan zero s at bs = Ok []
scan (suc n) s at bs = follow (scan n) at bs (turn s at bs)

-- what is read from a place on: each turn but the last takes a byte at least
abbrev pub reading : Stage → ℕ → List ℕ → Reading
reading s at bs = scan (suc (length bs)) s at bs

-- the most bytes that a file may have
abbrev pub most_bytes : ℕ
most_bytes = 65536

-- a whole file
abbrev pub read_of : List ℕ → Reading
read_of bs = cond (nat_lt most_bytes (length bs)) (Err Oversize) (reading stage.Settings 0 bs)
