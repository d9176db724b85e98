-- What a reader in memory shows, and what one call of it answers and leaves.
use Rattle.std.specs.Prelude.{ℕ, ◌+◌, List, length, drop, Some, None, Ok, Err, Option, Result}
use Rattle.refusals.specs.declared.Refusal.{Refusal}
use Rattle.schedule.specs.declared.Placed.{Placed}
use Rattle.schedule.specs.declared.fault.FileFault.{FileFault}
use Rattle.schedule.specs.declared.fault.Flaw.{Flaw}
use Rattle.schedule.specs.declared.reader.Reader.{Reader}
use Rattle.schedule.specs.declared.reader.Sized.{Sized}
use Rattle.schedule.specs.declared.stage.Stage.{Stage}
use Rattle.schedule.specs.Faults.{told}
use Rattle.schedule.specs.Items.{PlacedItem, shown, shown_placed}
use Rattle.schedule.specs.Reading.{Measured, Turn, ends, fails, gives, turn, Reading, reading, read_of}

-- a measured record of the code, by what it says
abbrev pub measured_of : Result Sized Flaw → Result Measured Flaw
measured_of (Ok m) = Ok (record { item = shown m.item; size = m.size })
measured_of (Err e) = Err e

-- what a reader will give from here on, or the fault that it will meet
abbrev pub to_come : Reader → Reading
to_come r = reading r.stage r.at (drop r.at r.file.now)

-- what a reader meets next
abbrev pub turn_at : Reader → Turn
turn_at r = turn r.stage r.at (drop r.at r.file.now)

-- what is answered of a turn
abbrev pub answer : Turn → Result (Option PlacedItem) Refusal
answer ends = Ok None
answer (fails e) = Err (told e)
answer (gives x s size) = Ok (Some x)

-- an answer of the code, by what it says
abbrev pub answered : Result (Option Placed) FileFault → Result (Option PlacedItem) Refusal
answered (Ok None) = Ok None
answered (Ok (Some p)) = Ok (Some (shown_placed p))
answered (Err e) = Err (told e)

-- the stage after a turn: it moves only past an item
abbrev pub stage_past : Stage → Turn → Stage
stage_past s ends = s
stage_past s (fails e) = s
stage_past s (gives x t size) = t

-- the place after a turn: it moves only past an item
abbrev pub place_past : ℕ → Turn → ℕ
place_past at ends = at
place_past at (fails e) = at
place_past at (gives x t size) = at + size

-- a reading without its items
abbrev pub verdict : Reading → Result Unit Refusal
verdict (Ok xs) = Ok tt
verdict (Err e) = Err (told e)

abbrev pub checked : Result Unit FileFault → Result Unit Refusal
checked (Ok u) = Ok tt
checked (Err e) = Err (told e)

-- the length of bytes that are read, or the refusal
abbrev pub length_if : ℕ → Reading → Result ℕ Refusal
length_if n (Ok xs) = Ok n
length_if n (Err e) = Err (told e)

abbrev pub checked_length : List ℕ → Result ℕ Refusal
checked_length bs = length_if (length bs) (read_of bs)

abbrev pub lengthwise : Result ℕ FileFault → Result ℕ Refusal
lengthwise (Ok n) = Ok n
lengthwise (Err e) = Err (told e)
