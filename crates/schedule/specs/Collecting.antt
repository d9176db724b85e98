-- What a call that reads a whole file into memory answers.
use Rattle.std.specs.Prelude.{◌≡◌, true, map, is_ok, Ok, Err, vec_items, Result, Vec}
use Rattle.std.specs.declared.alloc.Global.{Global}
use Rattle.schedule.specs.declared.Placed.{Placed}
use Rattle.schedule.specs.declared.fault.ReadFault.{ReadFault}
use Rattle.schedule.specs.declared.fault.ReadFault.TheVariants.{File, Memory}
use Rattle.schedule.specs.Faults.{told}
use Rattle.schedule.specs.Items.{shown_placed}
use Rattle.schedule.specs.Reading.{Reading}
use Rattle.schedule.specs.Readers.{verdict}

-- the items that were read, the file's fault, or want of memory for a file that is right
abbrev pub Collected : Reading → Result (Vec Placed Global) ReadFault → Type 0
Collected x (Ok v) = x ≡ Ok (map shown_placed (vec_items v))
Collected x (Err (File e)) = verdict x ≡ Err (told e)
Collected x (Err Memory) = is_ok x ≡ true
