use Rattle.std.proofs.Common.{◌≡◌, ◌-◌, map, length, vec_items}
use Rattle.schedule.specs.Items.{shown_placed}
use Rattle.schedule.specs.Reading.{read_of}
use Rattle.schedule.specs.Readers.{to_come}
use Rattle.schedule.proofs.Lists.{prefixed}
use Rattle.schedule.proofs.whole.collect.Given as goal

abbrev pub invariant-loop-records : goal.invariant-loop-records
invariant-loop-records l =
    (read_of l.file ≡ prefixed (map shown_placed (vec_items l.records)) (to_come l.reader))
    × (l.reader.file.now ≡ l.file)

abbrev pub decreases-loop-records : goal.decreases-loop-records
decreases-loop-records l = length l.file - l.reader.at
