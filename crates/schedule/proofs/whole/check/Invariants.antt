use Rattle.std.proofs.Common.{◌≡◌, ◌-◌, length}
use Rattle.schedule.specs.Reading.{read_of}
use Rattle.schedule.specs.Readers.{to_come, verdict}
use Rattle.schedule.proofs.whole.check.Given as goal

abbrev pub invariant-loop : goal.invariant-loop
invariant-loop l = (verdict (read_of l.file) ≡ verdict (to_come l.reader)) × (l.reader.file.now ≡ l.file)

abbrev pub decreases-loop : goal.decreases-loop
decreases-loop l = length l.file - l.reader.at
