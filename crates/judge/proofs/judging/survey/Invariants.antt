use Rattle.std.proofs.Common.{◌≡◌, ◌-◌, ◌≤◌, length}
use Rattle.schedule.specs.Reading.{read_of}
use Rattle.schedule.specs.Readers.{to_come}
use Rattle.judge.specs.Contents.{nothing, steps}
use Rattle.judge.specs.Judging.{said_of}
use Rattle.judge.proofs.judging.survey.Given as goal

-- what was noted and what is to come make up the file; each step noted took a byte at least
abbrev pub invariant-loop-placed : goal.invariant-loop-placed
invariant-loop-placed l =
    (said_of nothing (read_of l.file) ≡ said_of l.contents (to_come l.reader))
    × (l.reader.file.now ≡ l.file)
    × (steps l.contents.counts ≤ l.reader.at)
    × (l.reader.at ≤ length l.file)

abbrev pub decreases-loop-placed : goal.decreases-loop-placed
decreases-loop-placed l = length l.file - l.reader.at
