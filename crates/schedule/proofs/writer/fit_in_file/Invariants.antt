use Rattle.std.proofs.Common.{◌≡◌, ◌+◌, length}
use Rattle.schedule.specs.Reading.{most_bytes}
use Rattle.schedule.proofs.Remaining.{all_bytes, bytes_from}
use Rattle.schedule.proofs.writer.fit_in_file.Given as goal

abbrev pub invariant-loop-item : goal.invariant-loop-item
invariant-loop-item l = length (all_bytes l.records) + l.left ≡ most_bytes + length (bytes_from l.item-index l.records)
