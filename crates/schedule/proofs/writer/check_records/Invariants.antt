use Rattle.schedule.proofs.Checks.{ComeTo}
use Rattle.schedule.proofs.writer.check_records.Given as goal

abbrev pub invariant-loop-item : goal.invariant-loop-item
invariant-loop-item l = ComeTo l.records l.item-index l.stage l.at
