use Rattle.schedule.proofs.Puts.{PutTo}
use Rattle.schedule.proofs.writer.put_records.Given as goal

abbrev pub invariant-loop-item : goal.invariant-loop-item
invariant-loop-item l = PutTo l.records l.item-index l.at l.buffer l.initial.buffer
