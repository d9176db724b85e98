use Rattle.std.proofs.Common.{arith, rules}
use Rattle.schedule.proofs.Remaining.{length_next, length_end}
use Rattle.schedule.proofs.writer.fit_in_file.Goals as goal

pub returns : goal.returns
returns c = let l = length_end c.args.records.now c.loop-item.item-index c.loop-item-test.false in search rules
