use Rattle.carrier.specs.Counts.{receivers}
use Rattle.tray.proofs.tray.calls.TrayCounted.cost.Goals as goal

pub returns-clause-value : goal.returns-clause-value
unfolding receivers
returns-clause-value g c = c.count.ensures.value
