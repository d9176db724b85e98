use Rattle.std.proofs.Common.{ap}
use Rattle.carrier.specs.Counts.{by_message, fits}
use Rattle.pool.proofs.Messages.{pooled_none}
use Rattle.pool.proofs.pool.calls.PoolCarrier.clear.Goals as goal

pub returns : goal.returns
returns g c = record { after = pooled_none _ c.clear.ensures.after; same = ap (fits by_message) c.clear.ensures.same }
