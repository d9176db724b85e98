use Rattle.pool.proofs.Messages.{pooled_none}
use Rattle.pool.proofs.pool.Pool.new.Goals as goal

pub returns : goal.returns
returns g c = record { empty = pooled_none _ c.new-rack.ensures.empty; all = c.new-rack.ensures.all }
