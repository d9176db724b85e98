use Rattle.std.proofs.Common.{arith}
use Rattle.pool.specs.Bounds.{messages_copies}
use Rattle.pool.proofs.pool.calls.PoolCounted.left.Goals as goal

pub returns : goal.returns
returns g c = let p = c.args.self.now in omega (arith, messages_copies p.rack p.whole p.wanted, c.left.ensures)
