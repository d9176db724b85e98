use Rattle.std.proofs.Common.{◌∙◌}
use Rattle.pool.proofs.Ticks.{earliest_pooled}
use Rattle.pool.proofs.pool.calls.PoolCarrier.oldest.Goals as goal

pub returns : goal.returns
returns g c = let p = c.args.self.now in c.oldest.ensures ∙ earliest_pooled p.rack p.whole p.wanted
