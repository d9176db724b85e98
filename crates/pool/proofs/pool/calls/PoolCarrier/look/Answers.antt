use Rattle.std.proofs.Common.{ap, ◌∙◌}
use Rattle.pool.specs.Meaning.{pooled}
use Rattle.pool.specs.Pooled.{opened}
use Rattle.pool.proofs.pool.calls.PoolCarrier.look.Goals as goal

pub returns : goal.returns
unfolding pooled
returns g c = c.open.ensures ∙ ap (λ o. opened o c.args.station) c.get.ensures
