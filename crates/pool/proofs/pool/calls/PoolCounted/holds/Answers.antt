use Rattle.std.proofs.Common.{is_some, ap, ◌∙◌}
use Rattle.pool.proofs.Messages.{kept_under}
use Rattle.pool.proofs.pool.calls.PoolCounted.holds.Goals as goal

pub returns : goal.returns
returns g c =
    let p = c.args.self.now in
    c.is_some.ensures ∙ ap is_some c.get.ensures ∙ kept_under p.rack c.args.number p.wanted
