use Rattle.std.proofs.Common.{ap, ◌∙◌, rules}
use Rattle.rack.specs.Entries.{waiting}
use Rattle.rack.specs.Racks.{kept, stored}
use Rattle.rack.proofs.Keys.{waiting_sifted}
use Rattle.rack.proofs.rack.Rack.sift.Goals as goal

pub squeeze-requires-clause-followed : goal.squeeze-requires-clause-followed
squeeze-requires-clause-followed g c = (g.T.Trim.trimmed c.args.rule.now, λ q v o l p. search rules)

pub returns-clause-after : goal.returns-clause-after
unfolding stored
returns-clause-after g c =
    let r = c.args.self.now in
    let f = g.T.Trim.trimmed c.args.rule.now in
    ap waiting (c.squeeze.ensures.after f (λ q v o l p. search rules)) ∙ waiting_sifted f (kept r) r.order
