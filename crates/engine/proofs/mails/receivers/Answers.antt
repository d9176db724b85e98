use Rattle.std.proofs.Common.{sym, ◌∙◌}
use Rattle.engine.proofs.Letters.{only_one}
use Rattle.engine.proofs.mails.receivers.Goals as goal

pub returns-then-contains : goal.returns-then-contains
returns-then-contains c =
    only_one c.args.to c.insert.new.self c.none-only.result c.args.active.now c.in-Only.p c.in-Only.is c.none-only.ensures c.insert.ensures
    (sym c.contains.ensures ∙ c.if-contains.true)
