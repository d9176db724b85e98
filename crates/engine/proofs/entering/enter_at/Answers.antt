use Rattle.std.proofs.Common.{refl}
use Rattle.engine.proofs.entering.enter_at.Goals as goal

pub returns : goal.returns
returns g c = record { to = c.newcomer.result; put = refl; shows = λ d. c.newcomer.ensures }
