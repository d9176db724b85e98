use Rattle.counting.proofs.Growth.{growth}
use Rattle.counting.proofs.churn_stays_in_bounds.Goals as goal

pub returns : goal.returns
returns c = growth
