use Rattle.counting.proofs.Limits.{limits_suffice}
use Rattle.counting.proofs.Quiet.{limits_can_be_kept}
use Rattle.counting.proofs.limits_suffice.Goals as goal

pub returns : goal.returns
returns c = record { suffice = limits_suffice; kept = limits_can_be_kept }
