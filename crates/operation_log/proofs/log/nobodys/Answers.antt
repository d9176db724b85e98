use Rattle.operation_log.proofs.Places.{none_latest}
use Rattle.operation_log.proofs.log.nobodys.Goals as goal

pub returns : goal.returns
returns c = none_latest 256
