use Rattle.network.proofs.Worked.{worked_cases}
use Rattle.network.proofs.cases.worked_cases_hold.Goals as goal

pub returns : goal.returns
returns c = worked_cases
