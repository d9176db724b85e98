use Rattle.counting.proofs.Tests.{meet}
use Rattle.counting.proofs.large_sets_meet.Goals as goal

pub returns : goal.returns
returns c = meet
