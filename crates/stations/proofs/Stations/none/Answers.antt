use Rattle.std.proofs.Common.{refl}
use Rattle.stations.proofs.Words.{member_none}
use Rattle.stations.proofs.Stations.none.Goals as goal

pub returns : goal.returns
returns c = member_none _ refl
