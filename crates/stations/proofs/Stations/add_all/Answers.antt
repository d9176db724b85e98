use Rattle.std.proofs.Common.{rules}
use Rattle.stations.proofs.Words.{member_either}
use Rattle.stations.proofs.Stations.add_all.Goals as goal

pub returns : goal.returns
returns c = member_either c.args.self.now c.args.other.now _ (search rules)
