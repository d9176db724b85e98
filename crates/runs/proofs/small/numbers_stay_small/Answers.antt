use Rattle.std.proofs.Common.{take, refl}
use Rattle.runs.proofs.Reached.{reached}
use Rattle.runs.proofs.small.numbers_stay_small.Goals as goal

pub returns : goal.returns
returns g c = λ u k xs a i. (reached u k (take i xs) a _ refl).numbers
