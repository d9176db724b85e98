use Rattle.std.proofs.Common.{◌≡◌, ltb}
use Rattle.stations.specs.Members.{member}
use Rattle.network.proofs.lives.first_stations.Given as goal

-- so far those below p
abbrev pub invariant-loop-p : goal.invariant-loop-p
invariant-loop-p l = member l.all ≡ (λ q. ltb q l.p)
