use Rattle.std.proofs.Common.{◌-◌, ◌≤◌}
use Rattle.std.specs.List.{prefix_len}
use Rattle.rack.specs.Entries.{before}
use Rattle.rack.specs.Racks.{kept}
use Rattle.rack.proofs.rack.Rack.place.Given as goal

-- the place is between the two bounds
abbrev pub invariant-loop-low : goal.invariant-loop-low
invariant-loop-low g l = (l.low ≤ prefix_len (before l.key.rank) (kept l.self)) × (prefix_len (before l.key.rank) (kept l.self) ≤ l.high) × (l.high ≤ l.self.len)

abbrev pub decreases-loop-low : goal.decreases-loop-low
decreases-loop-low g l = l.high - l.low
