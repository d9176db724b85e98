use Rattle.std.proofs.Common.{◌≡◌}
use Rattle.stations.specs.Members.{member}
use Rattle.carrier.proofs.Posting.{part}
use Rattle.rack.specs.Racks.{stored, capacity}
use Rattle.tray.proofs.tray.calls.fill.Given as goal

-- copies wait for the receivers below q
abbrev pub invariant-loop-q : goal.invariant-loop-q
invariant-loop-q g l =
    (stored l.rack ≡ part (member l.to) l.number l.held (stored l.initial.rack) l.q)
    × (capacity l.rack ≡ capacity l.initial.rack)
