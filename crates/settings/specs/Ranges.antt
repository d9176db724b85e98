-- The range of each of the six numbers.
use Rattle.std.specs.Prelude.{◌≤◌, Bool, ◌&&◌, nat_le}
use Rattle.settings.specs.declared.choice.Choice.{Choice}

-- the lowest numbers that may be chosen
abbrev pub lowest : Choice
lowest = record { alpha = 0; delta = 0; beta = 1; gamma = 1; nmin = 1; d = 1 }

-- the highest numbers that may be chosen
abbrev pub highest : Choice
highest = record { alpha = 15; delta = 100; beta = 100; gamma = 100; nmin = 256; d = 32 }

-- the test that no number of the first is above that of the second
abbrev pub at_most : Choice → Choice → Bool
at_most a b =
    nat_le a.alpha b.alpha && nat_le a.delta b.delta && nat_le a.beta b.beta
    && nat_le a.gamma b.gamma && nat_le a.nmin b.nmin && nat_le a.d b.d

-- the same as facts: of the four shares, and of the two counts
abbrev pub AtMost : Choice → Choice → Type 0
AtMost a b =
    ((a.alpha ≤ b.alpha) × (a.delta ≤ b.delta) × (a.beta ≤ b.beta) × (a.gamma ≤ b.gamma))
    × ((a.nmin ≤ b.nmin) × (a.d ≤ b.d))

-- the test that each number is in its range
abbrev pub in_range : Choice → Bool
in_range c = at_most lowest c && at_most c highest

-- the same as facts
abbrev pub InRange : Choice → Type 0
InRange c = AtMost lowest c × AtMost c highest
