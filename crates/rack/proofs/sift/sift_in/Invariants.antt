use Rattle.std.proofs.Common.{ℕ, ◌≤◌, Option}
use Rattle.rack.specs.Entries.{Follows}
use Rattle.rack.proofs.Sifting.{Sifting}
use Rattle.rack.proofs.sift.sift_in.Given as goal

abbrev pub invariant-loop-i : goal.invariant-loop-i
invariant-loop-i g l =
    (l.count ≤ l.i)
    × ((f : ℕ → g.row.V.Denot → Option g.row.V.Denot) → Follows (goal.F-post g l.rule) f → Sifting f l.initial.records l.records l.count l.i)
