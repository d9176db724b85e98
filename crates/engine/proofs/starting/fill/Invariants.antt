use Rattle.std.proofs.Common.{◌≡◌, length, take, replicate}
use Rattle.engine.proofs.starting.fill.Given as goal

-- so many places hold it
abbrev pub invariant-loop-i : goal.invariant-loop-i
invariant-loop-i g l = (length l.xs ≡ length l.initial.xs) × (l.i-end ≡ length l.initial.xs) × (take l.i l.xs ≡ replicate l.i l.x)
