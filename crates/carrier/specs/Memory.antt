-- How much memory a carrier wants.
use Rattle.std.specs.Prelude.{ℕ, cond, Ok, Err, Result, nat_le}
use Rattle.refusals.specs.declared.Layer.TheVariants.{Settings}
use Rattle.refusals.specs.declared.Refusal.{Refusal}
use Rattle.carrier.specs.declared.memory.TooSmall.{TooSmall}

-- what a caller is told who lent too little
abbrev pub small_told : Refusal
small_told = record { number = 17; layer = Settings; place = 0 }

-- the answer for k records where at least n are wanted
abbrev pub sized : ℕ → ℕ → Result (Unit {0}) TooSmall
sized n k = cond (nat_le n k) (Ok tt) (Err record {})
