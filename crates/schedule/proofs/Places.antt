-- A flaw that is told with its place.
use Rattle.std.proofs.Common.{◌≡◌, ℕ, Ok, Err, Result, MatchResult, IsErrAnd, refl}
use Rattle.schedule.specs.declared.fault.Flaw.{Flaw}
use Rattle.schedule.specs.declared.fault.FileFault.{FileFault}
use Rattle.schedule.specs.declared.fault.FileFault.TheVariants.{At}
use Rattle.schedule.proofs.Readings.{never}

-- what `map_err` makes of a result whose flaw is told with a place
abbrev pub ToldAt : {T : Type 0} → Result T Flaw → ℕ → Result T FileFault → Type 0
ToldAt r at told = MatchResult r (λ x. told ≡ Ok x) (λ f. IsErrAnd told (λ e. e ≡ At f at))

pub told_err : {T : Type 0} (r : Result T Flaw) (at : ℕ) (d : FileFault) → ToldAt r at (Err d) → (f : Flaw) × (r ≡ Err f) × (d ≡ At f at)
told_err (Ok x) at d h = never (cc)
told_err (Err f) at d h = (f, refl, h)

pub told_ok : {T : Type 0} (r : Result T Flaw) (at : ℕ) (x : T) → ToldAt r at (Ok x) → r ≡ Ok x
told_ok (Ok y) at x h = cc
told_ok (Err f) at x h = absurd h
