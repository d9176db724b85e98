-- What a take owes, and what applying it answers.
use Rattle.std.specs.Prelude.{ℕ, false, List, Some, None, Ok, Err, Option, Result, slice_set}
use Rattle.carrier.specs.declared.fault.CarrierFault.{CarrierFault}
use Rattle.carrier.specs.declared.fault.CarrierFault.TheVariants.{NotWaiting}
use Rattle.carrier.specs.declared.message.Held.{Held}
use Rattle.carrier.specs.declared.owed.Owed.{Owed}

-- a debt that is not forgiven
abbrev pub owed_to : {X : Type 0} → ℕ → Held X → Owed X
owed_to q x = record { station = q; held = x; forgiven = false }

-- the debt that taking a copy makes
abbrev pub owing : {X : Type 0} → ℕ → Option (Held X) → Result (Owed X) CarrierFault
owing q (Some x) = Ok (owed_to q x)
owing q None = Err NotWaiting

-- what a receiver answers to a copy, where there is one
abbrev pub answered : {H A : Type 0} → (H → A) → Option H → Option A
answered f (Some x) = Some (f x)
answered f None = None

-- the stations with one turned by a copy, where there is one
abbrev pub turned_at : {H R : Type 0} → List R → ℕ → (H → R) → Option H → List R
turned_at rs q f (Some x) = slice_set rs q (f x)
turned_at rs q f None = rs
