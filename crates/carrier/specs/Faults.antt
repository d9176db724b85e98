-- What a caller is told of each fault.
use Rattle.std.specs.Prelude.{ℕ}
use Rattle.refusals.specs.declared.Layer.TheVariants.{Carrier}
use Rattle.refusals.specs.declared.Refusal.{Refusal}
use Rattle.carrier.specs.declared.fault.CarrierFault.{CarrierFault}
use Rattle.carrier.specs.declared.fault.CarrierFault.TheVariants.{NotWaiting, NumbersUsedUp, NoRoom}

-- the number of each fault
abbrev pub number_of : CarrierFault → ℕ
number_of NotWaiting = 40
number_of NumbersUsedUp = 41
number_of NoRoom = 42

abbrev pub told : CarrierFault → Refusal
told f = record { number = number_of f; layer = Carrier; place = 0 }
