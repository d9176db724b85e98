-- The number, layer and place of each fault of a schedule file.
use Rattle.std.specs.Prelude.{ℕ}
use Rattle.refusals.specs.declared.Refusal.{Refusal}
use Rattle.refusals.specs.declared.Layer.TheVariants.{File}
use Rattle.records.specs.declared.class.Misfit.{Misfit}
use Rattle.records.specs.declared.class.Misfit.TheVariants.{WrongLength, UnknownForm}
use Rattle.schedule.specs.declared.fault.Flaw.{Flaw}
use Rattle.schedule.specs.declared.fault.Flaw.TheVariants.{Short, Kind, Length, Order, Range}
use Rattle.schedule.specs.declared.fault.FileFault.{FileFault}
use Rattle.schedule.specs.declared.fault.FileFault.TheVariants.{Oversize, At}

abbrev pub number : Flaw → ℕ
number Short = 1
number Kind = 2
number Length = 3
number Order = 4
number Range = 5

-- the flaw of a record whose bytes don't fit its class
abbrev pub flaw_of : Misfit → Flaw
flaw_of WrongLength = Length
flaw_of UnknownForm = Range

abbrev pub told : FileFault → Refusal
told Oversize = record { number = 6; layer = File; place = 0 }
told (At flaw at) = record { number = number flaw; layer = File; place = at }
