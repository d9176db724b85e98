-- What a caller is told of each fault.
use Rattle.refusals.specs.declared.Refusal.{Refusal}
use Rattle.schedule.specs.Faults as schedule
use Rattle.settings.specs.Faults as settings
use Rattle.judge.specs.declared.fault.Fault.{Fault}
use Rattle.judge.specs.declared.fault.Fault.TheVariants.{File, Settings}

-- what the layer that refuses tells
abbrev pub told : Fault → Refusal
told (File fault) = schedule.told fault
told (Settings fault) = settings.told fault
