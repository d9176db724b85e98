-- The number, layer and place of each fault of a step.
use Rattle.std.specs.Prelude.{ℕ}
use Rattle.carrier.specs.Faults as carrier
use Rattle.refusals.specs.declared.Layer.{Layer}
use Rattle.refusals.specs.declared.Layer.TheVariants as layer
use Rattle.refusals.specs.declared.Refusal.{Refusal}
use Rattle.network.specs.declared.fault.LogFault.{LogFault}
use Rattle.network.specs.declared.fault.LogFault.TheVariants.{Full}
use Rattle.network.specs.declared.fault.StepFault.{StepFault}
use Rattle.network.specs.declared.fault.StepFault.TheVariants.{NoStation, Used, NotPresent, Crashed, NotJoined, UnderWay, Churn, TooFewPresent, TooManyCrashed, CopyDue, ClockEnd, Carrier, Log}

abbrev pub log_number : LogFault → ℕ
log_number Full = 50

abbrev pub number_of : StepFault → ℕ
number_of NoStation = 20
number_of Used = 21
number_of NotPresent = 22
number_of Crashed = 23
number_of NotJoined = 24
number_of UnderWay = 25
number_of Churn = 30
number_of TooFewPresent = 31
number_of TooManyCrashed = 32
number_of CopyDue = 33
number_of ClockEnd = 34
number_of (Carrier f) = (carrier.told f).number
number_of (Log f) = log_number f

abbrev pub layer_of : StepFault → Layer
layer_of NoStation = layer.Step
layer_of Used = layer.Step
layer_of NotPresent = layer.Step
layer_of Crashed = layer.Step
layer_of NotJoined = layer.Step
layer_of UnderWay = layer.Step
layer_of Churn = layer.Step
layer_of TooFewPresent = layer.Step
layer_of TooManyCrashed = layer.Step
layer_of CopyDue = layer.Step
layer_of ClockEnd = layer.Step
layer_of (Carrier f) = (carrier.told f).layer
layer_of (Log f) = layer.Log

-- the place of a step's fault is the step's ordinal, from 1
abbrev pub told : ℕ → StepFault → Refusal
told ordinal f = record { number = number_of f; layer = layer_of f; place = ordinal }
