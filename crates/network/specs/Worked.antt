-- Worked cases of the rules, to be computed.
use Rattle.std.specs.Prelude.{◌≡◌, ℕ, zero, suc, ◌+◌, ◌*◌, true, List, [], ◌∷◌, ◌++◌, Some, None, Option}
use Rattle.refusals.specs.declared.Layer.TheVariants as layer
use Rattle.refusals.specs.declared.Refusal.{Refusal}
use Rattle.settings.specs.Bench.{SettingsCases}
use Rattle.network.specs.declared.fault.StepFault.{StepFault}
use Rattle.network.specs.declared.operation.Kind.TheVariants as kind
use Rattle.network.specs.declared.step.Step.{Step}
use Rattle.network.specs.declared.step.Step.TheVariants.{Tick, Enter, Read, Write, Deliver}
use Rattle.network.specs.Faults.{told}
use Rattle.network.specs.Refusals.{refusal}
use Rattle.network.specs.Runs.{run}
use Rattle.network.specs.States.{Setup, State, new_run}
use Rattle.network.specs.Steps.{after}

-- a record of two numbers, as a gain and a corner period
pub record Pair : Type 0 where
  pub gain : ℕ
  pub corner : ℕ

abbrev pub pair : ℕ → ℕ → Pair
pair g c = record { gain = g; corner = c }

-- two stations, alpha 0, delta 0, beta 51, gamma 50, nmin 2, d 2, and always room
abbrev pub two_stations : Setup Pair
two_stations = record {
  choice = record { alpha = 0; delta = 0; beta = 51; gamma = 50; nmin = 2; d = 2 };
  table = 2;
  first = pair 1 1;
  room = λ waits mails. true;
  places = 1024;
}

-- station 0 writes 7/9: up to the first tick, up to the second, and then two ticks
abbrev pub asked : List (Step Pair)
asked = Write 0 (pair 7 9) ∷ Deliver 0 0 ∷ Deliver 1 0 ∷ Deliver 0 1 ∷ []

abbrev pub spread : List (Step Pair)
spread = Deliver 2 0 ∷ Deliver 3 1 ∷ Deliver 3 0 ∷ Deliver 4 0 ∷ Deliver 6 0 ∷ []

abbrev pub worked_steps : List (Step Pair)
worked_steps = asked ++ (Tick ∷ (spread ++ (Tick ∷ (Tick ∷ []))))

-- what is told of a step of this ordinal, where it is refused
abbrev pub told_if : ℕ → Option StepFault → List Refusal
told_if n None = []
told_if n (Some f) = told n f ∷ []

module _ {R : Type 0} where
  -- what is told of the refused steps of a list, the first of which has ordinal n
  unfoldable pub told_refusals : Setup R → ℕ → List (Step R) → State R → List Refusal
  told_refusals u n [] s = []
  told_refusals u n (x ∷ xs) s = told_if n (refusal u x s) ++ told_refusals u (n + 1) xs (after u x s)

-- a refused step, by its ordinal and number
abbrev pub step_refused : ℕ → ℕ → Refusal
step_refused ordinal number = record { number = number; layer = layer.Step; place = ordinal }

-- the write begins in tick 0 and ends in tick 1 with two replies in each phase, and step 12 is refused 33
abbrev pub WorkedExample : Type 0
WorkedExample =
    ((run two_stations worked_steps (new_run two_stations 2)).log.entries
    ≡ record { station = 0; kind = kind.Write; value = pair 7 9; begin = 0; end = Some 1; replies_one = 2; replies_two = 2 } ∷ [])
    × (told_refusals two_stations 1 worked_steps (new_run two_stations 2) ≡ step_refused 12 33 ∷ [])

-- the steps f 0 to f (n - 1)
abbrev pub each : ℕ → (ℕ → Step Pair) → List (Step Pair)
each zero f = []
each (suc n) f = each n f ++ (f n ∷ [])

-- alpha 4, delta 3, beta 76, gamma 75, nmin 20, d 2, a table of 27, and always room
abbrev pub survey_network : Setup Pair
survey_network = record {
  choice = record { alpha = 4; delta = 3; beta = 76; gamma = 75; nmin = 20; d = 2 };
  table = 27;
  first = pair 1 1;
  room = λ waits mails. true;
  places = 1;
}

-- station 25 enters, 20 stations echo, and it joins at the last echo
abbrev pub joins : List (Step Pair)
joins = Enter 25 ∷ (each 20 (λ q. Deliver 0 q) ++ each 20 (λ i. Deliver (1 + i) 25))

-- it reads: 20 stations respond, and then acknowledge its update
abbrev pub reads : List (Step Pair)
reads =
    Read 25
    ∷ (each 20 (λ q. Deliver 22 q) ++ (each 20 (λ i. Deliver (23 + i) 25) ++ (each 20 (λ q. Deliver 43 q) ++ each 20 (λ i. Deliver (44 + i * 2) 25))))

-- a station enters in tick 1, joins and reads the first record
abbrev pub NewcomerReads : Type 0
NewcomerReads =
    (((run survey_network (Tick ∷ joins) (new_run survey_network 25)).stations 25).joined ≡ true)
    × ((run survey_network (Tick ∷ (joins ++ reads)) (new_run survey_network 25)).log.entries
    ≡ record { station = 25; kind = kind.Read; value = pair 1 1; begin = 1; end = Some 1; replies_one = 20; replies_two = 20 } ∷ [])

-- of 25 stations: one enters in tick 1; another may neither enter there nor in tick 2, but in tick 3
abbrev pub churn_steps : List (Step Pair)
churn_steps = Tick ∷ Enter 25 ∷ Enter 26 ∷ Tick ∷ Enter 26 ∷ (each 26 (λ q. Deliver 0 q) ++ (Tick ∷ Enter 26 ∷ []))

abbrev pub LimitCases : Type 0
LimitCases = told_refusals survey_network 1 churn_steps (new_run survey_network 25) ≡ step_refused 3 30 ∷ step_refused 5 30 ∷ []

-- all worked cases together: settings, limit book, the worked example, and a newcomer that joins and reads
abbrev pub WorkedCases : Type 0
WorkedCases = SettingsCases × LimitCases × WorkedExample × NewcomerReads
