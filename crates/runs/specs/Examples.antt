-- Examples of runs, to be computed: admitted starts from which stations join, reads give what was written, and operations end in time,
-- so that what is promised of every run is promised of these.
use Rattle.std.specs.Prelude.{◌≡◌, ℕ, ◌+◌, ◌*◌, true, List, [], ◌∷◌, ◌++◌, Some, None, Option}
use Rattle.network.specs.declared.entry.Entry.{Entry}
use Rattle.network.specs.declared.operation.Kind.{Kind}
use Rattle.network.specs.declared.operation.Kind.TheVariants as kind
use Rattle.network.specs.declared.step.Step.{Step}
use Rattle.network.specs.declared.step.Step.TheVariants.{Tick, Enter, Crash, Read, Write, Deliver}
use Rattle.network.specs.Keeping.{active}
use Rattle.network.specs.Runs.{run, AdmittedStart}
use Rattle.network.specs.States.{Setup, new_run}
use Rattle.network.specs.Worked.{Pair, pair, two_stations, asked, spread, each, told_refusals}

-- the log entry of an operation on 7/9, with as many replies in each phase
abbrev pub shown : ℕ → Kind → ℕ → Option ℕ → ℕ → ℕ → Entry Pair
shown p k begin end one two = record { station = p; kind = k; value = pair 7 9; begin = begin; end = end; replies_one = one; replies_two = two }

-- A newcomer: 25 stations at the start, alpha 4, delta 3, beta 76, gamma 75, nmin 20, d 2, and always room.

abbrev pub open_network : Setup Pair
open_network = record {
  choice = record { alpha = 4; delta = 3; beta = 76; gamma = 75; nmin = 20; d = 2 };
  table = 26;
  first = pair 1 1;
  room = λ waits mails. true;
  places = 2;
}

-- station 0 writes 7/9 in tick 1: 19 stations respond, and then acknowledge its update
abbrev pub writes_first : List (Step Pair)
writes_first =
    Tick
    ∷ (Write 0 (pair 7 9)
    ∷ (each 19 (λ q. Deliver 0 q) ++ (each 19 (λ i. Deliver (1 + i) 0) ++ (each 19 (λ q. Deliver 20 q) ++ each 19 (λ i. Deliver (21 + i * 2) 0)))))

-- station 25 enters, 20 stations echo, and it joins at the last echo
abbrev pub then_joins : List (Step Pair)
then_joins = Enter 25 ∷ (each 20 (λ q. Deliver 59 q) ++ each 20 (λ i. Deliver (60 + i) 25))

-- it reads: 20 stations respond, and then acknowledge its update
abbrev pub then_reads : List (Step Pair)
then_reads =
    Read 25
    ∷ (each 20 (λ q. Deliver 81 q) ++ (each 20 (λ i. Deliver (82 + i) 25) ++ (each 20 (λ q. Deliver 102 q) ++ each 20 (λ i. Deliver (103 + i * 2) 25))))

abbrev pub newcomers_run : List (Step Pair)
newcomers_run = writes_first ++ (then_joins ++ then_reads)

-- no step is refused, the station that entered has joined, and its read gives what was written before it came
abbrev pub NewcomerReadsWhatWasWritten : Type 0
NewcomerReadsWhatWasWritten =
    AdmittedStart open_network 25
    × (told_refusals open_network 1 newcomers_run (new_run open_network 25) ≡ [])
    × (((run open_network newcomers_run (new_run open_network 25)).stations 25).joined ≡ true)
    × ((run open_network newcomers_run (new_run open_network 25)).log.entries ≡ shown 0 kind.Write 1 (Some 1) 19 19 ∷ shown 25 kind.Read 1 (Some 1) 20 20 ∷ [])

-- A writer that crashes: four stations, alpha 0, delta 25, beta 75, gamma 75, nmin 2, d 2, and always room.

abbrev pub closed_network : Setup Pair
closed_network = record {
  choice = record { alpha = 0; delta = 25; beta = 75; gamma = 75; nmin = 2; d = 2 };
  table = 4;
  first = pair 1 1;
  room = λ waits mails. true;
  places = 2;
}

-- station 0 writes 7/9, three stations respond, station 1 alone hears the update, and station 0 crashes
abbrev pub writes_and_crashes : List (Step Pair)
writes_and_crashes = Write 0 (pair 7 9) ∷ (each 3 (λ q. Deliver 0 q) ++ (each 3 (λ i. Deliver (1 + i) 0) ++ (Deliver 4 1 ∷ Crash 0 ∷ [])))

-- station 2 reads in tick 1: the other three respond, and then acknowledge its update
abbrev pub another_reads : List (Step Pair)
another_reads =
    Tick
    ∷ (Read 2
    ∷ (each 3 (λ i. Deliver 7 (1 + i)) ++ (each 3 (λ i. Deliver (8 + i) 2) ++ (each 3 (λ i. Deliver 11 (1 + i)) ++ each 3 (λ i. Deliver (12 + i * 2) 2)))))

abbrev pub crashed_writers_run : List (Step Pair)
crashed_writers_run = writes_and_crashes ++ another_reads

-- no step is refused, the write never ends, and the read gives its record
abbrev pub UnfinishedWriteIsRead : Type 0
UnfinishedWriteIsRead =
    AdmittedStart closed_network 4
    × (told_refusals closed_network 1 crashed_writers_run (new_run closed_network 4) ≡ [])
    × ((run closed_network crashed_writers_run (new_run closed_network 4)).log.entries ≡ shown 0 kind.Write 0 None 3 0 ∷ shown 2 kind.Read 1 (Some 1) 3 3 ∷ [])

-- An operation whose time is over: the worked example of two stations, d 2, in which every copy is then delivered and 4d ticks pass.

abbrev pub quiet_run : List (Step Pair)
quiet_run = asked ++ (Tick ∷ (spread ++ (Deliver 5 0 ∷ Deliver 5 1 ∷ Deliver 7 0 ∷ Deliver 7 1 ∷ each 7 (λ i. Tick))))

-- no step is refused, the write that began in tick 0 ended in tick 1, and in tick 8 its station is still active
abbrev pub OperationHasItsTime : Type 0
OperationHasItsTime =
    AdmittedStart two_stations 2
    × (told_refusals two_stations 1 quiet_run (new_run two_stations 2) ≡ [])
    × ((run two_stations quiet_run (new_run two_stations 2)).clock ≡ 8)
    × (active ((run two_stations quiet_run (new_run two_stations 2)).stations 0) ≡ true)
    × ((run two_stations quiet_run (new_run two_stations 2)).log.entries ≡ shown 0 kind.Write 0 (Some 1) 2 2 ∷ [])
