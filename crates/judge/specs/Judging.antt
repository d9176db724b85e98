-- The judgement of a whole file: the file first, then its settings, then its start.
use Rattle.std.specs.Prelude.{ℕ, List, Ok, Err, Result}
use Rattle.refusals.specs.declared.Refusal.{Refusal}
use Rattle.schedule.specs.declared.fault.FileFault.{FileFault}
use Rattle.schedule.specs.Faults as schedule
use Rattle.schedule.specs.Reading.{Reading, read_of}
use Rattle.settings.specs.Admission.{admission, start_admission}
use Rattle.judge.specs.declared.contents.Contents.{Contents}
use Rattle.judge.specs.declared.fault.Fault.{Fault}
use Rattle.judge.specs.Faults.{told}
use Rattle.judge.specs.Contents.{nothing, gathered}

-- the next test, where nothing was refused so far
abbrev pub then : {A B : Type 0} → Result A Refusal → (A → Result B Refusal) → Result B Refusal
then (Ok x) next = next x
then (Err r) next = Err r

-- the contents after all that is read, or the file's refusal
abbrev pub said_of : Contents → Reading → Result Contents Refusal
said_of c (Ok items) = Ok (gathered c items)
said_of c (Err fault) = Err (schedule.told fault)

-- the contents, where their settings are admitted, and after that the start under these settings
abbrev pub admitted : Contents → Result Contents Refusal
admitted c =
    then (admission c.choice) (λ choice.
    then (start_admission choice c.table c.present) (λ _.
    Ok c))

-- what a file says, or the first refusal that applies: the whole file is read before anything is admitted
abbrev pub judged : List ℕ → Result Contents Refusal
judged file = then (said_of nothing (read_of file)) admitted

-- what a judgement came to
abbrev pub outcome : Result Contents Fault → Result Contents Refusal
outcome (Ok c) = Ok c
outcome (Err fault) = Err (told fault)

-- what a reading of the whole file came to
abbrev pub surveyed : Result Contents FileFault → Result Contents Refusal
surveyed (Ok c) = Ok c
surveyed (Err fault) = Err (schedule.told fault)
