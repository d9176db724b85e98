-- Which schedule records may stand where, and what is refused: the tests 2, 3, 4 and 5, in this order.
use Rattle.std.specs.Prelude.{ℕ, Bool, true, false, cond, not, List, length, drop, Some, None, Ok, Err, Option, Result, ◌==◌, nat_le, nat_lt}
use Rattle.fields.specs.Numbers.{two}
use Rattle.records.specs.declared.class.Class.{Class}
use Rattle.records.specs.declared.class.Misfit.{Misfit}
use Rattle.records.specs.declared.class.Misfit.TheVariants.{WrongLength, UnknownForm}
use Rattle.records.specs.Classes.{class_of}
use Rattle.records.specs.Shapes.{shape_of}
use Rattle.settings.specs.Admission.{start_in_range}
use Rattle.schedule.specs.declared.Record.{Record}
use Rattle.schedule.specs.declared.fault.Flaw.{Flaw}
use Rattle.schedule.specs.declared.fault.Flaw.TheVariants as flaw
use Rattle.schedule.specs.declared.stage.Stage.{Stage}
use Rattle.schedule.specs.declared.stage.Stage.TheVariants as stage
use Rattle.schedule.specs.Items.{Item, settings, start, tick, enter, leave, crash, read, write, deliver, shown}
use Rattle.schedule.specs.Kinds.{Kind, Settings, Start, Tick, Enter, Leave, Crash, Read, Write, Deliver, number, kind_of, item_of}

abbrev pub wrong : Result Unit Misfit → Bool
wrong (Ok u) = false
wrong (Err WrongLength) = true
wrong (Err UnknownForm) = false

abbrev pub unknown : Result Unit Misfit → Bool
unknown (Ok u) = false
unknown (Err WrongLength) = false
unknown (Err UnknownForm) = true

-- not exactly n bytes
abbrev pub unless_length : ℕ → List ℕ → Bool
unless_length n bs = not (length bs == n)

-- a record after n bytes of other fields: too short for the fields, or not of its class's length
abbrev pub record_wrong : ℕ → Class → List ℕ → Bool
record_wrong n c bs = cond (nat_lt (length bs) n) true (wrong (shape_of c (drop n bs)))

-- a start of an unknown class has no right length, so none that holds the class is wrong
abbrev pub start_wrong : Option Class → List ℕ → Bool
start_wrong None bs = false
start_wrong (Some c) bs = record_wrong 6 c bs

-- before a start no length of a write is wrong, since the class is not known
abbrev pub write_wrong : Stage → List ℕ → Bool
write_wrong stage.Settings bs = false
write_wrong stage.Start bs = false
write_wrong (stage.Steps c) bs = record_wrong 2 c bs

abbrev pub wrong_length : Stage → Kind → List ℕ → Bool
wrong_length s Settings bs = unless_length 12 bs
wrong_length s Start bs = cond (nat_lt (length bs) 2) true (start_wrong (class_of (two bs 0)) bs)
wrong_length s Tick bs = unless_length 0 bs
wrong_length s Enter bs = unless_length 2 bs
wrong_length s Leave bs = unless_length 2 bs
wrong_length s Crash bs = unless_length 2 bs
wrong_length s Read bs = unless_length 2 bs
wrong_length s Write bs = write_wrong s bs
wrong_length s Deliver bs = unless_length 6 bs

-- settings stand first, a start second, and neither again
abbrev pub misplaced : Stage → Kind → Bool
misplaced stage.Settings k = not (number k == 1)
misplaced stage.Start k = not (number k == 2)
misplaced (stage.Steps c) k = nat_le (number k) 2

abbrev pub start_out : Option Class → List ℕ → Bool
start_out None bs = true
start_out (Some c) bs = cond (unknown (shape_of c (drop 6 bs))) true (not (start_in_range (two bs 2) (two bs 4)))

abbrev pub write_out : Stage → List ℕ → Bool
write_out stage.Settings bs = false
write_out stage.Start bs = false
write_out (stage.Steps c) bs = unknown (shape_of c (drop 2 bs))

abbrev pub out_of_range : Stage → Kind → List ℕ → Bool
out_of_range s Settings bs = false
out_of_range s Start bs = start_out (class_of (two bs 0)) bs
out_of_range s Tick bs = false
out_of_range s Enter bs = false
out_of_range s Leave bs = false
out_of_range s Crash bs = false
out_of_range s Read bs = false
out_of_range s Write bs = write_out s bs
out_of_range s Deliver bs = false

-- the smallest flaw of a record of a known kind, or what it says
abbrev pub judged : Stage → Kind → List ℕ → Result Item Flaw
judged s k bs =
    cond (wrong_length s k bs) (Err flaw.Length)
    (cond (misplaced s k) (Err flaw.Order)
    (cond (out_of_range s k bs) (Err flaw.Range)
    (Ok (item_of k bs))))

-- what is wrong with a start by its fields: class, length of the table, stations present, first record
abbrev pub start_judged : Stage → Class → ℕ → ℕ → List ℕ → Result Unit Flaw
start_judged s c t k r =
    cond (wrong (shape_of c r)) (Err flaw.Length)
    (cond (misplaced s Start) (Err flaw.Order)
    (cond (cond (unknown (shape_of c r)) true (not (start_in_range t k))) (Err flaw.Range)
    (Ok tt)))

abbrev pub of_kind : Stage → List ℕ → Option Kind → Result Item Flaw
of_kind s bs None = Err flaw.Kind
of_kind s bs (Some k) = judged s k bs

-- the smallest flaw of a record by its kind's number and its body, or what it says
abbrev pub decided : Stage → ℕ → List ℕ → Result Item Flaw
decided s n bs = of_kind s bs (kind_of n)

abbrev pub shown_of : Result Record Flaw → Result Item Flaw
shown_of (Ok r) = Ok (shown r)
shown_of (Err e) = Err e

-- a step where steps may stand
abbrev pub in_steps : Stage → Item → Result Item Flaw
in_steps s i = cond (misplaced s Tick) (Err flaw.Order) (Ok i)

-- the four kinds of steps that name a station alone
abbrev pub station_step : ℕ → ℕ → Item
station_step n p = cond (n == 4) (enter p) (cond (n == 5) (leave p) (cond (n == 6) (crash p) (read p)))

-- what is to come after an item that is well placed
abbrev pub stage_after : Stage → Item → Stage
stage_after s (settings c) = stage.Start
stage_after s (start c t k r) = stage.Steps c
stage_after s tick = s
stage_after s (enter p) = s
stage_after s (leave p) = s
stage_after s (crash p) = s
stage_after s (read p) = s
stage_after s (write p r) = s
stage_after s (deliver m p) = s
