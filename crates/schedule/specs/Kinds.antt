-- The kinds of schedule records, and the body of each.
use Rattle.std.specs.Prelude.{ℕ, cond, List, [], ◌++◌, drop, Some, None, Option, ◌==◌}
use Rattle.fields.specs.Numbers.{two, four, le2, le4}
use Rattle.records.specs.declared.class.Class.{Class}
use Rattle.records.specs.declared.class.Class.TheVariants.{Response}
use Rattle.records.specs.Classes.{class_of, class_number}
use Rattle.settings.specs.declared.choice.Choice.{Choice}
use Rattle.schedule.specs.Framing.{framed}
use Rattle.schedule.specs.Items.{Item, settings, start, tick, enter, leave, crash, read, write, deliver}

pub data Kind : Type 0 where
  Settings : Kind
  Start : Kind
  Tick : Kind
  Enter : Kind
  Leave : Kind
  Crash : Kind
  Read : Kind
  Write : Kind
  Deliver : Kind

abbrev pub number : Kind → ℕ
number Settings = 1
number Start = 2
number Tick = 3
number Enter = 4
number Leave = 5
number Crash = 6
number Read = 7
number Write = 8
number Deliver = 9

abbrev pub kind_of : ℕ → Option Kind
kind_of n =
    cond (n == 1) (Some Settings) (cond (n == 2) (Some Start) (cond (n == 3) (Some Tick)
    (cond (n == 4) (Some Enter) (cond (n == 5) (Some Leave) (cond (n == 6) (Some Crash)
    (cond (n == 7) (Some Read) (cond (n == 8) (Some Write) (cond (n == 9) (Some Deliver) None))))))))

-- a start's class, where its number is known to be one
abbrev pub class_or : Option Class → Class
class_or None = Response
class_or (Some c) = c

-- alpha, delta, beta, gamma, nmin and d
abbrev pub choice_of : List ℕ → Choice
choice_of bs =
    record { alpha = two bs 0; delta = two bs 2; beta = two bs 4; gamma = two bs 6; nmin = two bs 8; d = two bs 10 }

abbrev pub choice_bytes : Choice → List ℕ
choice_bytes c =
    le2 c.alpha ++ (le2 c.delta ++ (le2 c.beta ++ (le2 c.gamma ++ (le2 c.nmin ++ le2 c.d))))

-- what a body of the right length says
abbrev pub item_of : Kind → List ℕ → Item
item_of Settings bs = settings (choice_of bs)
item_of Start bs = start (class_or (class_of (two bs 0))) (two bs 2) (two bs 4) (drop 6 bs)
item_of Tick bs = tick
item_of Enter bs = enter (two bs 0)
item_of Leave bs = leave (two bs 0)
item_of Crash bs = crash (two bs 0)
item_of Read bs = read (two bs 0)
item_of Write bs = write (two bs 0) (drop 2 bs)
item_of Deliver bs = deliver (four bs 0) (two bs 4)

abbrev pub kind_in : Item → Kind
kind_in (settings c) = Settings
kind_in (start c t k r) = Start
kind_in tick = Tick
kind_in (enter p) = Enter
kind_in (leave p) = Leave
kind_in (crash p) = Crash
kind_in (read p) = Read
kind_in (write p r) = Write
kind_in (deliver m p) = Deliver

-- the body that says it
abbrev pub body_of : Item → List ℕ
body_of (settings c) = choice_bytes c
body_of (start c t k r) = le2 (class_number c) ++ (le2 t ++ (le2 k ++ r))
body_of tick = []
body_of (enter p) = le2 p
body_of (leave p) = le2 p
body_of (crash p) = le2 p
body_of (read p) = le2 p
body_of (write p r) = le2 p ++ r
body_of (deliver m p) = le4 m ++ le2 p

-- the bytes of a schedule record
abbrev pub spell : Item → List ℕ
spell i = framed (number (kind_in i)) (body_of i)
