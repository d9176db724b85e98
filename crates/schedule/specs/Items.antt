-- What a schedule record says, with its record bytes as a list.
use Rattle.std.specs.Prelude.{ℕ, List}
use Rattle.records.specs.declared.class.Class.{Class}
use Rattle.settings.specs.declared.choice.Choice.{Choice}
use Rattle.schedule.specs.declared.Record.{Record}
use Rattle.schedule.specs.declared.Record.TheVariants as shape
use Rattle.schedule.specs.declared.Placed.{Placed}

pub data Item : Type 0 where
  settings : Choice → Item
  -- class, length of the table, stations present, first record
  start : Class → ℕ → ℕ → List ℕ → Item
  tick : Item
  enter : ℕ → Item
  leave : ℕ → Item
  crash : ℕ → Item
  read : ℕ → Item
  -- station, record
  write : ℕ → List ℕ → Item
  -- message, station
  deliver : ℕ → ℕ → Item

-- an item and the byte offset of its schedule record
pub record PlacedItem : Type 0 where
  pub at : ℕ
  pub item : Item

-- what a value of the code says
abbrev pub shown : Record → Item
shown (shape.Settings c) = settings c
shown (shape.Start s) = start s.class s.table s.present s.first.now
shown shape.Tick = tick
shown (shape.Enter p) = enter p
shown (shape.Leave p) = leave p
shown (shape.Crash p) = crash p
shown (shape.Read p) = read p
shown (shape.Write p r) = write p r.now
shown (shape.Deliver m p) = deliver m p

abbrev pub shown_placed : Placed → PlacedItem
shown_placed p = record { at = p.at; item = shown p.item }
