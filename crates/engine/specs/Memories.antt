-- What memory shows: the state of a network, and what its run is set up with.
use Rattle.std.specs.Prelude.{◌≡◌, ℕ, ◌+◌, ◌≤◌, List, length, map, take, drop, slice_index_or, slice_set, Some, None, Ok, Err, Result}
use Rattle.carrier.specs.Laws.{Room as RoomRule}
use Rattle.carrier.specs.Waits.{Waits}
use Rattle.carrier.specs.declared.message.Held.{Held}
use Rattle.stations.specs.Members.{member}
use Rattle.stations.specs.declared.Stations.{Stations}
use Rattle.network.specs.declared.content.Content.{Content}
use Rattle.network.specs.declared.station.Station.{Station}
use Rattle.network.specs.Keeping.{is_present, active, unused_station}
use Rattle.network.specs.Knowing.{Set, most_stations}
use Rattle.network.specs.Refusals.{Test, last_number}
use Rattle.network.specs.Shown.{shown}
use Rattle.network.specs.declared.fault.StepFault.{StepFault}
use Rattle.network.specs.States.{Setup, State}
use Rattle.book.specs.Rings.{book_of}
use Rattle.operation_log.specs.Entries.{log_of, places, SameMemory}
use Rattle.engine.specs.declared.memory.Memory.{Memory}
use Rattle.engine.specs.Copies.{shown_waits, shown_room}

-- the stations by number: beyond the table none is used
abbrev pub stations_of : {R : Type 0} → R → List (Station R Stations) → ℕ → Station R Set
stations_of first xs p = slice_index_or (map shown xs) p (unused_station first)

-- one station is changed, as f changes what is shown of it
pub record Turned {R : Type 0} (q : ℕ) (f : Station R Set → Station R Set) (old new : List (Station R Stations)) : Type 0 where
  pub to : Station R Stations
  pub put : new ≡ slice_set old q to
  pub shows : (d : Station R Stations) → shown to ≡ f (shown (slice_index_or old q d))

module _ {R C : Type 0} where
  -- the stations of the table
  abbrev pub table_of : Memory R C → List (Station R Stations)
  table_of m = take m.table m.stations.now

  abbrev pub state_of : (C → Waits (Held (Content R Stations))) → Memory R C → State R
  state_of waits m = record {
    stations = stations_of m.first (table_of m);
    waits = shown_waits (waits m.carrier);
    next = m.next;
    log = log_of m.log;
    book = book_of m.book;
    clock = m.clock;
  }

  abbrev pub setup_of : (C → RoomRule (Content R Stations)) → Memory R C → Setup R
  setup_of room m = record {
    choice = m.settings.choice;
    table = m.table;
    first = m.first;
    room = shown_room (room m.carrier);
    places = places m.log;
  }

  -- what is kept beside the stations agrees with them, and the limit book with the settings
  pub record Kept (m : Memory R C) : Type 0 where
    pub present : (p : ℕ) → member m.present p ≡ is_present (stations_of m.first (table_of m) p).life
    pub active : (p : ℕ) → member m.active p ≡ active (stations_of m.first (table_of m) p)
    pub delay : m.book.delay ≡ m.settings.choice.d
    pub next : m.next ≤ last_number + 1
    pub table : (m.table ≤ most_stations) × (m.table ≤ length m.stations.now)

  -- the memory that is lent stays lent, and past the table and the entries that are opened it is as it was
  pub record SameLoans (old new : Memory R C) : Type 0 where
    pub rest : drop old.table new.stations.now ≡ drop old.table old.stations.now
    pub size : length new.stations.now ≡ length old.stations.now
    pub named : new.stations.ghost_name ≡ old.stations.ghost_name
    pub log : SameMemory old.log new.log

-- what is told of a test: x where it is passed, else the fault
abbrev pub passed_with : {A : Type 0} → A → Test → Result A StepFault
passed_with x None = Ok x
passed_with x (Some f) = Err f

abbrev pub passed : Test → Result (Unit {0}) StepFault
passed t = passed_with tt t
