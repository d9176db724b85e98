-- The state of a network, what a run is set up with, and a new run.
use Rattle.std.specs.Prelude.{ℕ, Bool, cond, ◌&&◌, List, nat_lt}
use Rattle.carrier.specs.declared.message.Held.{Held}
use Rattle.carrier.specs.Waits.{Waits, nothing}
use Rattle.settings.specs.declared.choice.Choice.{Choice}
use Rattle.stations.specs.Members.{how_many}
use Rattle.network.specs.declared.content.Content.{Content}
use Rattle.network.specs.declared.station.Station.{Station}
use Rattle.network.specs.Books.{Book, new_book}
use Rattle.network.specs.Keeping.{is_present, active, unused_station, founder}
use Rattle.network.specs.Knowing.{Set, most_stations}
use Rattle.network.specs.Logs.{Log, new_log}

-- a copy's sender, content and tick sent
abbrev pub Copy : Type 0 → Type 0
Copy R = Held (Content R Set)

-- a message that is to be posted: its number, its receivers, and what each of them is to find
pub record Mail (R : Type 0) : Type 0 where
  pub number : ℕ
  pub to : Set
  pub copy : Copy R

-- a room rule: whether messages fit beside the copies that wait, all together
abbrev pub Room : Type 0 → Type 0
Room R = Waits (Copy R) → List (Mail R) → Bool

-- what a run is set up with
pub record Setup (R : Type 0) : Type 0 where
  pub choice : Choice
  -- the length of the table
  pub table : ℕ
  -- the first record
  pub first : R
  pub room : Room R
  -- how many entries the log has
  pub places : ℕ

pub record State (R : Type 0) : Type 0 where
  pub stations : ℕ → Station R Set
  -- the copies that wait, by message number and receiver
  pub waits : Waits (Copy R)
  -- the next message number
  pub next : ℕ
  pub log : Log R
  pub book : Book
  pub clock : ℕ

module _ {R : Type 0} where
  -- stations 0 to k - 1 are present and joined, the rest of the table is unused
  abbrev pub new_run : Setup R → ℕ → State R
  new_run u k = record {
    stations = λ p. cond (nat_lt p k) (founder u.first k) (unused_station u.first);
    waits = nothing;
    next = 0;
    log = new_log;
    book = new_book;
    clock = 0;
  }

  -- who is present
  abbrev pub present_set : State R → Set
  present_set s p = is_present (s.stations p).life

  -- who is present and crashed
  abbrev pub crashed_set : State R → Set
  crashed_set s p = is_present (s.stations p).life && (s.stations p).crashed

  -- who is present and not crashed
  abbrev pub active_set : State R → Set
  active_set s p = active (s.stations p)

  abbrev pub present_total : State R → ℕ
  present_total s = how_many (present_set s) most_stations

  abbrev pub crashed_total : State R → ℕ
  crashed_total s = how_many (crashed_set s) most_stations

  abbrev pub with_stations : (ℕ → Station R Set) → State R → State R
  with_stations st s = record { stations = st; waits = s.waits; next = s.next; log = s.log; book = s.book; clock = s.clock }

  abbrev pub with_waits : Waits (Copy R) → State R → State R
  with_waits w s = record { stations = s.stations; waits = w; next = s.next; log = s.log; book = s.book; clock = s.clock }

  abbrev pub with_log : Log R → State R → State R
  with_log l s = record { stations = s.stations; waits = s.waits; next = s.next; log = l; book = s.book; clock = s.clock }

  abbrev pub with_book : Book → State R → State R
  with_book b s = record { stations = s.stations; waits = s.waits; next = s.next; log = s.log; book = b; clock = s.clock }
