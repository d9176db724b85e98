-- What a rack holds.
use Rattle.std.specs.Prelude.{ℕ, Bool, not, ◌&&◌, List, length, take, is_some, nat_lt}
use Rattle.carrier.specs.Waits.{Waits}
use Rattle.carrier.specs.Counts.{copies}
use Rattle.carrier.specs.declared.message.Held.{Held}
use Rattle.rack.specs.declared.entry.Entry.{Entry}
use Rattle.rack.specs.declared.rack.Rack.{Rack}
use Rattle.rack.specs.Entries.{waiting}

-- the records in use
abbrev pub kept : {X : Type 0} → Rack X → List (Entry X)
kept r = take r.len r.records.now

-- the copy that is held under a number for a station
unfoldable pub stored : {X : Type 0} → Rack X → Waits (Held X)
stored r = waiting (kept r)

-- how many records were lent
unfoldable pub capacity : {X : Type 0} → Rack X → ℕ
capacity r = length r.records.now

-- whether one more copy may be held there
abbrev pub spare : {X : Type 0} → Rack X → ℕ → ℕ → Bool
spare r n q = not (is_some (stored r n q)) && nat_lt (copies (stored r)) (capacity r)
