-- What a station knows of the others: three sets, each a test on station numbers.
use Rattle.std.specs.Prelude.{ℕ, Bool, true}
use Rattle.stations.specs.Members.{nobody, either, only, put, how_many}
use Rattle.network.specs.declared.known.Known.{Known}

-- a set of stations
abbrev pub Set : Type 0
Set = ℕ → Bool

-- station numbers are below this, whatever the table's length
abbrev pub most_stations : ℕ
most_stations = 256

-- those entered and not left
abbrev pub present_count : Known Set → ℕ
present_count k = how_many (only k.entered k.left) most_stations

-- those joined and not left
abbrev pub member_count : Known Set → ℕ
member_count k = how_many (only k.joined k.left) most_stations

abbrev pub knows_nobody : Known Set
knows_nobody = record { entered = nobody; joined = nobody; left = nobody }

abbrev pub note_entered : ℕ → Known Set → Known Set
note_entered p k = record { entered = put k.entered p true; joined = k.joined; left = k.left }

abbrev pub note_joined : ℕ → Known Set → Known Set
note_joined p k = record { entered = k.entered; joined = put k.joined p true; left = k.left }

abbrev pub note_left : ℕ → Known Set → Known Set
note_left p k = record { entered = k.entered; joined = k.joined; left = put k.left p true }

-- each of the three sets with the other's
abbrev pub add_known : Known Set → Known Set → Known Set
add_known k l = record { entered = either k.entered l.entered; joined = either k.joined l.joined; left = either k.left l.left }
