-- The limit book: arrivals and departures of the last ticks, and how many stations were present when each ended.
use Rattle.std.specs.Prelude.{ℕ, ◌+◌, ◌*◌, Bool, true, ◌&&◌, List, [], ◌∷◌, take, nat_le, nat_lt}

-- a tick that has ended
pub record Row : Type 0 where
  -- arrivals and departures in it
  pub moves : ℕ
  -- stations present when it ended
  pub present : ℕ

pub record Book : Type 0 where
  -- arrivals and departures in the present tick
  pub moves : ℕ
  -- the last ticks, the newest first, at most as many as a message may be delayed
  pub past : List Row

abbrev pub new_book : Book
new_book = record { moves = 0; past = [] }

-- one arrival or departure more
abbrev pub with_move : Book → Book
with_move b = record { moves = b.moves + 1; past = b.past }

-- the present tick ends with so many stations present, and the last d ticks are kept
abbrev pub end_tick : ℕ → ℕ → Book → Book
end_tick d present b = record { moves = 0; past = take d (record { moves = b.moves; present = present } ∷ b.past) }

-- n arrivals and departures since the newest of these ticks ended, and so on back: 100 × n ≤ α × present for each
unfoldable pub within_churn : ℕ → ℕ → List Row → Bool
within_churn alpha n [] = true
within_churn alpha n (r ∷ rs) = nat_le (100 * n) (alpha * r.present) && within_churn alpha (n + r.moves) rs

-- an arrival or departure is allowed at this clock: never in tick 0, and this one counted
abbrev pub allows : ℕ → ℕ → Book → Bool
allows alpha clock b = nat_lt 0 clock && within_churn alpha (b.moves + 1) b.past

-- the share of crashed stations among those present
abbrev pub crashed_share : ℕ → ℕ → ℕ → Bool
crashed_share delta crashed present = nat_le (100 * crashed) (delta * present)
