-- Stamps: their order, the first one, the next one of a writer, and taking an offer.
use Rattle.std.specs.Prelude.{ℕ, ◌+◌, Bool, cond, ◌&&◌, ◌||◌, Some, None, Option, ◌==◌, nat_lt}
use Rattle.network.specs.declared.register.Register.{Register}
use Rattle.network.specs.declared.stamp.Stamp.{Stamp}

-- no writer is below every station
abbrev pub writer_rank : Option ℕ → ℕ
writer_rank None = 0
writer_rank (Some p) = p + 1

-- the first stamp is higher than the second: by count, then by writer
unfoldable pub higher : Stamp → Stamp → Bool
higher a b = nat_lt b.count a.count || (a.count == b.count && nat_lt (writer_rank b.writer) (writer_rank a.writer))

abbrev pub first_stamp : Stamp
first_stamp = record { count = 0; writer = None }

-- the stamp that a writer makes after a stamp
abbrev pub next_stamp : ℕ → Stamp → Stamp
next_stamp p s = record { count = s.count + 1; writer = Some p }

abbrev pub first_register : {R : Type 0} → R → Register R
first_register r = record { value = r; stamp = first_stamp }

-- an offer is taken, record and stamp, if its stamp is higher
unfoldable pub newer : {R : Type 0} → Register R → Register R → Register R
newer offer held = cond (higher offer.stamp held.stamp) offer held
