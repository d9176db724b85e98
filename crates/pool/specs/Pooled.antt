-- What a record of a pool holds for each station.
use Rattle.std.specs.Prelude.{ℕ, Bool, true, cond, Some, None, Option, ◌==◌, nat_lt}
use Rattle.stations.specs.Members.{member, how_many, removed}
use Rattle.stations.specs.declared.Stations.{Stations}
use Rattle.carrier.specs.declared.message.Held.{Held}
use Rattle.pool.specs.declared.shared.Shared.{Shared}

-- a message to be kept for its receivers
abbrev pub shared_by : {X : Type 0} → Held X → Stations → Held (Shared X)
shared_by h to = record { from = h.from; content = record { content = h.content; to = to }; sent = h.sent }

-- what each receiver of a kept message finds
abbrev pub copy_of : {X : Type 0} → Held (Shared X) → Held X
copy_of h = record { from = h.from; content = h.content.content; sent = h.sent }

-- the copy for a station, where it still waits
abbrev pub opened : {X : Type 0} → Option (Held (Shared X)) → ℕ → Option (Held X)
opened None q = None
opened (Some h) q = cond (member h.content.to q) (Some (copy_of h)) None

-- for how many receivers a message still waits
abbrev pub waiters : {X : Type 0} → Shared X → ℕ
waiters v = how_many (member v.to) 256

-- a message without one receiver, or nothing where it was the last
unfoldable pub lesser : {X : Type 0} → ℕ → Shared X → Option (Shared X)
lesser q v =
    cond (how_many (member (removed v.to q)) 256 == 0) None (Some (record { content = v.content; to = removed v.to q }))

-- a message that is kept still waits for someone
abbrev pub wanted : {X : Type 0} → Option (Held (Shared X)) → Bool
wanted None = true
wanted (Some h) = nat_lt 0 (waiters h.content)
