-- What waits in a pool.
use Rattle.std.specs.Prelude.{◌≡◌, ℕ, suc, true, false, is_some}
use Rattle.carrier.specs.Waits.{Waits}
use Rattle.carrier.specs.declared.message.Held.{Held}
use Rattle.rack.specs.Racks.{stored}
use Rattle.rack.specs.declared.rack.Rack.{Rack}
use Rattle.pool.specs.declared.shared.Shared.{Shared}
use Rattle.pool.specs.Pooled.{opened, wanted}

-- the copy under a number for a receiver
unfoldable pub pooled : {X : Type 0} → Rack (Shared X) → Waits (Held X)
pooled r n q = opened (stored r n 0) q

-- messages are kept under their number and no station
abbrev pub Whole : {X : Type 0} → Rack (Shared X) → Type 0
Whole r = (n q : ℕ) → is_some (stored r n (suc q)) ≡ false

-- every message that is kept still waits for someone
abbrev pub Wanted : {X : Type 0} → Rack (Shared X) → Type 0
Wanted r = (n : ℕ) → wanted (stored r n 0) ≡ true
