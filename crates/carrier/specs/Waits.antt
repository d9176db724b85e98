-- What waits in a carrier: a function from message number and receiver to the copy.
use Rattle.std.specs.Prelude.{◌≡◌, ℕ, Bool, true, false, cond, ◌&&◌, Some, None, Ok, Err, Option, Result, ◌==◌}
use Rattle.stations.specs.Members.{member}
use Rattle.carrier.specs.declared.fault.CarrierFault.{CarrierFault}
use Rattle.carrier.specs.declared.fault.CarrierFault.TheVariants.{NotWaiting, NoRoom}
use Rattle.carrier.specs.declared.message.Held.{Held}
use Rattle.carrier.specs.declared.message.Post.{Post}

abbrev pub Waits : Type 0 → Type 0
Waits X = ℕ → ℕ → Option X

-- nothing waits
abbrev pub nothing : {X : Type 0} → Waits X
nothing m q = None

-- what waits in the first waits in the second
abbrev pub Within : {X : Type 0} → Waits X → Waits X → Type 0
Within {X} v w = (m q : ℕ) (x : X) → v m q ≡ Some x → w m q ≡ Some x

-- whether two numbers and receivers are the same
abbrev pub same : ℕ → ℕ → ℕ → ℕ → Bool
same n p m q = n == m && p == q

-- another copy, or none, under one number for one receiver
unfoldable pub at : {X : Type 0} → ℕ → ℕ → Option X → Waits X → Waits X
at m q o w n p = cond (same n p m q) o (w n p)

-- all but one copy
abbrev pub without : {X : Type 0} → ℕ → ℕ → Waits X → Waits X
without m q w = at m q None w

-- all but the copies for one station
unfoldable pub except : {X : Type 0} → ℕ → Waits X → Waits X
except q w n p = cond (p == q) None (w n p)

-- a copy more under a number for each station that passes the test
unfoldable pub sent_to : {X : Type 0} → (ℕ → Bool) → ℕ → X → Waits X → Waits X
sent_to f n x w m q = cond (m == n && f q) (Some x) (w m q)

-- a copy more for each receiver of a message
abbrev pub posted : {X : Type 0} → Post X → Waits (Held X) → Waits (Held X)
posted p w = sent_to (member p.to) p.number p.held w

-- what a take answers
abbrev pub found : {X : Type 0} → Option X → Result X CarrierFault
found (Some x) = Ok x
found None = Err NotWaiting

-- what a post answers, by whether the message fits
abbrev pub fitted : Bool → Result (Unit {0}) CarrierFault
fitted true = Ok tt
fitted false = Err NoRoom

-- what waits after a post, by whether the message fits
abbrev pub after_post : {X : Type 0} → Bool → Post X → Waits (Held X) → Waits (Held X)
after_post b p w = cond b (posted p w) w
