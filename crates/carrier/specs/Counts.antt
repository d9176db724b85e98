-- How many copies and messages wait, what fits beside them, and which tick sent is the earliest.
use Rattle.std.specs.Prelude.{◌≡◌, ℕ, zero, suc, ◌+◌, ◌^◌, ◌≤◌, min, Bool, true, false, cond, not, ◌&&◌, ◌||◌, List, [], ◌∷◌, is_some, Some, None, Option, ◌==◌, nat_le, nat_lt}
use Rattle.stations.specs.Members.{member, how_many}
use Rattle.carrier.specs.Waits.{Waits}
use Rattle.carrier.specs.declared.message.Held.{Held}
use Rattle.carrier.specs.declared.message.Post.{Post}

-- f 0 + .. + f (n - 1)
unfoldable pub total : (ℕ → ℕ) → ℕ → ℕ
total f zero = 0
total f (suc n) = total f n + f n

-- how many copies of one message wait
unfoldable pub under : {X : Type 0} → Waits X → ℕ → ℕ
under w n = how_many (λ q. is_some (w n q)) 256

-- how many receivers a message has
unfoldable pub receivers : {X : Type 0} → Post X → ℕ
receivers p = how_many (member p.to) 256

-- what a message costs by its copies, where a record holds one copy
abbrev pub by_copy : ℕ → ℕ
by_copy c = c

-- the same where a record holds a whole message
abbrev pub by_message : ℕ → ℕ
by_message c = min c 1

-- the records that what waits takes, over every message number
unfoldable pub load : {X : Type 0} → (ℕ → ℕ) → Waits X → ℕ
load cost w = total (λ n. cost (under w n)) (2 ^ 32)

-- how many copies wait
abbrev pub copies : {X : Type 0} → Waits X → ℕ
copies w = load by_copy w

-- how many messages wait
abbrev pub messages : {X : Type 0} → Waits X → ℕ
messages w = load by_message w

-- the records that new messages take
abbrev pub extra : {X : Type 0} → (ℕ → ℕ) → List (Post X) → ℕ
extra cost [] = 0
extra cost (p ∷ ps) = cost (receivers p) + extra cost ps

-- whether one of the messages has a receiver and the number n
abbrev pub given : {X : Type 0} → ℕ → List (Post X) → Bool
given n [] = false
given n (p ∷ ps) = (nat_lt 0 (receivers p) && n == p.number) || given n ps

-- no message with a receiver has a number that waits or is given twice
abbrev pub fresh : {X Y : Type 0} → Waits X → List (Post Y) → Bool
fresh w [] = true
fresh w (p ∷ ps) = (receivers p == 0 || (under w p.number == 0 && not (given p.number ps))) && fresh w ps

-- the room rule of k records, by what a message costs
unfoldable pub fits : {X Y : Type 0} → (ℕ → ℕ) → ℕ → Waits X → List (Post Y) → Bool
fits cost k w ps = nat_le (load cost w + extra cost ps) k && fresh w ps

-- the messages that have a receiver
abbrev pub heard : {X : Type 0} → List (Post X) → List (Post X)
heard [] = []
heard (p ∷ ps) = cond (nat_lt 0 (receivers p)) (p ∷ heard ps) (heard ps)

-- what one step posts: a message to any stations, before it at most one to a single station
abbrev pub StepSized : {X : Type 0} → List (Post X) → Type 0
StepSized [] = Unit {0}
StepSized (p ∷ []) = Unit {0}
StepSized (p ∷ q ∷ []) = (receivers p ≤ 1) × ((p.number == q.number) ≡ false)
StepSized (p ∷ q ∷ r ∷ ps) = ⊥

-- the lesser of two ticks, where there is one
abbrev pub earlier : Option ℕ → Option ℕ → Option ℕ
earlier None o = o
earlier (Some a) None = Some a
earlier (Some a) (Some b) = Some (min a b)

-- the least of f 0, .., f (n - 1), where there is one
unfoldable pub least : (ℕ → Option ℕ) → ℕ → Option ℕ
least f zero = None
least f (suc n) = earlier (least f n) (f n)

-- when a copy was sent
abbrev pub when : {X : Type 0} → Option (Held X) → Option ℕ
when None = None
when (Some x) = Some x.sent

-- the earliest tick sent that waits
unfoldable pub earliest : {X : Type 0} → Waits (Held X) → Option ℕ
earliest w = least (λ n. least (λ q. when (w n q)) 256) (2 ^ 32)
