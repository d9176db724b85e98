-- What records in rising order hold.
use Rattle.std.specs.Prelude.{◌≡◌, ℕ, ◌≤◌, length, ◌+◌, ◌*◌, ◌%◌, ◌^◌, ◌<◌, Bool, true, false, cond, not, ◌&&◌, ◌||◌, List, [], ◌∷◌, Some, None, Option, ◌==◌, nat_le, nat_lt}
use Rattle.carrier.specs.Waits.{Waits}
use Rattle.carrier.specs.Counts.{earlier}
use Rattle.carrier.specs.declared.message.Held.{Held}
use Rattle.rack.specs.declared.entry.Entry.{Entry}

-- the key of a number and a station
abbrev pub key_of : ℕ → ℕ → ℕ
key_of n q = n * 256 + q

-- what is held under a key
abbrev pub held_under : {X : Type 0} → List (Entry X) → ℕ → Option (Held X)
held_under [] k = None
held_under (e ∷ es) k = cond (e.live && k == e.key) (Some e.held) (held_under es k)

-- what waits under a number for a station
unfoldable pub waiting : {X : Type 0} → List (Entry X) → Waits (Held X)
waiting es n q = cond (nat_lt q 256) (held_under es (key_of n q)) None

-- keys rise from b on, and each is a key of a number and a station
abbrev pub rising : {X : Type 0} → ℕ → List (Entry X) → Bool
rising b [] = nat_le b (2 ^ 40)
rising b (e ∷ es) = nat_le b e.key && rising (e.key + 1) es

-- how many records are live
abbrev pub lives : {X : Type 0} → List (Entry X) → ℕ
lives [] = 0
lives (e ∷ es) = cond e.live 1 0 + lives es

-- ticks sent never fall, from b on
abbrev pub steady : {X : Type 0} → ℕ → List (Entry X) → Bool
steady b [] = true
steady b (e ∷ es) = nat_le b e.held.sent && steady e.held.sent es

-- the last tick sent, or b where there is none
abbrev pub last_sent : {X : Type 0} → ℕ → List (Entry X) → ℕ
last_sent b [] = b
last_sent b (e ∷ es) = last_sent e.held.sent es

-- a record whose copy still waits
abbrev pub live : {X : Type 0} → Entry X → Bool
live e = e.live

-- a record whose copy was taken
abbrev pub dead : {X : Type 0} → Entry X → Bool
dead e = not e.live

-- whether a record comes before a key
abbrev pub before : {X : Type 0} → ℕ → Entry X → Bool
before k e = nat_lt e.key k

-- whether a record has the key, live or not
abbrev pub keyed : {X : Type 0} → ℕ → List (Entry X) → Bool
keyed k [] = false
keyed k (e ∷ es) = k == e.key || keyed k es

-- whether a live record stands before the first whose key is c or above
abbrev pub busy : {X : Type 0} → ℕ → List (Entry X) → Bool
busy c [] = false
busy c (e ∷ es) = nat_lt e.key c && (e.live || busy c es)

-- when a live record's copy was sent
abbrev pub sent_of : {X : Type 0} → Entry X → Option ℕ
sent_of e = cond e.live (Some e.held.sent) None

-- the earliest tick sent of the live records
abbrev pub soonest : {X : Type 0} → List (Entry X) → Option ℕ
soonest [] = None
soonest (e ∷ es) = earlier (sent_of e) (soonest es)

-- a rule by station and content answers each call as f does
abbrev pub Follows : {X : Type 0} → (ℕ → X → Option X → Type 0) → (ℕ → X → Option X) → Type 0
Follows {X} answers f = (q : ℕ) (v : X) (r : Option X) → q < 256 → answers q v r → r ≡ f q v

-- what a copy holds, with another content
abbrev pub with_content : {X : Type 0} → X → Held X → Held X
with_content v h = record { from = h.from; content = v; sent = h.sent }

-- a held copy with the content that a rule leaves of it, if any
abbrev pub left_of : {X : Type 0} → Held X → Option X → Option (Held X)
left_of h None = None
left_of h (Some v) = Some (with_content v h)

-- the same where there may be no copy
abbrev pub trimmed_held : {X : Type 0} → (ℕ → X → Option X) → ℕ → Option (Held X) → Option (Held X)
trimmed_held f q None = None
trimmed_held f q (Some h) = left_of h (f q h.content)

-- a record in front of others, with what is left of its content
abbrev pub onto : {X : Type 0} → Entry X → Option X → List (Entry X) → List (Entry X)
onto e None es = es
onto e (Some v) es = record { key = e.key; live = true; held = with_content v e.held } ∷ es

-- the live records, with what a rule leaves of each
abbrev pub sifted : {X : Type 0} → (ℕ → X → Option X) → List (Entry X) → List (Entry X)
sifted f [] = []
sifted f (e ∷ es) = cond e.live (onto e (f (e.key % 256) e.held.content) (sifted f es)) (sifted f es)

-- a record with what is left of its content
abbrev pub entry_left : {X : Type 0} → Entry X → Option X → Option (Entry X)
entry_left e None = None
entry_left e (Some v) = Some (record { key = e.key; live = true; held = with_content v e.held })

-- what a rule leaves of a record
abbrev pub rest_of : {X : Type 0} → (ℕ → X → Option X) → Entry X → Option (Entry X)
rest_of f e = cond e.live (entry_left e (f (e.key % 256) e.held.content)) None

-- another content for a held copy, or none
abbrev pub changed : {X : Type 0} → Option X → Option (Held X) → Option (Held X)
changed c None = None
changed c (Some h) = left_of h c

-- a live record with another content, or a dead one
abbrev pub changed_entry : {X : Type 0} → Entry X → Option X → Entry X
changed_entry e None = record { key = e.key; live = false; held = e.held }
changed_entry e (Some v) = record { key = e.key; live = true; held = with_content v e.held }

-- a copy at this place and tick goes on where the last one ended
pub record Continues {X : Type 0} (es : List (Entry X)) (i sent : ℕ) : Type 0 where
  pub end : i ≡ length es
  pub so_far : steady 0 es ≡ true
  pub next : last_sent 0 es ≤ sent
