-- Numbers stay small: at every place of every run, each number is far inside the type that code keeps it in.
use Rattle.std.specs.Prelude.{◌≡◌, ℕ, ◌+◌, ◌*◌, ◌<◌, ◌≤◌, true, List, length, Some, slice_get}
use Rattle.network.specs.declared.content.Content.{Content}
use Rattle.network.specs.declared.content.Content.TheVariants.{Enter, EnterEcho, Joined, JoinedEcho, Leave, LeaveEcho, Query, Response, Update, Ack, UpdateEcho}
use Rattle.network.specs.declared.entry.Entry.{Entry}
use Rattle.network.specs.declared.operation.Operation.{Operation}
use Rattle.network.specs.declared.operation.Operation.TheVariants.{Idle, PhaseOne, PhaseTwo}
use Rattle.network.specs.declared.poll.Poll.{Poll}
use Rattle.network.specs.declared.register.Register.{Register}
use Rattle.network.specs.declared.station.Station.{Station}
use Rattle.network.specs.declared.step.Step.{Step}
use Rattle.network.specs.Keeping.{is_used, active}
use Rattle.network.specs.Knowing.{Set, most_stations}
use Rattle.network.specs.Refusals.{last_tick, last_number}
use Rattle.network.specs.Runs.{state_at, AdmittedStart}
use Rattle.network.specs.States.{Copy, Setup, State}

-- at most one for each message number
abbrev pub most_messages : ℕ
most_messages = last_number + 1

-- a poll, in a run with so many places in its log: its tag, the base of its quorum, and its replies
abbrev pub SmallPoll : ℕ → Poll → Type 0
SmallPoll places poll = (poll.tag ≤ places) × (poll.base ≤ most_stations) × (poll.replies ≤ most_messages)

module _ {R : Type 0} where
  -- an operation: its tag, and its poll
  abbrev pub SmallOperation : ℕ → Operation R → Type 0
  SmallOperation places (Idle tag) = tag ≤ places
  SmallOperation places (PhaseOne task poll) = SmallPoll places poll
  SmallOperation places (PhaseTwo kind poll kept) = SmallPoll places poll

  -- the count of a stamp
  abbrev pub SmallStamp : ℕ → Register R → Type 0
  SmallStamp places v = v.stamp.count ≤ places

  pub record SmallStation (places : ℕ) (x : Station R Set) : Type 0 where
    pub echoes : x.echoes ≤ most_messages
    pub bound : (b : ℕ) → x.bound ≡ Some b → b ≤ most_stations
    pub operation : SmallOperation places x.operation
    pub stamp : SmallStamp places x.register

  -- the stamp that a message holds
  abbrev pub SmallContent : ℕ → Content R Set → Type 0
  SmallContent places (Enter p) = Unit {0}
  SmallContent places (EnterEcho known offer f p) = SmallStamp places offer
  SmallContent places (Joined p) = Unit {0}
  SmallContent places (JoinedEcho p) = Unit {0}
  SmallContent places (Leave p) = Unit {0}
  SmallContent places (LeaveEcho p) = Unit {0}
  SmallContent places (Query p tag) = Unit {0}
  SmallContent places (Response offer tag) = SmallStamp places offer
  SmallContent places (Update offer tag p) = SmallStamp places offer
  SmallContent places (Ack tag) = Unit {0}
  SmallContent places (UpdateEcho offer) = SmallStamp places offer

  pub record SmallEntry (e : Entry R) : Type 0 where
    pub station : e.station < most_stations
    pub begin : e.begin ≤ last_tick
    pub end : (t : ℕ) → e.end ≡ Some t → t ≤ last_tick
    pub replies_one : e.replies_one ≤ most_messages
    pub replies_two : e.replies_two ≤ most_messages

  -- every number of a state
  pub record Small (u : Setup R) (s : State R) : Type 0 where
    pub clock : s.clock ≤ last_tick
    pub next : s.next ≤ most_messages
    -- arrivals and departures in the present tick: each number is entered once and leaves once
    pub moves : s.book.moves ≤ 2 * most_stations
    -- who was ever used has a number of the table
    pub used : (q : ℕ) → is_used (s.stations q).life ≡ true → q < u.table
    pub stations : (q : ℕ) → SmallStation u.places (s.stations q)
    -- what waits has a number below the next, and waits for one who is active
    pub waiting : (n q : ℕ) (c : Copy R) → s.waits n q ≡ Some c → (n < s.next) × (active (s.stations q) ≡ true) × SmallContent u.places c.content
    pub log : length s.log.entries ≤ u.places
    pub entries : (x : ℕ) (e : Entry R) → slice_get s.log.entries x ≡ Some e → SmallEntry e

-- at every place of every run
abbrev pub NumbersStaySmall : Type 0 → Type 0
NumbersStaySmall R = (u : Setup R) (k : ℕ) (xs : List (Step R)) → AdmittedStart u k → (i : ℕ) → Small u (state_at u k xs i)
