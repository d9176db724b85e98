-- Requests, apart from runs: to be let in, to give one's record, to take a record. Which content asks, which replies, whether
-- a station still awaits replies, how many it has counted, and what share of its bound or base ends the wait.
use Rattle.std.proofs.Common.{ℕ, ◌*◌, Bool, true, false, not, ◌&&◌, eqb, is_some}
use Rattle.settings.specs.declared.choice.Choice.{Choice}
use Rattle.network.specs.declared.content.Content.{Content}
use Rattle.network.specs.declared.content.Content.TheVariants.{Enter, EnterEcho, Joined, JoinedEcho, Leave, LeaveEcho, Query, Response, Update, Ack, UpdateEcho}
use Rattle.network.specs.declared.operation.Operation.{Operation}
use Rattle.network.specs.declared.operation.Operation.TheVariants.{Idle, PhaseOne, PhaseTwo}
use Rattle.network.specs.declared.station.Station.{Station}
use Rattle.network.specs.Knowing.{Set}
use Rattle.runs.proofs.SmallNumbers.{replies_of, base_of, bound_of}

-- to be let in; or, in the operation of a tag, for records, or to take one
pub data Request : Type 0 where
  entry : Request
  query update : ℕ → Request

abbrev pub is_entry : Request → Bool
is_entry entry = true
is_entry (query t) = false
is_entry (update t) = false

abbrev pub is_query : ℕ → Request → Bool
is_query tag entry = false
is_query tag (query t) = eqb tag t
is_query tag (update t) = false

abbrev pub is_update : ℕ → Request → Bool
is_update tag entry = false
is_update tag (query t) = false
is_update tag (update t) = eqb tag t

-- in phase one, or in phase two, of this tag
abbrev pub in_one : {R : Type 0} → ℕ → Operation R → Bool
in_one t (Idle tag) = false
in_one t (PhaseOne task poll) = eqb poll.tag t
in_one t (PhaseTwo kind poll kept) = false

abbrev pub in_two : {R : Type 0} → ℕ → Operation R → Bool
in_two t (Idle tag) = false
in_two t (PhaseOne task poll) = false
in_two t (PhaseTwo kind poll kept) = eqb poll.tag t

module _ {R : Type 0} where
  -- p asks r by this content
  abbrev pub asks : ℕ → Request → Content R Set → Bool
  asks p r (Enter of) = is_entry r && eqb of p
  asks p r (EnterEcho known offer f of) = false
  asks p r (Joined of) = false
  asks p r (JoinedEcho of) = false
  asks p r (Leave of) = false
  asks p r (LeaveEcho of) = false
  asks p r (Query asker tag) = is_query tag r && eqb asker p
  asks p r (Response offer tag) = false
  asks p r (Update offer tag asker) = is_update tag r && eqb asker p
  asks p r (Ack tag) = false
  asks p r (UpdateEcho offer) = false

  -- this content, to p, replies to its request r
  abbrev pub replies : ℕ → Request → Content R Set → Bool
  replies p r (Enter of) = false
  replies p r (EnterEcho known offer f of) = is_entry r && eqb of p
  replies p r (Joined of) = false
  replies p r (JoinedEcho of) = false
  replies p r (Leave of) = false
  replies p r (LeaveEcho of) = false
  replies p r (Query asker tag) = false
  replies p r (Response offer tag) = is_query tag r
  replies p r (Update offer tag asker) = false
  replies p r (Ack tag) = is_update tag r
  replies p r (UpdateEcho offer) = false

  -- the station still counts replies to r
  abbrev pub awaits : Station R Set → Request → Bool
  awaits x entry = not x.joined
  awaits x (query t) = in_one t x.operation
  awaits x (update t) = in_two t x.operation

  -- how many it has counted
  abbrev pub tally : Station R Set → Request → ℕ
  tally x entry = x.echoes
  tally x (query t) = replies_of x.operation
  tally x (update t) = replies_of x.operation

  -- the wait can end: a bound is set, or it is a phase, which has its base
  abbrev pub is_set : Station R Set → Request → Bool
  is_set x entry = is_some x.bound
  is_set x (query t) = true
  is_set x (update t) = true

  -- a hundred times the tally has to come to this
  abbrev pub goal : Choice → Station R Set → Request → ℕ
  goal c x entry = c.gamma * bound_of x.bound
  goal c x (query t) = c.beta * base_of x.operation
  goal c x (update t) = c.beta * base_of x.operation
