-- What a station becomes on hearing a message.
use Rattle.std.specs.Prelude.{ℕ, ◌+◌, ◌*◌, Bool, false, cond, not, ◌&&◌, Some, None, Option, ◌==◌, nat_le}
use Rattle.settings.specs.declared.choice.Choice.{Choice}
use Rattle.network.specs.declared.content.Content.{Content}
use Rattle.network.specs.declared.content.Content.TheVariants.{Enter, EnterEcho, Joined, JoinedEcho, Leave, LeaveEcho, Query, Response, Update, Ack, UpdateEcho}
use Rattle.network.specs.declared.known.Known.{Known}
use Rattle.network.specs.declared.operation.Kind.{Kind}
use Rattle.network.specs.declared.operation.Kind.TheVariants as kind
use Rattle.network.specs.declared.operation.Operation.{Operation}
use Rattle.network.specs.declared.operation.Operation.TheVariants.{Idle, PhaseOne, PhaseTwo}
use Rattle.network.specs.declared.operation.Task.{Task}
use Rattle.network.specs.declared.operation.Task.TheVariants as task
use Rattle.network.specs.declared.register.Register.{Register}
use Rattle.network.specs.declared.station.Station.{Station}
use Rattle.network.specs.Keeping.{with_joined, with_known, with_register, with_echoes, with_operation}
use Rattle.network.specs.Knowing.{Set, present_count, member_count, note_entered, note_joined, note_left, add_known}
use Rattle.network.specs.Polls.{new_poll, with_reply, quorum}
use Rattle.network.specs.Stamps.{newer, next_stamp}

-- echoes are enough to join, once a bound is set: 100 × echoes ≥ γ × bound
abbrev pub enough_echoes : Choice → ℕ → Option ℕ → Bool
enough_echoes c echoes None = false
enough_echoes c echoes (Some bound) = nat_le (c.gamma * bound) (100 * echoes)

-- the bound is set once, by an echo of a sender that had joined
abbrev pub bound_after : Bool → ℕ → Option ℕ → Option ℕ
bound_after sender_joined present (Some b) = Some b
bound_after sender_joined present None = cond sender_joined (Some present) None

abbrev pub kind_of : {R : Type 0} → Task R → Kind
kind_of task.Read = kind.Read
kind_of (task.Write r) = kind.Write

-- what a station holds as phase two begins: a write's record under the writer's next stamp
abbrev pub kept_register : {R : Type 0} → ℕ → Task R → Register R → Register R
kept_register me task.Read v = v
kept_register me (task.Write r) v = record { value = r; stamp = next_stamp me v.stamp }

module _ {R : Type 0} where
  -- the offer is taken
  abbrev pub take_offer : Register R → Station R Set → Station R Set
  take_offer offer x = with_register (newer offer x.register) x

  -- p is noted entered and joined
  abbrev pub hear_joined : ℕ → Station R Set → Station R Set
  hear_joined p x = with_known (note_joined p (note_entered p x.known)) x

  -- a station joins: it notes itself joined
  abbrev pub join : ℕ → Station R Set → Station R Set
  join me x = with_joined (with_known (note_joined me x.known) x)

  -- an echo of its own entry: it is counted, sets the bound where it may, and then lets it join where there are enough
  abbrev pub count_echo : Choice → ℕ → Bool → Station R Set → Station R Set
  count_echo c me sender_joined x =
      let y = with_echoes (x.echoes + 1) (bound_after sender_joined (present_count x.known) x.bound) x in
      cond (enough_echoes c y.echoes y.bound) (join me y) y

  -- the sets are added and the offer is taken; the rest is for the station that entered, while it has not joined
  abbrev pub hear_echo : Choice → ℕ → Known Set → Register R → Bool → ℕ → Station R Set → Station R Set
  hear_echo c me known offer sender_joined of x =
      let y = take_offer offer (with_known (add_known x.known known) x) in
      cond (of == me && not x.joined) (count_echo c me sender_joined y) y

  -- phase two begins with its kept record, the base of the members now known, and no replies
  abbrev pub begin_two : ℕ → Task R → ℕ → Station R Set → Station R Set
  begin_two me t tag x =
      let v = kept_register me t x.register in
      with_operation (PhaseTwo (kind_of t) (new_poll tag (member_count x.known)) v.value) (with_register v x)

  -- a response counts in phase one with an equal tag: the offer is taken, and replies rise by 1
  abbrev pub count_response : Choice → ℕ → Register R → ℕ → Operation R → Station R Set → Station R Set
  count_response c me offer tag (Idle own) x = x
  count_response c me offer tag (PhaseTwo k poll kept) x = x
  count_response c me offer tag (PhaseOne t poll) x =
      let y = take_offer offer x in
      cond (tag == poll.tag) (cond (quorum c (with_reply poll)) (begin_two me t poll.tag y) (with_operation (PhaseOne t (with_reply poll)) y)) x

  -- an ack counts in phase two with an equal tag: at a quorum the operation ends
  abbrev pub count_ack : Choice → ℕ → Operation R → Station R Set → Station R Set
  count_ack c tag (Idle own) x = x
  count_ack c tag (PhaseOne t poll) x = x
  count_ack c tag (PhaseTwo k poll kept) x =
      cond (tag == poll.tag) (cond (quorum c (with_reply poll)) (with_operation (Idle poll.tag) x) (with_operation (PhaseTwo k (with_reply poll) kept) x)) x

  -- what station `me` becomes on each of the eleven messages
  unfoldable pub hear : Choice → ℕ → Content R Set → Station R Set → Station R Set
  hear c me (Enter p) x = with_known (note_entered p x.known) x
  hear c me (EnterEcho known offer sender_joined p) x = hear_echo c me known offer sender_joined p x
  hear c me (Joined p) x = hear_joined p x
  hear c me (JoinedEcho p) x = hear_joined p x
  hear c me (Leave p) x = with_known (note_left p x.known) x
  hear c me (LeaveEcho p) x = with_known (note_left p x.known) x
  hear c me (Query p tag) x = x
  hear c me (Response offer tag) x = count_response c me offer tag x.operation x
  hear c me (Update offer tag p) x = take_offer offer x
  hear c me (Ack tag) x = count_ack c tag x.operation x
  hear c me (UpdateEcho offer) x = take_offer offer x
