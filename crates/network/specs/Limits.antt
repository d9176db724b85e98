-- Which numbers can rise by one: they are kept in four bytes.
use Rattle.std.specs.Prelude.{ℕ, Bool, true, ◌&&◌, nat_lt}
use Rattle.network.specs.declared.content.Content.{Content}
use Rattle.network.specs.declared.content.Content.TheVariants.{Enter, EnterEcho, Joined, JoinedEcho, Leave, LeaveEcho, Query, Response, Update, Ack, UpdateEcho}
use Rattle.network.specs.declared.operation.Operation.{Operation}
use Rattle.network.specs.declared.operation.Operation.TheVariants.{Idle, PhaseOne, PhaseTwo}
use Rattle.network.specs.declared.station.Station.{Station}
use Rattle.network.specs.Keeping.{tag_of}
use Rattle.network.specs.Knowing.{Set}

-- a number below the largest of four bytes
abbrev pub may_rise : ℕ → Bool
may_rise n = nat_lt n 4294967295

-- the replies of an operation, if it counts any
abbrev pub replies_may_rise : {R : Type 0} → Operation R → Bool
replies_may_rise (Idle tag) = true
replies_may_rise (PhaseOne task poll) = may_rise poll.replies
replies_may_rise (PhaseTwo kind poll kept) = may_rise poll.replies

module _ {R : Type 0} where
  -- every number that a message could raise: echoes; replies, and the stamp held or offered, that a write goes on from
  unfoldable pub can_rise : Station R Set → Content R Set → Bool
  can_rise x (Enter p) = true
  can_rise x (EnterEcho known offer f p) = may_rise x.echoes
  can_rise x (Joined p) = true
  can_rise x (JoinedEcho p) = true
  can_rise x (Leave p) = true
  can_rise x (LeaveEcho p) = true
  can_rise x (Query p tag) = true
  can_rise x (Response offer tag) = may_rise offer.stamp.count && may_rise x.register.stamp.count && replies_may_rise x.operation
  can_rise x (Update offer tag p) = true
  can_rise x (Ack tag) = replies_may_rise x.operation
  can_rise x (UpdateEcho offer) = true

  -- the tag of the next operation
  abbrev pub can_begin : Station R Set → Bool
  can_begin x = may_rise (tag_of x.operation)
