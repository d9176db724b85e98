-- A poll: one phase of an operation asks other stations, and counts their replies.
use Rattle.std.specs.Prelude.{ℕ, ◌+◌, ◌*◌, Bool, nat_le}
use Rattle.settings.specs.declared.choice.Choice.{Choice}
use Rattle.network.specs.declared.poll.Poll.{Poll}

-- it begins with a tag and a base, and no replies
abbrev pub new_poll : ℕ → ℕ → Poll
new_poll tag base = record { tag = tag; base = base; replies = 0 }

-- a reply more
abbrev pub with_reply : Poll → Poll
with_reply poll = record { tag = poll.tag; base = poll.base; replies = poll.replies + 1 }

-- its replies are a quorum of its base: 100 × replies ≥ β × base
abbrev pub quorum : Choice → Poll → Bool
quorum c poll = nat_le (c.beta * poll.base) (100 * poll.replies)
