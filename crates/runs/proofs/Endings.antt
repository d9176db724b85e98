-- Apart from runs, what hearing does to an operation and to its entry: only replies are counted and the entry's record stays,
-- or phase two begins, or phase two ends and the entry shows it. Rests on the definitions alone.
use Rattle.std.proofs.Common.{◌≡◌, ℕ, ◌+◌, ◌*◌, ◌≤◌, true, false, Some, refl, ap, arith}
use Rattle.std.proofs.lemmas.Bool.{both_ways}
use Rattle.std.proofs.lemmas.Bool.Decides.{nat_tests}
use Rattle.settings.specs.declared.choice.Choice.{Choice}
use Rattle.network.specs.declared.content.Content.{Content}
use Rattle.network.specs.declared.entry.Entry.{Entry}
use Rattle.network.specs.declared.operation.Kind.{Kind}
use Rattle.network.specs.declared.operation.Operation.{Operation}
use Rattle.network.specs.declared.operation.Operation.TheVariants.{Idle, PhaseOne, PhaseTwo}
use Rattle.network.specs.declared.operation.Task.{Task}
use Rattle.network.specs.declared.poll.Poll.{Poll}
use Rattle.network.specs.declared.station.Station.{Station}
use Rattle.network.specs.Changes.{log_heard}
use Rattle.network.specs.Hearing.{hear, kind_of}
use Rattle.network.specs.Keeping.{under_way, tag_of}
use Rattle.network.specs.Knowing.{Set, member_count}
use Rattle.network.specs.Polls.{new_poll}
use Rattle.runs.proofs.Ranks.{rank_of}
use Rattle.runs.proofs.Requests.{in_two}

-- an operation but for its replies
abbrev pub without_replies : {R : Type 0} → Operation R → Operation R
without_replies (Idle t) = Idle t
without_replies (PhaseOne k n) = PhaseOne k (new_poll n.tag n.base)
without_replies (PhaseTwo k n v) = PhaseTwo k (new_poll n.tag n.base) v

-- a poll with so many replies
abbrev pub polled : ℕ → ℕ → ℕ → Poll
polled t b r = record { tag = t; base = b; replies = r }

whole : (n : Poll) (t b : ℕ) → new_poll n.tag n.base ≡ new_poll t b → n ≡ polled t b n.replies
whole n t b e = ap (λ (m : Poll). polled m.tag m.base n.replies) e

module _ {R : Type 0} where
  -- the rank of an operation that is under way, and of one that is not
  pub way_rank : (o : Operation R) → under_way o ≡ true → (3 * tag_of o ≤ rank_of o) × (rank_of o ≤ 3 * tag_of o + 1)
  way_rank (Idle t) h = absurd (both_ways _ refl h)
  way_rank (PhaseOne k n) h = (omega arith, omega arith)
  way_rank (PhaseTwo k n v) h = (omega arith, omega arith)

  pub idle_rank : (o : Operation R) → under_way o ≡ false → rank_of o ≡ 3 * tag_of o + 2
  idle_rank (Idle t) h = refl
  idle_rank (PhaseOne k n) h = absurd (both_ways _ h refl)
  idle_rank (PhaseTwo k n v) h = absurd (both_ways _ h refl)

  pub idle_not_two : (o : Operation R) (t : ℕ) → under_way o ≡ false → in_two t o ≡ false
  idle_not_two o t h = grind arith

  -- while the operation is under way its entry shows the same record
  pub value_stays : (c : Choice) (clock q : ℕ) (m : Content R Set) (x : Station R Set) (e : Entry R) → under_way (hear c q m x).operation ≡ true → (log_heard clock m x (hear c q m x) e).value ≡ e.value
  unfolding log_heard hear
  value_stays c clock q m x e h = grind (arith, nat_tests)

  -- hearing ends the operation: it was in phase two, and its entry shows the clock and the record that was kept
  pub record Closes (clock : ℕ) (o : Operation R) (e : Entry R) : Type 0 where
    pub was_two : in_two (tag_of o) o ≡ true
    pub end : e.end ≡ Some clock
    pub value : (k : Kind) (n : Poll) (v : R) → o ≡ PhaseTwo k n v → e.value ≡ v

  pub closes : (c : Choice) (clock q : ℕ) (m : Content R Set) (x : Station R Set) (e : Entry R) → under_way x.operation ≡ true → under_way (hear c q m x).operation ≡ false
      → Closes clock x.operation (log_heard clock m x (hear c q m x) e)
  unfolding log_heard hear
  closes c clock q m x e h g = record { was_two = grind (arith, nat_tests); end = grind (arith, nat_tests); value = λ k n v i. grind (arith, nat_tests) }

  -- from an operation without its replies to the whole of it
  pub from_one : (o : Operation R) (k : Task R) (t b : ℕ) → without_replies o ≡ PhaseOne k (new_poll t b) → (r : ℕ) × (o ≡ PhaseOne k (polled t b r))
  from_one (Idle s) k t b e = absurd (let clash : ◌≡◌ {A = ℕ} 0 1 = cc in omega arith)
  from_one (PhaseOne l n) k t b e =
      let same = whole n t b cc in
      (n.replies, cc)
  from_one (PhaseTwo l n v) k t b e = absurd (let clash : ◌≡◌ {A = ℕ} 0 1 = cc in omega arith)

  pub from_two : (o : Operation R) (k : Kind) (t b : ℕ) (v : R) → without_replies o ≡ PhaseTwo k (new_poll t b) v → (r : ℕ) × (o ≡ PhaseTwo k (polled t b r) v)
  from_two (Idle s) k t b v e = absurd (let clash : ◌≡◌ {A = ℕ} 0 1 = cc in omega arith)
  from_two (PhaseOne l n) k t b v e = absurd (let clash : ◌≡◌ {A = ℕ} 0 1 = cc in omega arith)
  from_two (PhaseTwo l n w) k t b v e =
      let same = whole n t b cc in
      (n.replies, cc)

  module _ (c : Choice) (q : ℕ) (m : Content R Set) (x : Station R Set) where
    pub hear_steady : rank_of (hear c q m x).operation ≡ rank_of x.operation → without_replies (hear c q m x).operation ≡ without_replies x.operation
    unfolding hear
    hear_steady h = grind (arith, nat_tests)

    -- the reply that begins phase two
    pub hear_turns : (k : Task R) (n : Poll) → x.operation ≡ PhaseOne k n → rank_of (hear c q m x).operation ≡ 3 * n.tag + 1
        → (hear c q m x).operation ≡ PhaseTwo (kind_of k) (new_poll n.tag (member_count x.known)) (hear c q m x).register.value
    unfolding hear
    hear_turns k n e h = grind (arith, nat_tests)
