-- How an operation goes on: while its rank stays, nothing of it changes but its replies; so phase one has the task with which
-- it began, and phase two the record that its station held as it began. Rests on `Operations`, `Endings`, `Ranks` and
-- `Changes`.
use Rattle.std.proofs.Common.{◌≡◌, ℕ, suc, ◌+◌, ◌*◌, ◌<◌, ◌≤◌, true, Some, None, sym, refl, ap, ◌∙◌, inl, inr, le_refl, arith, slice_get}
use Rattle.std.proofs.lemmas.Bool.{cases_lt, eq-eqb}
use Rattle.network.specs.declared.entry.Entry.{Entry}
use Rattle.network.specs.declared.operation.Kind.{Kind}
use Rattle.network.specs.declared.operation.Operation.TheVariants.{PhaseOne, PhaseTwo}
use Rattle.network.specs.declared.poll.Poll.{Poll}
use Rattle.network.specs.declared.register.Register.{Register}
use Rattle.network.specs.Hearing.{kind_of}
use Rattle.network.specs.Keeping.{tag_of}
use Rattle.network.specs.Knowing.{member_count}
use Rattle.network.specs.Polls.{new_poll}
use Rattle.runs.proofs.Positions.{Run, station, onward}
use Rattle.runs.proofs.Accepted.{some_is_not_none, enters, begins}
use Rattle.runs.proofs.Changes.{Change, same, comes, fades, begins_one, hears_one, change, unused_blank}
use Rattle.runs.proofs.Endings.{idle_rank, without_replies, polled, from_one, from_two, hear_steady, hear_turns}
use Rattle.runs.proofs.LogOverRuns.{entries, latest, busy, open_entry_of}
use Rattle.runs.proofs.Operations.{Logged, tag, owner_begun, rank_begun, logged, owner_tag, entry_ended}
use Rattle.runs.proofs.Ranks.{rank_of, rank, rank_query, query_rank, rank_update, update_rank, rank_on, rank_turns}
use Rattle.runs.proofs.Requests.{in_two, query, update, awaits}

module _ {R : Type 0} (z : Run R) where
  -- p's operation at j is that at i, but for its replies
  abbrev pub SameButReplies : ℕ → ℕ → ℕ → Type 0
  SameButReplies p i j = without_replies (station z j p).operation ≡ without_replies (station z i p).operation

  steady_step : (p i : ℕ) → rank (station z (suc i) p) ≡ rank (station z i p) → SameButReplies p i (suc i)
  steady_step p i h = by (change z i p)
    where
      by : Change z i p → SameButReplies p i (suc i)
      by (same e) = ap (λ s. without_replies s.operation) e
      by (comes a e) = ap (λ s. without_replies s.operation) e ∙ sym (ap (λ s. without_replies s.operation) (unused_blank z i p (enters z i p a).unused))
      by (fades l c f e) = ap (λ s. without_replies s.operation) e
      by (begins_one t a e) = absurd (omega (arith, h, ap rank e, idle_rank (station z i p).operation (begins z i p t a).idle))
      by (hears_one n c a w e) = ap (λ s. without_replies s.operation) e ∙ hear_steady z.setup.choice p c.content (station z i p) (sym (ap rank e) ∙ h)

  -- it stays so while the rank stays
  pub steady : (p i j : ℕ) → i ≤ j → rank (station z i p) ≡ rank (station z j p) → SameButReplies p i j
  steady p i j l = (onward z Steady on i j l (le_refl _, λ h. refl)).1
    where
      Steady : ℕ → Type 0
      Steady k = (rank (station z i p) ≤ rank (station z k p)) × (rank (station z i p) ≡ rank (station z k p) → SameButReplies p i k)

      on : (k : ℕ) → Steady k → Steady (suc k)
      on k (m, f) = let up = rank_on z p k (suc k) (omega arith) in (omega arith, λ h. steady_step p k (omega arith) ∙ f (omega arith))

  -- before the operation began, its owner was idle under a lower tag
  begun_by_rank : {x : ℕ} (o : Logged z x) (i : ℕ) → 3 * tag z o ≤ rank (station z i o.owner) → o.begun < i
  begun_by_rank o i h =
      elim (cases_lt o.begun i) [
        | inl l ↦ l
        | inr l ↦
            absurd (omega (
              arith,
              rank_on z o.owner i o.begun l,
              idle_rank (station z o.begun o.owner).operation (begins z o.begun o.owner o.task o.accepted).idle,
            ))
      ]

  -- in phase one an operation has the task with which it began
  pub phase_one : {x : ℕ} (o : Logged z x) (i : ℕ) → awaits (station z i o.owner) (query (tag z o)) ≡ true
      → (b : ℕ) × (r : ℕ) × ((station z i o.owner).operation ≡ PhaseOne o.task (polled (tag z o) b r))
  phase_one o i h =
      let high = rank_query (station z i o.owner) (tag z o) h in
      let stays = steady o.owner (suc o.begun) i (begun_by_rank o i (omega arith)) (rank_begun z o ∙ sym high) in
      let (r, e) = from_one _ o.task (tag z o) _ (stays ∙ ap (λ s. without_replies s.operation) (owner_begun z o)) in
      (_, r, e)

  -- a step, before position i, at which the rank turns from phase one to phase two
  record RankTurns {x : ℕ} (o : Logged z x) (i : ℕ) : Type 0 where
    pub at : ℕ
    pub after : o.begun < at
    pub before : at < i
    pub was_one : awaits (station z at o.owner) (query (tag z o)) ≡ true
    pub is_two : awaits (station z (suc at) o.owner) (update (tag z o)) ≡ true

  rank_turned : {x : ℕ} (o : Logged z x) (i : ℕ) → 3 * tag z o < rank (station z i o.owner) → RankTurns o i
  rank_turned o i h =
      let l = begun_by_rank o i (omega arith) in
      let (m, a, b, f, t) = rank_turns z o.owner (suc o.begun) i (3 * tag z o + 1) l (omega (arith, rank_begun z o)) (omega arith) in
      by m a b f t (rank_on z o.owner (suc o.begun) m a)
    where
      by : (m : ℕ) → suc o.begun ≤ m → m < i → rank (station z m o.owner) < 3 * tag z o + 1 → rank (station z (suc m) o.owner) ≡ 3 * tag z o + 1
          → rank (station z (suc o.begun) o.owner) ≤ rank (station z m o.owner) → RankTurns o i
      by m a b f t g =
          record {
            at = m;
            after = a;
            before = b;
            was_one = query_rank (station z m o.owner) (tag z o) (omega (arith, rank_begun z o));
            is_two = update_rank (station z (suc m) o.owner) (tag z o) t;
          }

  module _ {x : ℕ} (o : Logged z x) (i : ℕ) (w : RankTurns o i) where
    -- the register that the owner then holds, which phase two spreads
    abbrev spread : Register R
    spread = (station z (suc w.at) o.owner).register

    turned_rank : rank (station z (suc w.at) o.owner) ≡ 3 * tag z o + 1
    turned_rank = rank_update (station z (suc w.at) o.owner) (tag z o) w.is_two

    -- the owner turns by a message that it hears
    turned_by : (b r : ℕ) → (station z w.at o.owner).operation ≡ PhaseOne o.task (polled (tag z o) b r) → Change z w.at o.owner
        → (station z (suc w.at) o.owner).operation ≡ PhaseTwo (kind_of o.task) (new_poll (tag z o) (member_count (station z w.at o.owner).known)) spread.value
    turned_by b r g (same e) = absurd (omega (arith, turned_rank, ap rank e, ap rank_of g))
    turned_by b r g (comes a e) = absurd (omega (arith, turned_rank, ap rank e))
    turned_by b r g (fades l c f e) = absurd (omega (arith, turned_rank, ap rank e, ap rank_of g))
    turned_by b r g (begins_one t a e) = absurd (omega (arith, turned_rank, ap rank e))
    turned_by b r g (hears_one n c a u e) =
        let own = o.owner in
        ap (λ s. s.operation) e
        ∙ hear_turns z.setup.choice own c.content (station z w.at own) o.task (polled (tag z o) b r) g (sym (ap rank e) ∙ turned_rank)
        ∙ ap (λ s. PhaseTwo (kind_of o.task) (new_poll (tag z o) (member_count (station z w.at own).known)) s.register.value) (sym e)

    -- phase two begins with the record that the owner then holds, and with no replies
    phase_two_begins : (station z (suc w.at) o.owner).operation
        ≡ PhaseTwo (kind_of o.task) (new_poll (tag z o) (member_count (station z w.at o.owner).known)) spread.value
    phase_two_begins = let (b, r, g) = phase_one o w.at w.was_one in turned_by b r g (change z w.at o.owner)

    -- and phase two keeps it
    phase_two : (j : ℕ) → awaits (station z j o.owner) (update (tag z o)) ≡ true
        → (r : ℕ) × ((station z j o.owner).operation ≡ PhaseTwo (kind_of o.task) (polled (tag z o) (member_count (station z w.at o.owner).known) r) spread.value)
    phase_two j h =
        let own = o.owner in
        let high = rank_update (station z j own) (tag z o) h in
        let one = rank_query (station z w.at own) (tag z o) w.was_one in
        let l : w.at < j = elim (cases_lt w.at j) [ inl k ↦ k | inr k ↦ absurd (omega (arith, rank_on z own j w.at k)) ] in
        from_two _ (kind_of o.task) (tag z o) _ spread.value (steady own (suc w.at) j l (turned_rank ∙ sym high) ∙ ap without_replies phase_two_begins)

  -- the operation o began phase two before position i
  pub record Turned {x : ℕ} (o : Logged z x) (i : ℕ) : Type 0 where
    pub at : ℕ
    pub after : o.begun < at
    pub before : at < i
    -- its phase one had the task with which it began
    pub base : ℕ
    pub replies : ℕ
    pub was_one : (station z at o.owner).operation ≡ PhaseOne o.task (polled (tag z o) base replies)
    -- its phase two keeps the value that its station then holds, as long as it lasts
    pub base_two : ℕ
    pub is_two : (station z (suc at) o.owner).operation ≡ PhaseTwo (kind_of o.task) (new_poll (tag z o) base_two) (station z (suc at) o.owner).register.value
    pub kept : (j : ℕ) (k : Kind) (n : Poll) (v : R) → n.tag ≡ tag z o → (station z j o.owner).operation ≡ PhaseTwo k n v → v ≡ (station z (suc at) o.owner).register.value

  pub turned : {x : ℕ} (o : Logged z x) (i : ℕ) → 3 * tag z o < rank (station z i o.owner) → Turned o i
  turned o i l = by (rank_turned o i l)
    where
      kept_value : (w : RankTurns o i) (j : ℕ) (k : Kind) (n : Poll) (v : R) → n.tag ≡ tag z o → (station z j o.owner).operation ≡ PhaseTwo k n v → v ≡ (station z (suc w.at) o.owner).register.value
      kept_value w j k n v t e =
          let (r, f) = phase_two o i w j (ap (in_two (tag z o)) e ∙ eq-eqb n.tag (tag z o) t) in
          let same : PhaseTwo k n v ≡ PhaseTwo (kind_of o.task) (polled (tag z o) _ r) (station z (suc w.at) o.owner).register.value = sym e ∙ f in
          cc

      by : RankTurns o i → Turned o i
      by w =
          let (b, r, e) = phase_one o w.at w.was_one in
          record { at = w.at; after = w.after; before = w.before; base = b; replies = r; was_one = e; base_two = _; is_two = phase_two_begins o i w; kept = kept_value w }

  -- an operation under way stands at its station's latest place
  pub record AtLatest (i q : ℕ) : Type 0 where
    pub operation : Logged z (latest z i q)
    pub begun_before : operation.begun < i
    pub own : operation.owner ≡ q
    pub same_tag : tag z operation ≡ tag_of (station z i q).operation

  pub at_latest : (i q : ℕ) → busy z i q ≡ true → AtLatest i q
  at_latest i q b =
      let f = open_entry_of z i q b in
      let (o, s) = logged z i (latest z i q) f.entry f.stands in
      let own : o.owner ≡ q = sym s.station ∙ f.own in
      record { operation = o; begun_before = s.before; own = own; same_tag = sym (owner_tag z o i s.before (low o f.entry f.stands f.not_ended)) ∙ ap (λ p. tag_of (station z i p).operation) own }
    where
      low : (o : Logged z (latest z i q)) (e : Entry R) → slice_get (entries z i) (latest z i q) ≡ Some e → e.end ≡ None → rank (station z i o.owner) ≤ 3 * tag z o + 1
      low o e h n =
          elim (cases_lt (3 * tag z o + 1) (rank (station z i o.owner))) [
            | inl l ↦ absurd (some_is_not_none _ (sym (entry_ended z o i e h l).end ∙ n))
            | inr l ↦ l
          ]
