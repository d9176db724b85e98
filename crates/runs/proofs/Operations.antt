-- The log tells the operations: each place of the log is that of one accepted read or write, and its entry shows how far that
-- has come. Rests on `LogOverRuns`, `Endings` and `Ranks`.
use Rattle.std.proofs.Common.{◌≡◌, ℕ, suc, ◌+◌, ◌*◌, ◌<◌, ◌≤◌, true, false, ltb, length, is_some, Some, None, sym, refl, ap, ◌∙◌, subst, inl, inr, arith, slice_get}
use Rattle.std.proofs.lemmas.Bool.{both_ways, cases_Bool, cases_eq, cases_lt, cases_order, ltb-true, ltb-false, lt-ltb, le-ltb}
use Rattle.std.proofs.lemmas.List.{length_push}
use Rattle.std.proofs.lemmas.Option.{slice_get_within}
use Rattle.stations.proofs.Counting.{put_here, put_other}
use Rattle.network.specs.declared.entry.Entry.{Entry}
use Rattle.network.specs.declared.operation.Operation.TheVariants.{PhaseTwo}
use Rattle.network.specs.declared.operation.Task.{Task}
use Rattle.network.specs.declared.operation.Task.TheVariants as task
use Rattle.network.specs.declared.poll.Poll.{Poll}
use Rattle.network.specs.declared.station.Station.{Station}
use Rattle.network.specs.Changes.{begin, actor}
use Rattle.network.specs.Hearing.{hear, kind_of}
use Rattle.network.specs.Keeping.{under_way, tag_of}
use Rattle.network.specs.Knowing.{Set}
use Rattle.network.specs.Logs.{Log, opened, opening_value, at_latest}
use Rattle.network.specs.States.{Copy}
use Rattle.runs.proofs.Positions.{Run, state, state_start, station, clock, Accepted, onward, turns}
use Rattle.runs.proofs.Accepted.{step_of, begins}
use Rattle.runs.proofs.Entries.{element_old, element_new, length_changed, changed_here, open_stays}
use Rattle.runs.proofs.Endings.{way_rank, idle_rank, idle_not_two, value_stays, closes}
use Rattle.runs.proofs.Growing.{hear_tag}
use Rattle.runs.proofs.LogOverRuns.{entries, latest, busy, hearing, LogStep, rests, opens, heeds, log_step, open_entry_of, left_alone, entry_on}
use Rattle.runs.proofs.Ranks.{rank_of, rank, rank_on}
use Rattle.runs.proofs.Requests.{update, in_two, awaits}
use Rattle.runs.proofs.SmallNumbers.{log_on}

module _ {R : Type 0} (z : Run R) where
  -- the operation at place x of the log
  pub record Logged (x : ℕ) : Type 0 where
    pub owner : ℕ
    pub begun : ℕ
    pub task : Task R
    pub accepted : Accepted z begun (step_of z owner task)
    pub place : length (entries z begun) ≡ x

  abbrev pub tag : {x : ℕ} → Logged x → ℕ
  tag o = tag_of (station z o.begun o.owner).operation + 1

  -- the owner as the operation has begun
  pub owner_begun : {x : ℕ} (o : Logged x) → station z (suc o.begun) o.owner ≡ begin o.task (station z o.begun o.owner)
  owner_begun o = ap (λ s. s.stations o.owner) (begins z o.begun o.owner o.task o.accepted).leads ∙ put_here _ o.owner _

  pub rank_begun : {x : ℕ} (o : Logged x) → rank (station z (suc o.begun) o.owner) ≡ 3 * tag o
  rank_begun o = ap rank (owner_begun o)

  -- its place is then the owner's latest, and its entry has just been opened
  latest_begun : {x : ℕ} (o : Logged x) → latest z (suc o.begun) o.owner ≡ x
  latest_begun o = ap (λ s. s.log.latest o.owner) (begins z o.begun o.owner o.task o.accepted).leads ∙ put_here _ o.owner _ ∙ o.place

  pub entry_begun : {x : ℕ} (o : Logged x) → slice_get (entries z (suc o.begun)) x ≡ Some (opened z.setup.first o.owner o.task (clock z o.begun))
  entry_begun o =
      ap (λ n. slice_get (entries z (suc o.begun)) n) (sym o.place) ∙ ap (λ s. slice_get s.log.entries (length (entries z o.begun))) (begins z o.begun o.owner o.task o.accepted).leads
      ∙ element_new (entries z o.begun) _

  pub length_begun : {x : ℕ} (o : Logged x) → length (entries z (suc o.begun)) ≡ x + 1
  length_begun o = ap (λ s. length s.log.entries) (begins z o.begun o.owner o.task o.accepted).leads ∙ length_push (entries z o.begun) _ ∙ ap (λ n. n + 1) o.place

  -- one place, one operation
  pub logged_once : (x : ℕ) (o o' : Logged x) → (o.begun ≡ o'.begun) × (o.owner ≡ o'.owner)
  logged_once x o o' = let e = same_begun in (e, same_owner e)
    where
      not_before : (o o' : Logged x) → o.begun < o'.begun → ⊥
      not_before o o' l = omega (arith, log_on z (suc o.begun) o'.begun l, length_begun o, o'.place)

      same_begun : o.begun ≡ o'.begun
      same_begun = elim (cases_order o.begun o'.begun) [ inl k ↦ k | inr k ↦ elim k [ inl l ↦ absurd (not_before o o' l) | inr l ↦ absurd (not_before o' o l) ] ]

      actor_of : (p : ℕ) (t : Task R) → actor (step_of z p t) ≡ p
      actor_of p task.Read = refl
      actor_of p (task.Write r) = refl

      same_owner : o.begun ≡ o'.begun → o.owner ≡ o'.owner
      same_owner e =
          let s : Some (step_of z o.owner o.task) ≡ Some (step_of z o'.owner o'.task) = sym o.accepted.0 ∙ ap (slice_get z.steps) e ∙ o'.accepted.0 in
          let t : step_of z o.owner o.task ≡ step_of z o'.owner o'.task = cc in
          sym (actor_of o.owner o.task) ∙ ap actor t ∙ actor_of o'.owner o'.task

  -- the entry at place x is that of its operation
  pub record Shows {x : ℕ} (o : Logged x) (i : ℕ) (e : Entry R) : Type 0 where
    pub before : o.begun < i
    pub station : e.station ≡ o.owner
    pub kind : e.kind ≡ kind_of o.task
    pub begin : e.begin ≡ clock z o.begun

  pub logged_there : {x : ℕ} (o : Logged x) (i : ℕ) → o.begun < i → (e : Entry R) × (slice_get (entries z i) x ≡ Some e) × Shows o i e
  logged_there {x} o i l =
      let k = entry_on z x _ (suc o.begun) i l (entry_begun o) in
      (k.entry, k.stands, record { before = l; station = k.of_same.station; kind = k.of_same.kind; begin = k.of_same.begin })

  -- whatever place the log has is that of an operation that began before
  pub logged_at : (i x : ℕ) → x < length (entries z i) → (o : Logged x) × (o.begun < i)
  logged_at i x l =
      let (k, a, b, f, t) = turns (λ k. ltb x (length (entries z k))) 0 i (omega arith) (le-ltb _ _ none) (lt-ltb _ _ l) in
      by k b (ltb-false _ _ f) (ltb-true _ _ t) (log_step z k)
    where
      none : length (entries z 0) ≤ x
      none = omega (arith, ap (λ s. length s.log.entries) (state_start z))

      by : (k : ℕ) → k < i → length (entries z k) ≤ x → x < length (entries z (suc k)) → LogStep z k → (o : Logged x) × (o.begun < i)
      by k b f t (rests e g) = absurd (omega (arith, ap (λ (l : Log R). length l.entries) e))
      by k b f t (opens p u a e g) =
          (record { owner = p; begun = k; task = u; accepted = a; place = omega (arith, ap (λ (l : Log R). length l.entries) e ∙ length_push (entries z k) _) }, b)
      by k b f t (heeds p n c a e y g) = absurd (omega (arith, ap (λ (l : Log R). length l.entries) e ∙ length_changed (latest z k p) (hearing z k p c) (entries z k)))

  pub same_entry : (i x : ℕ) (e f : Entry R) → slice_get (entries z i) x ≡ Some e → slice_get (entries z i) x ≡ Some f → e ≡ f
  same_entry i x e f h g = let s : Some e ≡ Some f = sym h ∙ g in cc

  pub logged : (i x : ℕ) (e : Entry R) → slice_get (entries z i) x ≡ Some e → (o : Logged x) × Shows o i e
  logged i x e h =
      let (o, l) = logged_at i x (slice_get_within (entries z i) x e h) in
      let (f, g, s) = logged_there o i l in
      (o, subst (Shows o i) (same_entry i x f e g h) s)

  pub begun_before : {x : ℕ} (o : Logged x) (i : ℕ) (e : Entry R) → slice_get (entries z i) x ≡ Some e → o.begun < i
  begun_before {x} o i e h = elim (cases_lt o.begun i) [ inl l ↦ l | inr l ↦ absurd (omega (arith, log_on z i o.begun l, o.place, slice_get_within (entries z i) x e h)) ]

  -- the operation at place x ended at step k
  pub record Ended {x : ℕ} (o : Logged x) (i : ℕ) (e : Entry R) : Type 0 where
    pub at : ℕ
    pub after : o.begun < at
    pub before : at < i
    pub was_two : awaits (station z at o.owner) (update (tag o)) ≡ true
    pub over : awaits (station z (suc at) o.owner) (update (tag o)) ≡ false
    pub end : e.end ≡ Some (clock z at)
    pub value : (k : _) (n : Poll) (v : R) → (station z at o.owner).operation ≡ PhaseTwo k n v → e.value ≡ v

  -- the operation is under way: its entry is the owner's latest, has not ended and shows what it opened with
  record Going {x : ℕ} (o : Logged x) (i : ℕ) (e : Entry R) : Type 0 where
    low : rank (station z i o.owner) ≤ 3 * tag o + 1
    last : latest z i o.owner ≡ x
    end : e.end ≡ None
    value : e.value ≡ opening_value z.setup.first o.task

  -- how far the operation has come
  data Standing {x : ℕ} (o : Logged x) (i : ℕ) : Type 0 where
    going : (e : Entry R) → slice_get (entries z i) x ≡ Some e → Going o i e → Standing o i
    done : (e : Entry R) → slice_get (entries z i) x ≡ Some e → 3 * tag o + 1 < rank (station z i o.owner) → Ended o i e → Standing o i

  module _ {x : ℕ} (o : Logged x) (i : ℕ) (l : o.begun < i) where
    high : 3 * tag o ≤ rank (station z i o.owner)
    high = omega (arith, rank_on z o.owner (suc o.begun) i l, rank_begun o)

    -- one who is idle has no operation that goes on
    owner_busy : rank (station z i o.owner) ≤ 3 * tag o + 1 → busy z i o.owner ≡ true
    owner_busy low = elim (cases_Bool (busy z i o.owner)) [ inl b ↦ b | inr b ↦ absurd (omega (arith, high, idle_rank (station z i o.owner).operation b)) ]

    pub owner_tag : rank (station z i o.owner) ≤ 3 * tag o + 1 → tag_of (station z i o.owner).operation ≡ tag o
    owner_tag low = let r = way_rank (station z i o.owner).operation (owner_busy low) in omega (arith, high, r.0, r.1)

    -- who has an operation under way at this place is the owner
    pub owned : (p : ℕ) → x ≡ latest z i p → busy z i p ≡ true → o.owner ≡ p
    owned p same b =
        let q = open_entry_of z i p b in
        let (w, s, t) = logged_there o i l in
        sym t.station ∙ ap (λ (d : Entry R). d.station) (same_entry i x w q.entry s (ap (slice_get (entries z i)) same ∙ q.stands)) ∙ q.own

    -- the owner's operation, its latest place and the entry stay
    going_same : (e : Entry R) → Going o i e → slice_get (entries z (suc i)) x ≡ Some e → (station z (suc i) o.owner).operation ≡ (station z i o.owner).operation
        → latest z (suc i) o.owner ≡ latest z i o.owner → Standing o (suc i)
    going_same e g h s t = going e h (record { low = omega (arith, ap rank_of s, g.low); last = t ∙ g.last; end = g.end; value = g.value })

    -- the owner hears a message
    going_heard : (e : Entry R) (c : Copy R) → slice_get (entries z i) x ≡ Some e → Going o i e → (state z (suc i)).log ≡ at_latest o.owner (hearing z i o.owner c) (state z i).log
        → station z (suc i) o.owner ≡ hear z.setup.choice o.owner c.content (station z i o.owner) → Standing o (suc i)
    going_heard e c h g d y =
        let own = o.owner in
        let stands : slice_get (entries z (suc i)) x ≡ Some (hearing z i own c e) =
        ap (λ (l : Log R). slice_get l.entries x) d ∙ ap (slice_get _) (sym g.last)
        ∙ changed_here (latest z i own) (hearing z i own c) (entries z i) e (ap (slice_get (entries z i)) g.last ∙ h) in
        let same_tag : tag_of (station z (suc i) own).operation ≡ tag o = ap (λ s. tag_of s.operation) y ∙ hear_tag z.setup.choice own c.content (station z i own) ∙ owner_tag g.low in
        elim (cases_Bool (busy z (suc i) own)) [
          | inl b ↦
              let way = sym (ap (λ s. under_way s.operation) y) ∙ b in
              going (hearing z i own c e) stands (record {
                low = omega (arith, same_tag, (way_rank (station z (suc i) own).operation b).1);
                last = ap (λ (l : Log R). l.latest own) d ∙ g.last;
                end = open_stays z.setup.choice (clock z i) own c.content (station z i own) e way ∙ g.end;
                value = value_stays z.setup.choice (clock z i) own c.content (station z i own) e way ∙ g.value;
              })
          | inr b ↦
              let k = closes z.setup.choice (clock z i) own c.content (station z i own) e (owner_busy g.low) (sym (ap (λ s. under_way s.operation) y) ∙ b) in
              done (hearing z i own c e) stands (omega (arith, same_tag, idle_rank (station z (suc i) own).operation b)) (record {
                at = i;
                after = l;
                before = omega arith;
                was_two = subst (λ t. in_two t (station z i own).operation ≡ true) (owner_tag g.low) k.was_two;
                over = idle_not_two (station z (suc i) own).operation (tag o) b;
                end = k.end;
                value = k.value;
              })
        ]

    going_on : (e : Entry R) → slice_get (entries z i) x ≡ Some e → Going o i e → LogStep z i → Standing o (suc i)
    going_on e h g (rests d f) = going_same e g (ap (λ (l : Log R). slice_get l.entries x) d ∙ h) (f o.owner) (ap (λ (l : Log R). l.latest o.owner) d)
    going_on e h g (opens p t a d f) =
        elim (cases_eq o.owner p) [
          | inl k ↦ absurd (both_ways _ (begins z i p t a).idle (subst (λ q. busy z i q ≡ true) k (owner_busy g.low)))
          | inr k ↦
              going_same e g (ap (λ (l : Log R). slice_get l.entries x) d ∙ element_old (entries z i) _ x e h) (ap (λ (s : Station R Set). s.operation) (f o.owner k))
              (ap (λ (l : Log R). l.latest o.owner) d ∙ put_other _ p _ o.owner k)
        ]
    going_on e h g (heeds p n c a d y f) =
        elim (cases_eq o.owner p) [
          | inl k ↦
              going_heard e c h g (subst (λ q. (state z (suc i)).log ≡ at_latest q (hearing z i q c) (state z i).log) (sym k) d)
              (subst (λ q. station z (suc i) q ≡ hear z.setup.choice q c.content (station z i q)) (sym k) y)
          | inr k ↦
              going_same e g (ap (λ (l : Log R). slice_get l.entries x) d ∙ left_alone z i p c (open_entry_of z i p) x e h (λ same b. k (owned p same b)))
              (ap (λ (s : Station R Set). s.operation) (f o.owner k)) (ap (λ (l : Log R). l.latest o.owner) d)
        ]

    standing_on : Standing o i → Standing o (suc i)
    standing_on (going e h g) = going_on e h g (log_step z i)
    standing_on (done e h r d) =
        let k = entry_on z x e i (suc i) (omega arith) h in
        done e (k.stands ∙ ap Some (k.unchanged (ap is_some d.end))) (omega (arith, rank_on z o.owner i (suc i) (omega arith)))
        (record { at = d.at; after = d.after; before = omega (arith, d.before); was_two = d.was_two; over = d.over; end = d.end; value = d.value })

  standing : {x : ℕ} (o : Logged x) (i : ℕ) → o.begun < i → Standing o i
  standing {x} o i l = (onward z (λ k. (o.begun < k) × Standing o k) (λ k h. (omega (arith, h.0), standing_on o k h.0 h.1)) (suc o.begun) i l (omega arith, first)).1
    where
      first : Standing o (suc o.begun)
      first = going _ (entry_begun o) (record { low = omega (arith, rank_begun o); last = latest_begun o; end = refl; value = refl })

  pub entry_open : {x : ℕ} (o : Logged x) (i : ℕ) (e : Entry R) → slice_get (entries z i) x ≡ Some e → rank (station z i o.owner) ≤ 3 * tag o + 1
      → (e.end ≡ None) × (e.value ≡ opening_value z.setup.first o.task)
  entry_open {x} o i e h l = by (standing o i (begun_before o i e h))
    where
      by : Standing o i → (e.end ≡ None) × (e.value ≡ opening_value z.setup.first o.task)
      by (going f s g) = let d = same_entry i x e f h s in (ap (λ (d : Entry R). d.end) d ∙ g.end, ap (λ (d : Entry R). d.value) d ∙ g.value)
      by (done f s r g) = absurd (omega arith)

  pub entry_ended : {x : ℕ} (o : Logged x) (i : ℕ) (e : Entry R) → slice_get (entries z i) x ≡ Some e → 3 * tag o + 1 < rank (station z i o.owner) → Ended o i e
  entry_ended {x} o i e h l = by (standing o i (begun_before o i e h))
    where
      by : Standing o i → Ended o i e
      by (going f s g) = absurd (omega (arith, g.low))
      by (done f s r g) = subst (Ended o i) (same_entry i x f e s h) g
