-- The log along a run: whoever has an operation under way has its entry, not yet ended, as its latest;
-- an entry stays that of its operation, and one that ended never changes. Rests on `Accepted`, `Changes` and `Entries`.
use Rattle.std.proofs.Common.{◌≡◌, ℕ, zero, suc, ◌≤◌, Bool, true, false, List, is_some, Some, None, sym, refl, ap, ◌∙◌, subst, inl, inr, slice_get}
use Rattle.std.proofs.lemmas.Bool.{both_ways, cases_eq, cases_Bool}
use Rattle.stations.specs.Members.{put}
use Rattle.stations.proofs.Counting.{put_here, put_other}
use Rattle.network.specs.declared.entry.Entry.{Entry}
use Rattle.network.specs.declared.operation.Task.{Task}
use Rattle.network.specs.declared.operation.Task.TheVariants as task
use Rattle.network.specs.declared.station.Station.{Station}
use Rattle.network.specs.declared.step.Step.{Step}
use Rattle.network.specs.declared.step.Step.TheVariants as step
use Rattle.network.specs.Changes.{log_heard}
use Rattle.network.specs.Hearing.{hear}
use Rattle.network.specs.Keeping.{under_way, newcomer}
use Rattle.network.specs.Knowing.{Set}
use Rattle.network.specs.Logs.{Log, open_entry, opened, at_latest, changed_at}
use Rattle.network.specs.States.{Copy}
use Rattle.runs.proofs.Positions.{Run, state, station, clock, Accepted, OutcomeOf, goes, stays, outcome_of, onward}
use Rattle.runs.proofs.Accepted.{step_of, ticks, enters, leaves, crashes, begins, hears}
use Rattle.runs.proofs.Start.{at_start}
use Rattle.runs.proofs.Changes.{unused_blank}
use Rattle.runs.proofs.Entries.{element_old, element_new, changed_here, changed_elsewhere, SameOperation, same_itself, same_twice, heard_same, idle_entry, open_stays, heard_under_way}

module _ {R : Type 0} (z : Run R) where
  abbrev pub entries : ℕ → List (Entry R)
  entries i = (state z i).log.entries

  -- the place of q's latest entry
  abbrev pub latest : ℕ → ℕ → ℕ
  latest i q = (state z i).log.latest q

  abbrev pub busy : ℕ → ℕ → Bool
  busy i q = under_way (station z i q).operation

  -- what the entry of p becomes when it hears c
  abbrev pub hearing : ℕ → ℕ → Copy R → Entry R → Entry R
  hearing i p c = log_heard (clock z i) c.content (station z i p) (hear z.setup.choice p c.content (station z i p))

  -- what a step does to the log, and to the operations of stations
  pub data LogStep (i : ℕ) : Type 0 where
    rests : (state z (suc i)).log ≡ (state z i).log → ((q : ℕ) → (station z (suc i) q).operation ≡ (station z i q).operation) → LogStep i
    opens : (p : ℕ) (t : Task R) → Accepted z i (step_of z p t) → (state z (suc i)).log ≡ open_entry z.setup.first p t (clock z i) (state z i).log
        → ((q : ℕ) → (q ≡ p → ⊥) → station z (suc i) q ≡ station z i q) → LogStep i
    heeds : (p n : ℕ) (c : Copy R) → Accepted z i (step.Deliver n p) → (state z (suc i)).log ≡ at_latest p (hearing i p c) (state z i).log
        → station z (suc i) p ≡ hear z.setup.choice p c.content (station z i p) → ((q : ℕ) → (q ≡ p → ⊥) → station z (suc i) q ≡ station z i q) → LogStep i

  -- station r alone changes, and not its operation
  same_operations : (i r : ℕ) (y : Station R Set) → ((q : ℕ) → station z (suc i) q ≡ put (state z i).stations r y q) → y.operation ≡ (station z i r).operation
      → (q : ℕ) → (station z (suc i) q).operation ≡ (station z i q).operation
  same_operations i r y e f q =
      elim (cases_eq q r) [
        | inl k ↦ ap (λ (x : Station R Set). x.operation) (e q ∙ ap (put (state z i).stations r y) k ∙ put_here _ r y) ∙ f ∙ ap (λ p. (station z i p).operation) (sym k)
        | inr k ↦ ap (λ (x : Station R Set). x.operation) (e q ∙ put_other _ r y q k)
      ]

  opens_by : (i p : ℕ) (t : Task R) → Accepted z i (step_of z p t) → LogStep i
  opens_by i p t a = let e = (begins z i p t a).leads in opens p t a (ap (λ s. s.log) e) (λ q ne. ap (λ s. s.stations q) e ∙ put_other _ p _ q ne)

  log_by : (i : ℕ) (x : Step R) → Accepted z i x → LogStep i
  log_by i step.Tick a = let e = (ticks z i a).leads in rests (ap (λ s. s.log) e) (λ q. ap (λ s. (s.stations q).operation) e)
  log_by i (step.Enter p) a =
      let e = enters z i p a in
      rests (ap (λ s. s.log) e.leads)
      (same_operations i p (newcomer z.setup.first p) (λ q. ap (λ s. s.stations q) e.leads) (sym (ap (λ (x : Station R Set). x.operation) (unused_blank z i p e.unused))))
  log_by i (step.Leave p) a = let e = (leaves z i p a).leads in rests (ap (λ s. s.log) e) (same_operations i p _ (λ q. ap (λ s. s.stations q) e) refl)
  log_by i (step.Crash p) a = let e = (crashes z i p a).leads in rests (ap (λ s. s.log) e) (same_operations i p _ (λ q. ap (λ s. s.stations q) e) refl)
  log_by i (step.Read p) a = opens_by i p task.Read a
  log_by i (step.Write p r) a = opens_by i p (task.Write r) a
  log_by i (step.Deliver n q) a =
      let h = hears z i n q a in
      heeds q n h.copy a (ap (λ s. s.log) h.leads) (ap (λ s. s.stations q) h.leads ∙ put_here _ q _) (λ p ne. ap (λ s. s.stations p) h.leads ∙ put_other _ q _ p ne)

  pub log_step : (i : ℕ) → LogStep i
  log_step i = by (outcome_of z i)
    where
      by : OutcomeOf z i → LogStep i
      by (goes x a) = log_by i x a
      by (stays e) = rests (ap (λ s. s.log) e) (λ q. ap (λ s. (s.stations q).operation) e)

  -- q's latest entry is q's, and has not ended
  pub record OpenEntry (i q : ℕ) : Type 0 where
    pub entry : Entry R
    pub stands : slice_get (entries i) (latest i q) ≡ Some entry
    pub own : entry.station ≡ q
    pub not_ended : entry.end ≡ None

  -- the entry at a place that p's hearing leaves alone
  pub left_alone : (i p : ℕ) (c : Copy R) → (busy i p ≡ true → OpenEntry i p) → (n : ℕ) (e : Entry R) → slice_get (entries i) n ≡ Some e → ((n ≡ latest i p) → (busy i p ≡ true) → ⊥)
      → slice_get (changed_at (latest i p) (hearing i p c) (entries i)) n ≡ Some e
  left_alone i p c mine n e h ne =
      elim (cases_eq n (latest i p)) [
        | inr k ↦ changed_elsewhere (latest i p) n (hearing i p c) (entries i) k ∙ h
        | inl k ↦
            elim (cases_Bool (busy i p)) [
              | inl b ↦ absurd (ne k b)
              | inr b ↦
                  subst (λ m. slice_get (changed_at (latest i p) (hearing i p c) (entries i)) m ≡ Some e) (sym k)
                  (changed_here (latest i p) (hearing i p c) (entries i) e (subst (λ m. slice_get (entries i) m ≡ Some e) k h) ∙ ap Some (idle_entry (clock z i) c.content (station z i p) _ e b))
            ]
      ]

  -- whoever has an operation under way has an open entry
  pub open_entry_of : (i q : ℕ) → busy i q ≡ true → OpenEntry i q
  open_entry_of zero q h = absurd (both_ways _ (at_start z (λ x. under_way x.operation) false refl refl q) h)
  open_entry_of (suc i) q h = by (log_step i) (open_entry_of i)
    where
      by : LogStep i → ((p : ℕ) → busy i p ≡ true → OpenEntry i p) → OpenEntry (suc i) q
      by (rests e f) before =
          let o = before q (sym (ap under_way (f q)) ∙ h) in
          record { entry = o.entry; stands = ap (λ (l : Log R). slice_get l.entries (l.latest q)) e ∙ o.stands; own = o.own; not_ended = o.not_ended }
      by (opens p t b e f) before =
          elim (cases_eq q p) [
            | inl k ↦
                record {
                  entry = opened z.setup.first p t (clock z i);
                  stands = ap (λ (l : Log R). slice_get l.entries (l.latest q)) e ∙ ap (slice_get _) (ap (put (state z i).log.latest p _) k ∙ put_here _ p _) ∙ element_new (entries i) _;
                  own = sym k;
                  not_ended = refl;
                }
            | inr k ↦
                let o = before q (sym (ap (λ x. under_way x.operation) (f q k)) ∙ h) in
                record {
                  entry = o.entry;
                  stands = ap (λ (l : Log R). slice_get l.entries (l.latest q)) e ∙ ap (slice_get _) (put_other _ p _ q k) ∙ element_old (entries i) _ _ _ o.stands;
                  own = o.own;
                  not_ended = o.not_ended;
                }
          ]
      by (heeds p n c a e y f) before =
          elim (cases_eq q p) [
            | inl k ↦
                let way = sym (ap (λ x. under_way x.operation) y) ∙ subst (λ r. busy (suc i) r ≡ true) k h in
                let o = before p (heard_under_way z.setup.choice p c.content (station z i p) way) in
                record {
                  entry = hearing i p c o.entry;
                  stands = ap (λ (l : Log R). slice_get l.entries (l.latest q)) e ∙ ap (λ r. slice_get (changed_at (latest i p) (hearing i p c) (entries i)) (latest i r)) k
                      ∙ changed_here (latest i p) (hearing i p c) (entries i) o.entry o.stands;
                  own = (heard_same (clock z i) c.content (station z i p) _ o.entry).station ∙ o.own ∙ sym k;
                  not_ended = open_stays z.setup.choice (clock z i) p c.content (station z i p) o.entry way ∙ o.not_ended;
                }
            | inr k ↦
                let o = before q (sym (ap (λ x. under_way x.operation) (f q k)) ∙ h) in
                record {
                  entry = o.entry;
                  stands = ap (λ (l : Log R). slice_get l.entries (l.latest q)) e
                      ∙ left_alone i p c (before p) (latest i q) o.entry o.stands (λ same_place b. k (apart (before p b) o same_place));
                  own = o.own;
                  not_ended = o.not_ended;
                }
          ]
        where
          apart : OpenEntry i p → OpenEntry i q → latest i q ≡ latest i p → q ≡ p
          apart a o g = let s : Some o.entry ≡ Some a.entry = sym o.stands ∙ ap (slice_get (entries i)) g ∙ a.stands in let t : o.entry ≡ a.entry = cc in sym o.own ∙ ap (λ (x : Entry R). x.station) t ∙ a.own

  -- what became of an entry: it is still that of its operation, and if it had ended it is the same
  pub record KeptEntry (e : Entry R) (j x : ℕ) : Type 0 where
    pub entry : Entry R
    pub stands : slice_get (entries j) x ≡ Some entry
    pub of_same : SameOperation e entry
    pub unchanged : is_some e.end ≡ true → entry ≡ e

  entry_step : (i x : ℕ) (e : Entry R) → slice_get (entries i) x ≡ Some e → KeptEntry e (suc i) x
  entry_step i x e h = by (log_step i)
    where
      by : LogStep i → KeptEntry e (suc i) x
      by (rests g f) = record { entry = e; stands = ap (λ (l : Log R). slice_get l.entries x) g ∙ h; of_same = same_itself e; unchanged = λ t. refl }
      by (opens p t b g f) = record { entry = e; stands = ap (λ (l : Log R). slice_get l.entries x) g ∙ element_old (entries i) _ x e h; of_same = same_itself e; unchanged = λ t. refl }
      by (heeds p n c a g y f) =
          elim (cases_eq x (latest i p)) [
            | inl k ↦
                record {
                  entry = hearing i p c e;
                  stands = ap (λ (l : Log R). slice_get l.entries x) g ∙ ap (slice_get _) k ∙ changed_here (latest i p) (hearing i p c) (entries i) e (subst (λ m. slice_get (entries i) m ≡ Some e) k h);
                  of_same = heard_same (clock z i) c.content (station z i p) _ e;
                  unchanged = λ t. elim (cases_Bool (busy i p)) [
                    | inl b ↦ absurd (both_ways _ (ended_not p (open_entry_of i p b) k) t)
                    | inr b ↦ idle_entry (clock z i) c.content (station z i p) _ e b
                  ];
                }
            | inr k ↦
                record { entry = e; stands = ap (λ (l : Log R). slice_get l.entries x) g ∙ changed_elsewhere (latest i p) x (hearing i p c) (entries i) k ∙ h; of_same = same_itself e; unchanged = λ t. refl }
          ]
        where
          ended_not : (p : ℕ) → OpenEntry i p → x ≡ latest i p → is_some e.end ≡ false
          ended_not p o k = let s : Some e ≡ Some o.entry = sym h ∙ ap (slice_get (entries i)) k ∙ o.stands in let t : e ≡ o.entry = cc in ap (λ (d : Entry R). is_some d.end) t ∙ ap is_some o.not_ended

  pub entry_on : (x : ℕ) (e : Entry R) (i j : ℕ) → i ≤ j → slice_get (entries i) x ≡ Some e → KeptEntry e j x
  entry_on x e i j l h =
      onward z (λ k. KeptEntry e k x) (λ k o. more k o (entry_step k x o.entry o.stands)) i j l
      (record { entry = e; stands = h; of_same = same_itself e; unchanged = λ t. refl })
    where
      more : (k : ℕ) (o : KeptEntry e k x) → KeptEntry o.entry (suc k) x → KeptEntry e (suc k) x
      more k o n =
          record {
            entry = n.entry;
            stands = n.stands;
            of_same = same_twice e o.entry n.entry o.of_same n.of_same;
            unchanged = λ t. n.unchanged (ap (λ (d : Entry R). is_some d.end) (o.unchanged t) ∙ t) ∙ o.unchanged t;
          }
