-- What a step does to one station: five cases, an induction over stations, and what never goes back along a run.
-- Rests on `Accepted` (acceptance) and `Growing` (what never goes back at one station).
use Rattle.std.proofs.Common.{◌≡◌, ℕ, zero, suc, ◌<◌, ◌≤◌, Bool, true, false, cond, ltb, ◌⊎◌, Some, sym, refl, ap, ◌∙◌, subst, inl, inr, arith}
use Rattle.std.proofs.lemmas.Bool.{both_ways, and_parts, and_from, not-true, not_from_false, cases_eq, cases_Bool, cases_order}
use Rattle.std.proofs.lemmas.Bool.Decides.{nat_tests}
use Rattle.stations.specs.Members.{put}
use Rattle.stations.proofs.Counting.{put_here, put_other}
use Rattle.network.specs.declared.operation.Task.{Task}
use Rattle.network.specs.declared.operation.Task.TheVariants as task
use Rattle.network.specs.declared.station.Life.{Life}
use Rattle.network.specs.declared.station.Life.TheVariants.{Left}
use Rattle.network.specs.declared.station.Station.{Station}
use Rattle.network.specs.declared.step.Step.{Step}
use Rattle.network.specs.declared.step.Step.TheVariants as step
use Rattle.network.specs.Changes.{begin}
use Rattle.network.specs.Hearing.{hear}
use Rattle.network.specs.Keeping.{is_used, is_present, with_life, with_crashed, unused_station, founder, newcomer}
use Rattle.network.specs.Knowing.{Set}
use Rattle.network.specs.States.{Copy, new_run}
use Rattle.runs.proofs.Positions.{Run, state, state_start, station, active_at, waiting, Accepted, OutcomeOf, goes, stays, outcome_of, onward, turns}
use Rattle.runs.proofs.Start.{founders_fit, table_high, station_start}
use Rattle.runs.proofs.Accepted.{Enters, Begins, step_of, ticks, enters, leaves, crashes, begins, hears}
use Rattle.runs.proofs.Growing.{has_left, gone_left, left_gone, present_used, with_both, Grown, grown_not, grown_twice, grown_heard, grown_begun, grown_left, grown_crashed, grown_entered, hear_life}

module _ {R : Type 0} (z : Run R) where
  -- a station leaves or crashes: its life and its word on crashes thereafter
  pub data Fades (i p : ℕ) (l : Life) (c : Bool) : Type 0 where
    leaving : Accepted z i (step.Leave p) → l ≡ Left → c ≡ (station z i p).crashed → Fades i p l c
    crashing : Accepted z i (step.Crash p) → l ≡ (station z i p).life → c ≡ true → Fades i p l c

  -- what step i does to station p
  pub data Change (i p : ℕ) : Type 0 where
    same : station z (suc i) p ≡ station z i p → Change i p
    comes : Accepted z i (step.Enter p) → station z (suc i) p ≡ newcomer z.setup.first p → Change i p
    fades : (l : Life) (c : Bool) → Fades i p l c → station z (suc i) p ≡ with_both l c (station z i p) → Change i p
    begins_one : (t : Task R) → Accepted z i (step_of z p t) → station z (suc i) p ≡ begin t (station z i p) → Change i p
    hears_one : (n : ℕ) (c : Copy R) → Accepted z i (step.Deliver n p) → waiting z i n p ≡ Some c
        → station z (suc i) p ≡ hear z.setup.choice p c.content (station z i p) → Change i p

  -- station r alone has become y
  at_one : (i r p : ℕ) (y : Station R Set) → (state z (suc i)).stations p ≡ put (state z i).stations r y p → (r ≡ p → station z (suc i) p ≡ y → Change i p) → Change i p
  at_one i r p y e f =
      elim (cases_eq p r)
      [ inl k ↦ f (sym k) (e ∙ ap (put (state z i).stations r y) k ∙ put_here _ r y) | inr k ↦ same (e ∙ put_other _ r y p k) ]

  begins_change : (i p r : ℕ) (t : Task R) → Accepted z i (step_of z r t) → Change i p
  begins_change i p r t a =
      at_one i r p _ (ap (λ s. s.stations p) (begins z i r t a).leads)
      (λ e g. begins_one t (subst (λ q. Accepted z i (step_of z q t)) e a) (g ∙ ap (λ q. begin t (station z i q)) e))

  change_by : (i p : ℕ) (x : Step R) → Accepted z i x → Change i p
  change_by i p step.Tick a = same (ap (λ s. s.stations p) (ticks z i a).leads)
  change_by i p (step.Enter r) a =
      at_one i r p _ (ap (λ s. s.stations p) (enters z i r a).leads)
      (λ e g. comes (subst (λ q. Accepted z i (step.Enter q)) e a) (g ∙ ap (newcomer z.setup.first) e))
  change_by i p (step.Leave r) a =
      at_one i r p _ (ap (λ s. s.stations p) (leaves z i r a).leads)
      (λ e g. fades Left (station z i p).crashed (leaving (subst (λ q. Accepted z i (step.Leave q)) e a) refl refl) (g ∙ ap (λ q. with_life Left (station z i q)) e))
  change_by i p (step.Crash r) a =
      at_one i r p _ (ap (λ s. s.stations p) (crashes z i r a).leads)
      (λ e g. fades (station z i p).life true (crashing (subst (λ q. Accepted z i (step.Crash q)) e a) refl refl) (g ∙ ap (λ q. with_crashed (station z i q)) e))
  change_by i p (step.Read r) a = begins_change i p r task.Read a
  change_by i p (step.Write r v) a = begins_change i p r (task.Write v) a
  change_by i p (step.Deliver n r) a =
      let h = hears z i n r a in
      at_one i r p _ (ap (λ s. s.stations p) h.leads)
      (λ e g. hears_one n h.copy (subst (λ q. Accepted z i (step.Deliver n q)) e a) (subst (λ q. waiting z i n q ≡ Some h.copy) e h.waits)
      (g ∙ ap (λ q. hear z.setup.choice q h.copy.content (station z i q)) e))

  pub change : (i p : ℕ) → Change i p
  change i p = by (outcome_of z i)
    where
      by : OutcomeOf z i → Change i p
      by (goes x a) = change_by i p x a
      by (stays e) = same (ap (λ s. s.stations p) e)

  -- what holds of each station at the start and at its entry, and is kept by the other changes, holds of each station at every position
  pub stationwise : (P : ℕ → Station R Set → Type 0)
      → ((q : ℕ) → P q ((new_run z.setup z.founders).stations q))
      → ((i q : ℕ) → Enters z i q → P q (newcomer z.setup.first q))
      → ((i q : ℕ) (l : Life) (c : Bool) → Fades i q l c → P q (station z i q) → P q (with_both l c (station z i q)))
      → ((i q : ℕ) (t : Task R) → Begins z i q t → P q (station z i q) → P q (begin t (station z i q)))
      → ((i q n : ℕ) (c : Copy R) → Accepted z i (step.Deliver n q) → waiting z i n q ≡ Some c → P q (station z i q) → P q (hear z.setup.choice q c.content (station z i q)))
      → (i q : ℕ) → P q (station z i q)
  stationwise P at_start at_entry_lem at_fading at_begin at_hearing zero q = subst (λ s. P q (s.stations q)) (sym (state_start z)) (at_start q)
  stationwise P at_start at_entry_lem at_fading at_begin at_hearing (suc i) q = by (change i q) (stationwise P at_start at_entry_lem at_fading at_begin at_hearing i q)
    where
      by : Change i q → P q (station z i q) → P q (station z (suc i) q)
      by (same e) h = rw e h
      by (comes a e) h = rw e (at_entry_lem i q (enters z i q a))
      by (fades l c f e) h = rw e (at_fading i q l c f h)
      by (begins_one t a e) h = rw e (at_begin i q t (begins z i q t a) h)
      by (hears_one n c a w e) h = rw e (at_hearing i q n c a w h)

  -- who leaves or crashes was used
  pub fades_used : (i p : ℕ) (l : Life) (c : Bool) → Fades i p l c → is_used (station z i p).life ≡ true
  fades_used i p l c (leaving a d e) = present_used _ (leaves z i p a).acts.is_here
  fades_used i p l c (crashing a d e) = present_used _ (crashes z i p a).acts.is_here

  -- and still is
  pub still_used : (i q : ℕ) (l : Life) (c : Bool) → Fades i q l c → is_used l ≡ true
  still_used i q l c (leaving a d e) = ap is_used d
  still_used i q l c (crashing a d e) = ap is_used d ∙ present_used _ (crashes z i q a).acts.is_here

  -- who enters is used thereafter
  pub entered_used : (p i : ℕ) → Accepted z i (step.Enter p) → is_used (station z (suc i) p).life ≡ true
  entered_used p i a = ap (λ s. is_used (s.stations p).life) (enters z i p a).leads ∙ ap (λ x. is_used x.life) (put_here (state z i).stations p (newcomer z.setup.first p))

  -- a number that was not used is blank
  pub unused_blank : (i p : ℕ) → is_used (station z i p).life ≡ false → station z i p ≡ unused_station z.setup.first
  unused_blank =
      stationwise (λ q x. is_used x.life ≡ false → x ≡ unused_station z.setup.first)
      (λ q. at_start (ltb q z.founders))
      (λ i q t h. absurd (both_ways _ h refl))
      (λ i q l c f k h. absurd (both_ways _ h (still_used i q l c f)))
      (λ i q t b k h. absurd (both_ways _ h (present_used _ b.acts.is_here)))
      (λ i q n c a w k h. absurd (both_ways _ (sym (ap is_used (hear_life z.setup.choice q c.content (station z i q))) ∙ h) (present_used _ (hears z i n q a).acts.is_here)))
    where
      at_start : (b : Bool) → is_used (cond b (founder z.setup.first z.founders) (unused_station z.setup.first)).life ≡ false
          → cond b (founder z.setup.first z.founders) (unused_station z.setup.first) ≡ unused_station z.setup.first
      at_start true h = absurd (both_ways _ h refl)
      at_start false h = refl

  grown_faded : (i p : ℕ) (l : Life) (c : Bool) → Fades i p l c → Grown (station z i p) (with_both l c (station z i p))
  grown_faded i p l c (leaving a d e) = rw (d, e) (grown_left (station z i p))
  grown_faded i p l c (crashing a d e) = rw (d, e) (grown_crashed (station z i p))

  grown_step : (i p : ℕ) → Change i p → Grown (station z i p) (station z (suc i) p)
  grown_step i p (same e) = rw e (grown_not _)
  grown_step i p (comes a e) = rw (e, unused_blank i p (enters z i p a).unused) (grown_entered z.setup.first p)
  grown_step i p (fades l c f e) = rw e (grown_faded i p l c f)
  grown_step i p (begins_one t a e) = rw e (grown_begun t (station z i p))
  grown_step i p (hears_one n c a w e) = rw e (grown_heard z.setup.choice p c.content (station z i p))

  -- along a run, nothing of a station goes back
  pub grown : (p i j : ℕ) → i ≤ j → Grown (station z i p) (station z j p)
  grown p i j l = onward z (λ k. Grown (station z i p) (station z k p)) (λ k h. grown_twice _ _ _ h (grown_step k p (change k p))) i j l (grown_not _)

  -- who was used at a position and is present later was present in between, and so with crashes
  pub present_between : (p i j : ℕ) → i ≤ j → is_used (station z i p).life ≡ true → is_present (station z j p).life ≡ true → is_present (station z i p).life ≡ true
  present_between p i j l u h = elim (cases_Bool (is_present (station z i p).life)) [ inl e ↦ e | inr e ↦ absurd (both_ways _ (left_gone _ ((grown p i j l).left (gone_left _ u e))) h) ]

  pub not_crashed_before : (p i j : ℕ) → i ≤ j → (station z j p).crashed ≡ false → (station z i p).crashed ≡ false
  not_crashed_before p i j l h = elim (cases_Bool (station z i p).crashed) [ inl e ↦ absurd (both_ways _ h ((grown p i j l).crashed e)) | inr e ↦ e ]

  pub active_before : (p i j : ℕ) → i ≤ j → is_used (station z i p).life ≡ true → active_at z j p ≡ true → active_at z i p ≡ true
  active_before p i j l u h =
      let a = and_parts _ _ h in
      and_from _ _ (present_between p i j l u a.0) (not_from_false _ (not_crashed_before p i j l (not-true _ a.1)))

  pub active_used : (p i : ℕ) → active_at z i p ≡ true → is_used (station z i p).life ≡ true
  active_used p i h = present_used _ (and_parts _ _ h).0

  -- who was used has a number of the table
  pub used_in_table : (i p : ℕ) → is_used (station z i p).life ≡ true → p < z.setup.table
  used_in_table =
      stationwise (λ q x. is_used x.life ≡ true → q < z.setup.table)
      (λ q h. grind (arith, nat_tests, founders_fit z))
      (λ i q e h. e.in_table)
      (λ i q l c f k h. k (fades_used i q l c f))
      (λ i q t b k h. b.acts.in_table)
      (λ i q n c a w k h. (hears z i n q a).acts.in_table)

  pub used_in_range : (i p : ℕ) → is_used (station z i p).life ≡ true → p < 256
  used_in_range i p h = omega (arith, used_in_table i p h, table_high z)

  -- who is used was there at the start, or entered
  pub came : (q i : ℕ) → is_used (station z i q).life ≡ true → (is_used (station z 0 q).life ≡ true) ⊎ ((e : ℕ) × (e < i) × Accepted z e (step.Enter q))
  came q i h =
      elim (cases_Bool (is_used (station z 0 q).life)) [
        | inl b ↦ inl b
        | inr b ↦ let (k, x, y, f, t) = turns (λ j. is_used (station z j q).life) 0 i (omega arith) b h in inr (k, y, by k f t (change k q))
      ]
    where
      by : (k : ℕ) → is_used (station z k q).life ≡ false → is_used (station z (suc k) q).life ≡ true → Change k q → Accepted z k (step.Enter q)
      by k f t (same e) = absurd (both_ways _ f (sym (ap (λ x. is_used x.life) e) ∙ t))
      by k f t (comes a e) = a
      by k f t (fades l c g e) = absurd (both_ways _ f (fades_used k q l c g))
      by k f t (begins_one w a e) = absurd (both_ways _ f (present_used _ (begins z k q w a).acts.is_here))
      by k f t (hears_one n c a w e) = absurd (both_ways _ f (present_used _ (hears z k n q a).acts.is_here))

  -- who has left, left
  pub went : (q i : ℕ) → has_left (station z i q).life ≡ true → (e : ℕ) × (e < i) × Accepted z e (step.Leave q)
  went q i h = let (k, x, y, f, t) = turns (λ j. has_left (station z j q).life) 0 i (omega arith) none h in (k, y, by k f t (change k q))
    where
      none : has_left (station z 0 q).life ≡ false
      none = rw (station_start z q) (grind arith)

      by : (k : ℕ) → has_left (station z k q).life ≡ false → has_left (station z (suc k) q).life ≡ true → Change k q → Accepted z k (step.Leave q)
      by k f t (same e) = absurd (both_ways _ f (sym (ap (λ x. has_left x.life) e) ∙ t))
      by k f t (comes a e) = absurd (both_ways _ (ap (λ x. has_left x.life) e) t)
      by k f t (fades l c (leaving a d b) e) = a
      by k f t (fades l c (crashing a d b) e) = absurd (both_ways _ f (ap has_left (sym d) ∙ sym (ap (λ x. has_left x.life) e) ∙ t))
      by k f t (begins_one w a e) = absurd (both_ways _ f (sym (ap (λ x. has_left x.life) e) ∙ t))
      by k f t (hears_one n c a w e) = absurd (both_ways _ f (ap has_left (sym (hear_life z.setup.choice q c.content (station z k q))) ∙ sym (ap (λ x. has_left x.life) e) ∙ t))

  -- a number is entered once
  pub enters_once : (q i j : ℕ) → Accepted z i (step.Enter q) → Accepted z j (step.Enter q) → i ≡ j
  enters_once q i j a b = elim (cases_order i j) [ inl k ↦ k | inr k ↦ elim k [ inl l ↦ absurd (first i j a b l) | inr l ↦ absurd (first j i b a l) ] ]
    where
      first : (i j : ℕ) → Accepted z i (step.Enter q) → Accepted z j (step.Enter q) → i < j → ⊥
      first i j a b l = both_ways _ (enters z j q b).unused ((grown q (suc i) j l).used (entered_used q i a))
