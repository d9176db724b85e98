-- The log's places are the operations, as it is promised: each accepted read or write stands at the place where the log then
-- ended, and of a write shows its record; there are no other places; and what has ended stays. Rests on `Turns`.
use Rattle.std.proofs.Common.{◌≡◌, ℕ, ◌<◌, true, eqb, length, Some, sym, refl, ap, ◌∙◌, subst, slice_get}
use Rattle.std.proofs.lemmas.Bool.{both_ways, eqb-true, eq-eqb}
use Rattle.network.specs.declared.entry.Entry.{Entry}
use Rattle.network.specs.declared.operation.Task.{Task}
use Rattle.network.specs.declared.operation.Task.TheVariants as task
use Rattle.network.specs.declared.step.Step.{Step}
use Rattle.network.specs.declared.step.Step.TheVariants as step
use Rattle.network.specs.Hearing.{kind_of}
use Rattle.network.specs.Promises.{begins_at, kind_ordered, ShowsOrdered, LogTells, LogOnlyTells, LogShows, LogStays}
use Rattle.runs.proofs.Positions.{Run, state, clock, Accepted}
use Rattle.runs.proofs.Accepted.{step_of}
use Rattle.runs.proofs.LogOverRuns.{entries, entry_on}
use Rattle.runs.proofs.Operations.{Logged, logged, logged_there}
use Rattle.runs.proofs.Turns.{write_shows}

module _ {R : Type 0} (z : Run R) where
  -- what the promise says of the read or write of step i at a later position
  Told : ℕ → ℕ → Step R → ℕ → Type 0
  Told i p x j =
      (e : Entry R) × (slice_get (entries z j) (length (entries z i)) ≡ Some e) × (e.station ≡ p) × (e.kind ≡ kind_ordered x) × (e.begin ≡ clock z i)
      × ShowsOrdered x e.value

  begun_told : (i p q : ℕ) (t : Task R) → Accepted z i (step_of z q t) → eqb q p ≡ true → (j : ℕ) → i < j → Told i p (step_of z q t) j
  unfolding Told
  begun_told i p q t a b j l =
      let o : Logged z (length (entries z i)) = record { owner = q; begun = i; task = t; accepted = a; place = refl } in
      let (e, h, s) = logged_there z o j l in
      (e, h, s.station ∙ eqb-true q p b, s.kind ∙ ordered t, s.begin, shows t e.value (λ r. write_shows z o j e r h))
    where
      shows : (t : Task R) (v : R) → ((r : R) → t ≡ task.Write r → v ≡ r) → ShowsOrdered (step_of z q t) v
      shows task.Read v f = tt
      shows (task.Write r) v f = f r refl

      ordered : (t : Task R) → kind_of t ≡ kind_ordered (step_of z q t)
      ordered task.Read = refl
      ordered (task.Write r) = refl

  told : (i p : ℕ) (x : Step R) → Accepted z i x → begins_at x p ≡ true → (j : ℕ) → i < j → Told i p x j
  told i p step.Tick a b j l = absurd (both_ways _ refl b)
  told i p (step.Enter q) a b j l = absurd (both_ways _ refl b)
  told i p (step.Leave q) a b j l = absurd (both_ways _ refl b)
  told i p (step.Crash q) a b j l = absurd (both_ways _ refl b)
  told i p (step.Read q) a b j l = begun_told i p q task.Read a b j l
  told i p (step.Write q r) a b j l = begun_told i p q (task.Write r) a b j l
  told i p (step.Deliver n q) a b j l = absurd (both_ways _ refl b)

  pub log_tells : LogTells z.setup z.founders z.steps
  unfolding state Told
  log_tells i p x e b a j l m = let (f, stands, owner, kind, begin, shows) = told i p x (e, a) b j l in (f, stands, owner, kind, begin)

  pub log_shows : LogShows z.setup z.founders z.steps
  unfolding state Told
  log_shows i p x e b a j f l h =
      let (g, stands, owner, kind, begin, shows) = told i p x (e, a) b j l in
      let same : g.value ≡ f.value = cc in
      subst (ShowsOrdered x) same shows

  -- the step that began the operation at a place of the log
  BegunBy : ℕ → Entry R → Type 0
  BegunBy y e = (i : ℕ) × (x : Step R) × Accepted z i x × (begins_at x e.station ≡ true) × (y ≡ length (entries z i))

  begun_by : (i y : ℕ) (e : Entry R) → slice_get (entries z i) y ≡ Some e → BegunBy y e
  unfolding BegunBy
  begun_by i y e h =
      let (o, s) = logged z i y e h in
      (o.begun, step_of z o.owner o.task, o.accepted, of_owner o.task o.owner s.station, sym o.place)
    where
      of_owner : (t : Task R) (q : ℕ) → e.station ≡ q → begins_at (step_of z q t) e.station ≡ true
      of_owner task.Read q k = eq-eqb q e.station (sym k)
      of_owner (task.Write r) q k = eq-eqb q e.station (sym k)

  pub log_only_tells : LogOnlyTells z.setup z.founders z.steps
  unfolding state BegunBy
  log_only_tells y e h = let (i, x, a, b, k) = begun_by (length z.steps) y e h in (i, x, a.0, b, a.1, k)

  pub log_stays : LogStays z.setup z.founders z.steps
  unfolding state
  log_stays i j y e l h s = let k = entry_on z y e i j l h in k.stands ∙ ap Some (k.unchanged s)
