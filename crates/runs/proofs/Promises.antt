-- Every run keeps the promises: one order of reads and writes, joins in time, ends in time, and a log that tells the operations.
-- Rests on `Assembly`, `Joins`, `Phases`, `Operations` and `LogTells`.
use Rattle.std.proofs.Common.{◌≡◌, ℕ, ◌+◌, ◌*◌, ◌≤◌, true, length, is_some, Some, None, sym, refl, ap, ◌∙◌, subst, arith, slice_get}
use Rattle.std.proofs.lemmas.Bool.{both_ways, eqb-true}
use Rattle.network.specs.declared.entry.Entry.{Entry}
use Rattle.network.specs.declared.operation.Task.{Task}
use Rattle.network.specs.declared.operation.Task.TheVariants as task
use Rattle.network.specs.declared.step.Step.{Step}
use Rattle.network.specs.declared.step.Step.TheVariants as step
use Rattle.network.specs.Keeping.{active}
use Rattle.network.specs.Promises.{begins_at, JoinsInTime, EndsInTime, Promised, PromisesKept, LogStands, LogsStand}
use Rattle.network.specs.Refusals.{refusal}
use Rattle.network.specs.Runs.{state_at}
use Rattle.runs.proofs.Positions.{Run, state_is, clock, active_at, D, Accepted}
use Rattle.runs.proofs.Accepted.{step_of}
use Rattle.runs.proofs.Assembly.{one_order}
use Rattle.runs.proofs.Joins.{joined_in_time}
use Rattle.runs.proofs.LogOverRuns.{entries}
use Rattle.runs.proofs.LogTells.{log_tells, log_only_tells, log_shows, log_stays}
use Rattle.runs.proofs.Operations.{Logged, logged_there, entry_ended}
use Rattle.runs.proofs.Phases.{operation_over}

module _ {R : Type 0} (z : Run R) where
  -- a step that is not refused where the rules put it is accepted
  accepted : (i : ℕ) (x : Step R) → slice_get z.steps i ≡ Some x → refusal z.setup x (state_at z.setup z.founders z.steps i) ≡ None → Accepted z i x
  accepted i x e r = (e, ap (refusal z.setup x) (state_is z i) ∙ r)

  -- the clock's distance between two positions
  far : (i j n : ℕ) → (state_at z.setup z.founders z.steps i).clock + n * D z ≤ (state_at z.setup z.founders z.steps j).clock → clock z i + n * D z ≤ clock z j
  far i j n l = omega (arith, ap (λ s. s.clock) (state_is z i), ap (λ s. s.clock) (state_is z j))

  still_active : (j p : ℕ) → active ((state_at z.setup z.founders z.steps j).stations p) ≡ true → active_at z j p ≡ true
  still_active j p v = ap (λ s. active (s.stations p)) (state_is z j) ∙ v

  pub joins_in_time : JoinsInTime z.setup z.founders z.steps
  joins_in_time i j p e r l late v =
      sym (ap (λ s. (s.stations p).joined) (state_is z j)) ∙ joined_in_time z i p j (accepted i (step.Enter p) e r) (still_active j p v) (far i j 2 late)

  -- the task of a step that begins an operation of p
  task_of : (x : Step R) (p : ℕ) → begins_at x p ≡ true → (t : Task R) × (x ≡ step_of z p t)
  task_of step.Tick p h = absurd (both_ways _ refl h)
  task_of (step.Enter q) p h = absurd (both_ways _ refl h)
  task_of (step.Leave q) p h = absurd (both_ways _ refl h)
  task_of (step.Crash q) p h = absurd (both_ways _ refl h)
  task_of (step.Read q) p h = (task.Read, ap (λ n. step.Read n) (eqb-true q p h))
  task_of (step.Write q v) p h = (task.Write v, ap (λ n. step.Write n v) (eqb-true q p h))
  task_of (step.Deliver n q) p h = absurd (both_ways _ refl h)

  pub ends_in_time : EndsInTime z.setup z.founders z.steps
  ends_in_time i j p x e b r l late v = by (task_of x p b)
    where
      by : (t : Task R) × (x ≡ step_of z p t)
          → (f : Entry R) × (slice_get (state_at z.setup z.founders z.steps j).log.entries (length (state_at z.setup z.founders z.steps i).log.entries) ≡ Some f) × (is_some f.end ≡ true)
      by (t, is) =
          let a : Accepted z i (step_of z p t) = subst (Accepted z i) is (accepted i x e r) in
          let o : Logged z (length (entries z i)) = record { owner = p; begun = i; task = t; accepted = a; place = refl } in
          let (f, stands, shows) = logged_there z o j l in
          let over = operation_over z i p j t a (still_active j p v) (far i j 4 late) in (
            f,
            subst (λ s. slice_get s.log.entries (length (state_at z.setup z.founders z.steps i).log.entries) ≡ Some f) (state_is z j)
                (subst (λ s. slice_get (entries z j) (length s.log.entries) ≡ Some f) (state_is z i) stands),
            ap is_some (entry_ended z o j f stands over).end,
          )

  pub promised : Promised z.setup z.founders z.steps
  promised = (one_order z, joins_in_time, ends_in_time, log_tells z, log_only_tells z)

  pub log_stands : LogStands z.setup z.founders z.steps
  log_stands = (log_shows z, log_stays z)

pub promises_kept : (R : Type 0) → PromisesKept R
promises_kept R u k xs a = promised (record { setup = u; founders = k; steps = xs; admitted = a })

pub logs_stand : (R : Type 0) → LogsStand R
logs_stand R u k xs a = log_stands (record { setup = u; founders = k; steps = xs; admitted = a })
