-- What an accepted step passed and what the state then is, one lemma for each kind of step.
-- Later files learn of acceptance from these lemmas only. Rests on `Positions` and on the rules of refusal.
use Rattle.std.proofs.Common.{◌≡◌, ℕ, suc, ◌+◌, ◌<◌, ◌≤◌, Bool, true, false, not, ltb, List, [], ◌∷◌, length, is_some, Some, None, Option, sym, refl, ap, ◌∙◌, subst, add-zero, arith}
use Rattle.std.proofs.lemmas.Bool.{ltb-true, leb-true, not-true, both_ways}
use Rattle.std.proofs.lemmas.Option.{none-some}
use Rattle.carrier.specs.Counts.{earliest}
use Rattle.carrier.specs.Waits.{Waits}
use Rattle.network.specs.declared.content.Content.TheVariants.{Enter, Leave, Query}
use Rattle.network.specs.declared.fault.StepFault.{StepFault}
use Rattle.network.specs.declared.operation.Task.{Task}
use Rattle.network.specs.declared.operation.Task.TheVariants as task
use Rattle.network.specs.declared.step.Step.{Step}
use Rattle.network.specs.declared.step.Step.TheVariants as step
use Rattle.network.specs.Books.{allows, crashed_share}
use Rattle.network.specs.Changes.{changed, said, ticked, entered, departed, crashed, begun, applied, delivered, heard, answer}
use Rattle.network.specs.Keeping.{is_used, is_present, under_way, tag_of}
use Rattle.network.specs.Posting.{mails, send, sent_by}
use Rattle.network.specs.Refusals.{Test, unless, first_of, last_number, last_tick, due, mail_test, tests, refusal}
use Rattle.network.specs.Saying.{letters, to_all, says}
use Rattle.network.specs.States.{Copy, Mail, Room, Setup, State, present_total, crashed_total}
use Rattle.network.specs.Steps.{next}
use Rattle.runs.proofs.Positions.{Run, state, station, clock, waiting, D, Accepted, after_step}

pub some_is_not_none : {A : Type 0} (a : A) → Some a ≡ None → ⊥
some_is_not_none a e = none-some a (sym e)

-- where no test fails, the first one held and the others did
passed : (t : Test) (ts : List Test) → first_of (t ∷ ts) ≡ None → (t ≡ None) × (first_of ts ≡ None)
unfolding first_of
passed None ts e = (refl, e)
passed (Some f) ts e = absurd (some_is_not_none f e)

held : (b : Bool) (f : StepFault) (ts : List Test) → first_of (unless b f ∷ ts) ≡ None → (b ≡ true) × (first_of ts ≡ None)
held true f ts e = (refl, (passed None ts e).1)
held false f ts e = absurd (some_is_not_none f (passed (Some f) ts e).0)

module _ {R : Type 0} where
  -- messages that are not refused have numbers in their range
  numbers_suffice : (room : Room R) (w : Waits (Copy R)) (n : ℕ) (ms : List (Mail R)) → mail_test room w n ms ≡ None → n ≤ last_number + 1 → n + length ms ≤ last_number + 1
  unfolding mail_test
  numbers_suffice room w n [] e l = omega arith
  numbers_suffice room w n (m ∷ ms) e l = omega (arith, leb-true (n + length ms) last_number (held _ _ _ e).0)

  -- who says nothing posts nothing
  send_nothing : (p : ℕ) (s : State R) → send p [] s ≡ s
  unfolding mails
  send_nothing p s = ap (λ n. record { stations = s.stations; waits = s.waits; next = n; log = s.log; book = s.book; clock = s.clock }) (add-zero s.next)

  unfold_tests : (u : Setup R) (x : Step R) (s : State R) → refusal u x s ≡ None → first_of (tests u x s) ≡ None
  unfolding refusal
  unfold_tests u x s e = e

module _ {R : Type 0} (z : Run R) where
  -- the tests of one who acts: in the table, present, not crashed
  pub record Acts (i p : ℕ) : Type 0 where
    pub in_table : p < z.setup.table
    pub is_here : is_present (station z i p).life ≡ true
    pub not_crashed : (station z i p).crashed ≡ false

  -- the next number stays in its range
  abbrev pub NumbersSuffice : ℕ → Type 0
  NumbersSuffice i = (state z i).next ≤ last_number + 1 → (state z (suc i)).next ≤ last_number + 1

  suffice : (i : ℕ) (ms : List (Mail R)) → mail_test z.setup.room (state z i).waits (state z i).next ms ≡ None → (state z (suc i)).next ≡ (state z i).next + length ms → NumbersSuffice i
  suffice i ms e n l = omega (arith, numbers_suffice z.setup.room (state z i).waits (state z i).next ms e l)

  acts : (i p : ℕ) (f g h : StepFault) (ts : List Test)
      → first_of (unless (ltb p z.setup.table) f ∷ unless (is_present (station z i p).life) g ∷ unless (not (station z i p).crashed) h ∷ ts) ≡ None
      → Acts i p × (first_of ts ≡ None)
  acts i p f g h ts e =
      let a = held _ _ _ e in
      let b = held _ _ _ a.1 in
      let c = held _ _ _ b.1 in
      (record { in_table = ltb-true _ _ a.0; is_here = b.0; not_crashed = not-true _ c.0 }, c.1)

  pub record Ticks (i : ℕ) : Type 0 where
    -- no copy is due
    pub none_due : due (D z) (clock z i) (earliest (state z i).waits) ≡ false
    pub clock_goes_on : clock z i < last_tick
    pub leads : state z (suc i) ≡ ticked z.setup (state z i)

  pub ticks : (i : ℕ) → Accepted z i step.Tick → Ticks i
  unfolding tests next changed said
  ticks i t =
      let a = held _ _ _ (unfold_tests z.setup step.Tick (state z i) t.1) in
      record { none_due = not-true _ a.0; clock_goes_on = ltb-true _ _ (held _ _ _ a.1).0; leads = after_step z i _ t ∙ send_nothing 0 _ }

  pub record Enters (i p : ℕ) : Type 0 where
    pub in_table : p < z.setup.table
    pub unused : is_used (station z i p).life ≡ false
    pub allowed : allows z.setup.choice.alpha (clock z i) (state z i).book ≡ true
    pub numbers : NumbersSuffice i
    pub leads : state z (suc i) ≡ send p (to_all (Enter p) ∷ []) (entered z.setup p (state z i))

  pub enters : (i p : ℕ) → Accepted z i (step.Enter p) → Enters i p
  unfolding tests next changed said
  enters i p t =
      let a = held _ _ _ (unfold_tests z.setup (step.Enter p) (state z i) t.1) in
      let b = held _ _ _ a.1 in
      let c = held _ _ _ b.1 in
      record {
        in_table = ltb-true _ _ a.0;
        unused = not-true _ b.0;
        allowed = c.0;
        numbers = suffice i _ (passed _ _ c.1).0 (ap (λ s. s.next) (after_step z i _ t));
        leads = after_step z i _ t;
      }

  pub record Leaves (i p : ℕ) : Type 0 where
    pub acts : Acts i p
    pub allowed : allows z.setup.choice.alpha (clock z i) (state z i).book ≡ true
    -- enough are present once it has left, and not too many of them crashed
    pub enough : z.setup.choice.nmin ≤ present_total (departed p (state z i))
    pub share : crashed_share z.setup.choice.delta (crashed_total (departed p (state z i))) (present_total (departed p (state z i))) ≡ true
    pub numbers : NumbersSuffice i
    pub leads : state z (suc i) ≡ send p (to_all (Leave p) ∷ []) (departed p (state z i))

  pub leaves : (i p : ℕ) → Accepted z i (step.Leave p) → Leaves i p
  unfolding tests next changed said
  leaves i p t =
      let a = acts i p _ _ _ _ (unfold_tests z.setup (step.Leave p) (state z i) t.1) in
      let b = held _ _ _ a.1 in
      let c = held _ _ _ b.1 in
      let d = held _ _ _ c.1 in
      record {
        acts = a.0;
        allowed = b.0;
        enough = leb-true _ _ c.0;
        share = d.0;
        numbers = suffice i _ (passed _ _ d.1).0 (ap (λ s. s.next) (after_step z i _ t));
        leads = after_step z i _ t;
      }

  pub record Crashes (i p : ℕ) : Type 0 where
    pub acts : Acts i p
    -- not too many are crashed once it has
    pub share : crashed_share z.setup.choice.delta (crashed_total (crashed p (state z i))) (present_total (crashed p (state z i))) ≡ true
    pub leads : state z (suc i) ≡ crashed p (state z i)

  pub crashes : (i p : ℕ) → Accepted z i (step.Crash p) → Crashes i p
  unfolding tests next changed said
  crashes i p t =
      let a = acts i p _ _ _ _ (unfold_tests z.setup (step.Crash p) (state z i) t.1) in
      record { acts = a.0; share = (held _ _ _ a.1).0; leads = after_step z i _ t ∙ send_nothing p _ }

  -- the step that begins a task
  abbrev pub step_of : ℕ → Task R → Step R
  step_of p task.Read = step.Read p
  step_of p (task.Write r) = step.Write p r

  pub record Begins (i p : ℕ) (t : Task R) : Type 0 where
    pub acts : Acts i p
    pub joined : (station z i p).joined ≡ true
    pub idle : under_way (station z i p).operation ≡ false
    pub log_open : length (state z i).log.entries < z.setup.places
    pub numbers : NumbersSuffice i
    pub leads : state z (suc i) ≡ send p (to_all (Query p (tag_of (station z i p).operation + 1)) ∷ []) (begun z.setup p t (state z i))

  begins_by : (i p : ℕ) (t : Task R) (g h f : StepFault)
      → first_of (unless (station z i p).joined g ∷ unless (not (under_way (station z i p).operation)) h ∷
      mail_test z.setup.room (state z i).waits (state z i).next (sent_by p (to_all (Query p (tag_of (station z i p).operation + 1)) ∷ []) (begun z.setup p t (state z i)))
      ∷ unless (ltb (length (state z i).log.entries) z.setup.places) f ∷ []) ≡ None
      → Acts i p → state z (suc i) ≡ send p (to_all (Query p (tag_of (station z i p).operation + 1)) ∷ []) (begun z.setup p t (state z i)) → Begins i p t
  begins_by i p t g h f e a l =
      let b = held _ _ _ e in
      let c = held _ _ _ b.1 in
      let d = passed _ _ c.1 in
      record {
        acts = a;
        joined = b.0;
        idle = not-true _ c.0;
        log_open = ltb-true _ _ (held _ _ _ d.1).0;
        numbers = suffice i _ d.0 (ap (λ s. s.next) l);
        leads = l;
      }

  pub begins : (i p : ℕ) (t : Task R) → Accepted z i (step_of p t) → Begins i p t
  unfolding tests next changed said
  begins i p task.Read t =
      let a = acts i p _ _ _ _ (unfold_tests z.setup (step.Read p) (state z i) t.1) in
      begins_by i p task.Read _ _ _ a.1 a.0 (after_step z i _ t)
  begins i p (task.Write r) t =
      let a = acts i p _ _ _ _ (unfold_tests z.setup (step.Write p r) (state z i) t.1) in
      begins_by i p (task.Write r) _ _ _ a.1 a.0 (after_step z i _ t)

  pub record Hears (i n q : ℕ) : Type 0 where
    pub acts : Acts i q
    pub copy : Copy R
    pub waits : waiting z i n q ≡ Some copy
    pub numbers : NumbersSuffice i
    pub leads : state z (suc i) ≡ send q (letters (says q copy.content (station z i q) (heard z.setup q copy.content (state z i)))) (applied z.setup n q copy.content (state z i))

  pub hears : (i n q : ℕ) → Accepted z i (step.Deliver n q) → Hears i n q
  unfolding tests next changed said
  hears i n q t =
      let a = acts i q _ _ _ _ (unfold_tests z.setup (step.Deliver n q) (state z i) t.1) in
      let b = held _ _ _ a.1 in
      by (waiting z i n q) refl b.0 a.0 (passed _ _ b.1).0 (after_step z i _ t)
    where
      by : (o : Option (Copy R)) → waiting z i n q ≡ o → is_some (waiting z i n q) ≡ true → Acts i q
          → mail_test z.setup.room (state z i).waits (state z i).next
          (sent_by q (answer z.setup q (waiting z i n q) (state z i)) (delivered z.setup n q (waiting z i n q) (state z i))) ≡ None
          → state z (suc i) ≡ send q (answer z.setup q (waiting z i n q) (state z i)) (delivered z.setup n q (waiting z i n q) (state z i)) → Hears i n q
      by None e k a m l = absurd (both_ways _ (ap is_some e) k)
      by (Some c) e k a m l =
          let there = l ∙ ap (λ o. send q (answer z.setup q o (state z i)) (delivered z.setup n q o (state z i))) e in
          record {
            acts = a;
            copy = c;
            waits = e;
            numbers = suffice i _ (subst (λ o. mail_test z.setup.room (state z i).waits (state z i).next
                (sent_by q (answer z.setup q o (state z i)) (delivered z.setup n q o (state z i))) ≡ None) e m) (ap (λ s. s.next) there);
            leads = there;
          }
