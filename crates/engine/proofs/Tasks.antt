-- Read and write: their tests, what they send, and what they change.
use Rattle.std.proofs.Common.{◌≡◌, ℕ, ◌+◌, ◌<◌, ◌≤◌, Bool, true, false, cond, not, eqb, ltb, List, [], ◌∷◌, ◌++◌, length, slice_get, take, Some, None, Ok, Err, refl, ap, ap₂, sym, ◌∙◌, arith}
use Rattle.std.specs.Prelude.{slice_index_or}
use Rattle.std.proofs.Math.Logic.{∥∥₁_elim}
use mathlib.Core.Bool.{Bool-set}
use Rattle.std.proofs.lemmas.Bool.{ltb-true}
use Rattle.std.proofs.lemmas.Bool.Decides.{nat_tests}
use Rattle.stations.specs.Members.{put}
use Rattle.network.specs.declared.content.Content.TheVariants.{Query}
use Rattle.network.specs.declared.fault.LogFault.TheVariants.{Full}
use Rattle.network.specs.declared.fault.StepFault.{StepFault}
use Rattle.network.specs.declared.fault.StepFault.TheVariants.{NotJoined, UnderWay, Log}
use Rattle.network.specs.declared.operation.Operation.{Operation}
use Rattle.network.specs.declared.operation.Operation.TheVariants.{Idle, PhaseOne, PhaseTwo}
use Rattle.network.specs.declared.operation.Task.{Task}
use Rattle.network.specs.declared.operation.Task.TheVariants as task
use Rattle.network.specs.declared.poll.Poll.{Poll}
use Rattle.network.specs.declared.station.Station.{Station}
use Rattle.network.specs.declared.step.Step.TheVariants.{Read, Write}
use Rattle.network.specs.Changes.{begin, begun, changed, said, actor}
use Rattle.network.specs.Keeping.{is_present, active, tag_of, under_way}
use Rattle.network.specs.Knowing.{Set}
use Rattle.network.specs.Limits.{can_begin}
use Rattle.network.specs.Posting.{mails}
use Rattle.network.specs.Refusals.{Test, unless, first_of, of_actor, mail_test, step_mails, sending_test, tests, refusal}
use Rattle.network.specs.Saying.{to_all}
use Rattle.network.specs.Shown.{shown}
use Rattle.stations.specs.declared.Stations.{Stations}
use Rattle.network.specs.States.{Mail, Setup, State}
use Rattle.network.specs.Steps.{has_ended, next, ended_at}
use Rattle.runs.proofs.Reached.{reached}
use Rattle.engine.specs.Beginnings.{beginning}
use Rattle.engine.specs.Memories.{passed, passed_with, stations_of}
use Rattle.engine.specs.Reached.{Reached}
use Rattle.engine.proofs.Faults.{fails_first, fault_with, fault_without, passed_without, passes_on, last_decides, is_none, held}
use Rattle.engine.proofs.Sent.{mails_sent, test_sent}
use Rattle.engine.proofs.Stations.{put_under, put_same, station_shown}

-- in a state that was reached the tag of a station can rise
pub tags_rise : {R : Type 0} (u : Setup R) (s : State R) (p : ℕ) → ∥ Reached u s ∥₁ → can_begin (s.stations p) ≡ true
tags_rise u s p r = ∥∥₁_elim r (Bool-set _ _) (λ r. (reached u r.k r.steps r.start s r.came).begin p)

-- tests behind others, each part by the first that fails
first_append : (xs ys : List Test) → first_of (xs ++ ys) ≡ first_of (first_of xs ∷ first_of ys ∷ [])
unfolding first_of
first_append [] ys = sym (last_decides (first_of ys))
first_append (None ∷ xs) ys = first_append xs ys
first_append (Some f ∷ xs) ys = refl

both_none : (a b : Test) → first_of (a ∷ b ∷ []) ≡ None → (a ≡ None) × (b ≡ None)
unfolding first_of
both_none None None h = (refl, refl)
both_none None (Some g) h = cc
both_none (Some f) b h = cc

-- what is chosen where a test holds
pub chosen : {A : Type 0} (b : Bool) (x y z : A) → z ≡ cond b x y → b ≡ true → z ≡ x
chosen b x y z h e = h ∙ ap (λ (b : Bool). cond b x y) e

-- a station and the tag of its next operation
abbrev pub both : ℕ → ℕ → ℕ × ℕ
both q tag = (q, tag)

-- whether a station may begin: it has joined, and no operation is under way
abbrev pub free_tests : {R : Type 0} → Station R Set → List Test
free_tests x = unless x.joined NotJoined ∷ unless (not (under_way x.operation)) UnderWay ∷ []

-- the station of the table that was read
pub found : {R : Type 0} (first : R) (t : ℕ) (xs : List (Station R Stations)) (p q : ℕ) → q ≡ p → p < t → t ≤ length xs
    → (y : Station R Stations) → ((d : Station R Stations) → y ≡ slice_index_or xs q d) → stations_of first (take t xs) p ≡ shown y
found first t xs p q same low long y read =
    station_shown first t xs p low long y ∙ ap (λ (p : ℕ). shown (slice_index_or xs p y)) (sym same) ∙ sym (ap shown (read y))

module _ {R : Type 0} (o : Operation R) (joined : Bool) where
  pub not_joined : (e : StepFault) → Err e ≡ passed (unless joined NotJoined) → Err e ≡ passed_with (tag_of o) (first_of (unless joined NotJoined ∷ unless (not (under_way o)) UnderWay ∷ []))
  not_joined e h = fault_with (tag_of o) _ e (fails_first (unless joined NotJoined) _ e h)

  module _ (has : Ok tt ≡ passed (unless joined NotJoined)) where
    second : first_of (unless joined NotJoined ∷ unless (not (under_way o)) UnderWay ∷ []) ≡ unless (not (under_way o)) UnderWay
    second = passes_on _ _ has ∙ last_decides _

    pub idle_told : (tag : ℕ) → o ≡ Idle tag → Ok tag ≡ passed_with (tag_of o) (first_of (unless joined NotJoined ∷ unless (not (under_way o)) UnderWay ∷ []))
    idle_told tag is = sym (ap (passed_with (tag_of o)) second ∙ ap (λ (o : Operation R). passed_with (tag_of o) (unless (not (under_way o)) UnderWay)) is)

    pub busy_told : under_way o ≡ true → Err UnderWay ≡ passed_with (tag_of o) (first_of (unless joined NotJoined ∷ unless (not (under_way o)) UnderWay ∷ []))
    busy_told busy = sym (ap (passed_with (tag_of o)) second ∙ ap (λ (b : Bool). passed_with (tag_of o) (unless (not b) UnderWay)) busy)

-- what holds once q may begin as p, where these are the messages of its query
pub record Granted {R : Type 0} (u : Setup R) (s : State R) (p q : ℕ) (t : Task R) (ms : List (Mail R)) : Type 0 where
  pub same : q ≡ p
  pub within : q < u.table
  pub sent : ms ≡ step_mails u (beginning p t) s
  pub accepted : refusal u (beginning p t) s ≡ None
  pub fits : sending_test u (beginning p t) s ≡ None
  pub opens : ltb (length s.log.entries) u.places ≡ true
  pub leads : begun u q t s ≡ changed u (beginning p t) s

module _ {R : Type 0} (u : Setup R) (s : State R) (p : ℕ) where
  abbrev acting : Test
  acting = first_of (of_actor u p s [])

  abbrev ready : Test
  ready = first_of (of_actor u p s (free_tests (s.stations p)))

  told_ready : ready ≡ first_of (acting ∷ first_of (free_tests (s.stations p)) ∷ [])
  told_ready = first_append (of_actor u p s []) (free_tests (s.stations p))

  pub not_acting : {A : Type 0} (x : A) (e : StepFault) → Err e ≡ passed_with p acting → Err e ≡ passed_with x ready
  not_acting x e h = fault_with x _ e (fails_first acting (first_of (free_tests (s.stations p)) ∷ []) e (fault_without p acting e h) ∙ ap passed (sym told_ready))

  module _ (q : ℕ) (acts : Ok q ≡ passed_with p acting) where
    pub acts_within : p < u.table
    acts_within = ltb-true _ _ (held _ _ _ (is_none acting (passed_without p q acting acts).0)).0

    pub acts_same : q ≡ p
    acts_same = (passed_without p q acting acts).1

  module _ (q : ℕ) (acts : Ok q ≡ passed_with p acting) (y : Station R Set) (is : s.stations p ≡ y) where
    behind : ready ≡ first_of (free_tests y)
    behind = told_ready ∙ passes_on acting _ (passed_without p q acting acts).0 ∙ last_decides _ ∙ ap (λ y. first_of (free_tests y)) is

    pub not_free : {A : Type 0} (x : A) (e : StepFault) → Err e ≡ passed_with (tag_of y.operation) (first_of (free_tests y)) → Err e ≡ passed_with x ready
    not_free x e h = fault_with x _ e (fault_without (tag_of y.operation) _ e h ∙ ap passed (sym behind))

    pub is_free : (tag : ℕ) → Ok tag ≡ passed_with (tag_of y.operation) (first_of (free_tests y)) → Ok (both q (tag + 1)) ≡ passed_with (both p (tag_of (s.stations p).operation + 1)) ready
    is_free tag h =
        let g = passed_without (tag_of y.operation) tag _ h in
        ap₂ (λ (q n : ℕ). Ok (both q (n + 1))) (acts_same q acts) (g.1 ∙ ap (λ (y : Station R Set). tag_of y.operation) (sym is))
        ∙ sym (ap (passed_with (both p (tag_of (s.stations p).operation + 1))) (behind ∙ is_none _ g.0))

    pub next_fits : (tag : ℕ) → Ok tag ≡ passed_with (tag_of y.operation) (first_of (free_tests y)) → can_begin (s.stations p) ≡ true → tag + 1 ≤ 4294967295
    next_fits tag h rises =
        let same = (passed_without (tag_of y.operation) tag _ h).1 ∙ ap (λ (y : Station R Set). tag_of y.operation) (sym is) in
        omega (arith, same, ltb-true (tag_of (s.stations p).operation) 4294967295 rises)

  abbrev full : Test
  full = unless (ltb (length s.log.entries) u.places) (Log Full)

  told : (t : Task R) → first_of (ready ∷ first_of (sending_test u (beginning p t) s ∷ full ∷ []) ∷ []) ≡ refusal u (beginning p t) s
  unfolding refusal tests
  told task.Read = sym (first_append (of_actor u p s (free_tests (s.stations p))) (sending_test u (Read p) s ∷ full ∷ []))
  told (task.Write r) = sym (first_append (of_actor u p s (free_tests (s.stations p))) (sending_test u (Write p r) s ∷ full ∷ []))

  pub not_ready : {A : Type 0} (t : Task R) (x : A) (e : StepFault) → Err e ≡ passed_with x ready → Err e ≡ passed (refusal u (beginning p t) s)
  not_ready t x e h = fails_first ready _ e (fault_without x ready e h) ∙ ap passed (told t)

  -- the changed station stays present and active as it was
  pub begun_present : (t : Task R) (r : ℕ) → is_present (put s.stations p (begin t (s.stations p)) r).life ≡ is_present (s.stations r).life
  begun_present t r = put_under (λ x. is_present x.life) s.stations p (begin t (s.stations p)) r ∙ put_same (λ r. is_present (s.stations r).life) p r

  pub begun_active : (t : Task R) (r : ℕ) → active (put s.stations p (begin t (s.stations p)) r) ≡ active (s.stations r)
  begun_active t r = put_under active s.stations p (begin t (s.stations p)) r ∙ put_same (λ r. active (s.stations r)) p r

  begun_changed : (t : Task R) → begun u p t s ≡ changed u (beginning p t) s
  unfolding changed
  begun_changed task.Read = refl
  begun_changed (task.Write r) = refl

  said_query : (t : Task R) → said u (beginning p t) s ≡ to_all (Query p (tag_of (s.stations p).operation + 1)) ∷ []
  unfolding said
  said_query task.Read = refl
  said_query (task.Write r) = refl

  begins_here : (t : Task R) → actor (beginning p t) ≡ p
  begins_here task.Read = refl
  begins_here (task.Write r) = refl

  module _ (q tag : ℕ) (is_ready : Ok (both q tag) ≡ passed_with (both p (tag_of (s.stations p).operation + 1)) ready) (t : Task R) where
    passed_ready : (Ok tt ≡ passed ready) × (both q tag ≡ both p (tag_of (s.stations p).operation + 1))
    passed_ready = passed_without (both p (tag_of (s.stations p).operation + 1)) (both q tag) ready is_ready

    same_station : q ≡ p
    same_station = ap (λ (z : ℕ × ℕ). z.0) passed_ready.1

    ready_within : p < u.table
    ready_within = ltb-true _ _ (held _ _ _ (is_none ready passed_ready.0)).0

    module _ (who : Set) (ms : List (Mail R)) (made : ms ≡ mails q s.clock who s.next (to_all (Query q tag) ∷ [])) (acts : (r : ℕ) → who r ≡ active (s.stations r)) where
      sent : ms ≡ step_mails u (beginning p t) s
      sent =
          mails_sent u (beginning p t) s who (to_all (Query p (tag_of (s.stations p).operation + 1)) ∷ []) ms
          (made
          ∙ ap (λ (z : ℕ × ℕ). mails z.0 s.clock who s.next (to_all (Query z.0 z.1) ∷ [])) passed_ready.1
          ∙ ap (λ (a : ℕ). mails a s.clock who s.next (to_all (Query p (tag_of (s.stations p).operation + 1)) ∷ [])) (sym (begins_here t)))
          (said_query t)
          (λ r. acts r ∙ sym (begun_active t r) ∙ ap (λ (v : State R). active (v.stations r)) (begun_changed t))

      abbrev places : Test
      places = first_of (mail_test u.room s.waits s.next ms ∷ full ∷ [])

      decides : places ≡ refusal u (beginning p t) s
      decides =
          ap (λ (m : Test). first_of (m ∷ full ∷ [])) (test_sent u (beginning p t) s ms sent)
          ∙ sym (last_decides _) ∙ sym (passes_on ready _ passed_ready.0) ∙ told t

      pub no_place : (e : StepFault) → Err e ≡ passed places → Err e ≡ passed (refusal u (beginning p t) s)
      no_place e h = h ∙ ap passed decides

      pub granted : Ok tt ≡ passed places → Granted u s p q t ms
      granted fits =
          let parts = both_none _ _ (is_none _ fits) in
          record {
            same = same_station;
            within = omega (arith, same_station, ready_within);
            sent = sent;
            accepted = sym decides ∙ is_none _ fits;
            fits = sym (test_sent u (beginning p t) s ms sent) ∙ parts.0;
            opens = (held _ _ [] (last_decides _ ∙ parts.1)).0;
            leads = ap (λ (q : ℕ). begun u q t s) same_station ∙ begun_changed t;
          }

-- who begins ends nothing
never_ended : {R : Type 0} (o : Operation R) (t : Task R) (poll : Poll) → has_ended o (PhaseOne t poll) ≡ false
never_ended (Idle a) t poll = refl
never_ended (PhaseOne v a) t poll = refl
never_ended (PhaseTwo k a v) t poll = refl

put_here : {A : Type 0} (s : ℕ → A) (p : ℕ) (a : A) → put s p a p ≡ a
unfolding put
put_here s p a = let same : eqb p p ≡ true = grind (arith, nat_tests) in ap (λ (b : Bool). cond b a (s p)) same

module _ {R : Type 0} (u : Setup R) (s : State R) (p : ℕ) where
  begun_not_ended : (t : Task R) → has_ended (s.stations p).operation (put s.stations p (begin t (s.stations p)) p).operation ≡ false
  begun_not_ended t = ap (λ (x : Station R Set). has_ended (s.stations p).operation x.operation) (put_here s.stations p (begin t (s.stations p))) ∙ never_ended (s.stations p).operation t _

  pub none_ended : (t : Task R) → None ≡ ended_at (actor (beginning p t)) s (next u (beginning p t) s)
  unfolding next changed
  none_ended task.Read = sym (ap (λ (b : Bool). cond b (slice_get (next u (Read p) s).log.entries ((next u (Read p) s).log.latest p)) None) (begun_not_ended task.Read))
  none_ended (task.Write r) = sym (ap (λ (b : Bool). cond b (slice_get (next u (Write p r) s).log.entries ((next u (Write p r) s).log.latest p)) None) (begun_not_ended (task.Write r)))
