-- The bound of a station that joins: at whose answer it was set, and to what. Rests on `EntryAnswers`.
use Rattle.std.proofs.Common.{◌≡◌, ℕ, zero, suc, ◌<◌, Bool, true, false, is_some, Some, None, Option, sym, refl, ap, ◌∙◌, arith}
use Rattle.std.proofs.lemmas.Bool.Decides.{nat_tests}
use Rattle.settings.specs.declared.choice.Choice.{Choice}
use Rattle.network.specs.declared.content.Content.{Content}
use Rattle.network.specs.declared.content.Content.TheVariants.{EnterEcho}
use Rattle.network.specs.declared.known.Known.{Known}
use Rattle.network.specs.declared.register.Register.{Register}
use Rattle.network.specs.declared.station.Station.{Station}
use Rattle.network.specs.declared.step.Step.TheVariants as step
use Rattle.network.specs.Hearing.{hear}
use Rattle.network.specs.Knowing.{Set, present_count, add_known}
use Rattle.network.specs.States.{Copy}
use Rattle.runs.proofs.Positions.{Run, station, waiting, Accepted}
use Rattle.runs.proofs.Accepted.{some_is_not_none}
use Rattle.runs.proofs.Changes.{Change, same, comes, fades, begins_one, hears_one, change, grown}
use Rattle.runs.proofs.EntryAnswers.{reply_answer}
use Rattle.runs.proofs.Requests.{entry, replies}
use Rattle.runs.proofs.RequestsHeard.{some_of}
use Rattle.runs.proofs.Start.{at_start}
use Rattle.runs.proofs.Tallies.{copy_reply}
use Rattle.runs.proofs.Travel.{Answer}

module _ {R : Type 0} (c : Choice) (p : ℕ) (x : Station R Set) where
  -- a bound is set at an answer
  bound_answer : (m : Content R Set) (b : ℕ) → x.bound ≡ None → (hear c p m x).bound ≡ Some b → replies p entry m ≡ true
  unfolding hear
  bound_answer m b n h = grind (arith, nat_tests)

  -- of one who has joined, to the present count of all that is then known
  bound_is : (k : Known Set) (v : Register R) (f : Bool) (b : ℕ) → x.bound ≡ None → (hear c p (EnterEcho k v f p) x).bound ≡ Some b
      → (f ≡ true) × (b ≡ present_count (add_known x.known k))
  unfolding hear
  bound_is k v f b n h = (grind (arith, nat_tests), grind (arith, nat_tests))

  answer_bounds : (k : Known Set) (v : Register R) (f : Bool) → f ≡ true → x.joined ≡ false → is_some (hear c p (EnterEcho k v f p) x).bound ≡ true
  unfolding hear
  answer_bounds k v f e j = grind (arith, nat_tests)

module _ {R : Type 0} (z : Run R) where
  -- p set its bound at step `set_at`, at the answer that q, who had joined, gave at `given_at`
  pub record BoundSet (i p bound : ℕ) : Type 0 where
    pub q : ℕ
    pub given_at : ℕ
    pub set_at : ℕ
    pub answer : Answer z p given_at q set_at
    pub before : set_at < i
    pub joined : (station z (suc given_at) q).joined ≡ true
    pub is : bound ≡ present_count (add_known (station z set_at p).known (station z (suc given_at) q).known)

  start_unbounded : (p : ℕ) → (station z 0 p).bound ≡ None
  start_unbounded p = at_start z (λ x. x.bound) None refl refl p

  first_bound : (i p n b : ℕ) (c : Copy R) → Accepted z i (step.Deliver n p) → waiting z i n p ≡ Some c → station z (suc i) p ≡ hear z.setup.choice p c.content (station z i p)
      → (station z i p).bound ≡ None → (station z (suc i) p).bound ≡ Some b → BoundSet (suc i) p b
  first_bound i p n b c a w e o h =
      let d = copy_reply z i n p entry c a w (bound_answer z.setup.choice p (station z i p) c.content b o (sym (ap (λ x. x.bound) e) ∙ h)) in
      let g = reply_answer z i p c.from d in
      let (f, k) = bound_is z.setup.choice p (station z i p) _ _ _ b o (sym (ap (λ x. x.bound) g.given.after) ∙ h) in
      record { q = c.from; given_at = d.place; set_at = i; answer = g; before = omega arith; joined = f; is = k }

  pub bound_set : (i p b : ℕ) → (station z i p).bound ≡ Some b → BoundSet i p b
  bound_set zero p b h = absurd (some_is_not_none b (sym h ∙ start_unbounded p))
  bound_set (suc i) p b h = by (station z i p).bound refl (bound_set i p)
    where
      still : (station z (suc i) p).bound ≡ (station z i p).bound → (station z i p).bound ≡ None → BoundSet (suc i) p b
      still e o = absurd (some_is_not_none b (sym h ∙ e ∙ o))

      new : Change z i p → (station z i p).bound ≡ None → BoundSet (suc i) p b
      new (same e) o = still (ap (λ x. x.bound) e) o
      new (comes a e) o = absurd (some_is_not_none b (sym h ∙ ap (λ x. x.bound) e))
      new (fades l c f e) o = still (ap (λ x. x.bound) e) o
      new (begins_one t a e) o = still (ap (λ x. x.bound) e) o
      new (hears_one n c a w e) o = first_bound i p n b c a w e o h

      by : (o : Option ℕ) → (station z i p).bound ≡ o → ((b : ℕ) → (station z i p).bound ≡ Some b → BoundSet i p b) → BoundSet (suc i) p b
      by None e earlier = new (change z i p) e
      by (Some n) e earlier =
          let f : Some n ≡ Some b = sym ((grown z p i (suc i) (omega arith)).bound n e) ∙ h in
          let g : n ≡ b = cc in
          let s = earlier b (e ∙ ap Some g) in
          record { q = s.q; given_at = s.given_at; set_at = s.set_at; answer = s.answer; before = omega (arith, s.before); joined = s.joined; is = s.is }

  -- an answer of one who has joined sets the bound of one who has not, if none is set
  pub sets_bound : (p v q u i : ℕ) → Answer z p v q u → (station z (suc v) q).joined ≡ true → (station z u p).joined ≡ false → u < i → (b : ℕ) × ((station z i p).bound ≡ Some b)
  sets_bound p v q u i a j o l =
      let (b, e) = some_of _ (answer_bounds z.setup.choice p (station z u p) (station z (suc v) q).known (station z (suc v) q).register _ j o) in
      (b, (grown z p (suc u) i l).bound b (ap (λ x. x.bound) a.given.after ∙ e))
