-- How a fact travels: what is announced to all reaches whoever stays for D ticks; who was told before a station's entry hands
-- it on, by its answer to the entry or by its echo. Rests on `Hearings` and `Facts`.
use Rattle.std.proofs.Common.{◌≡◌, ℕ, suc, ◌+◌, ◌*◌, ◌<◌, ◌≤◌, true, ◌⊎◌, sym, refl, subst, inl, inr, arith}
use Rattle.std.proofs.lemmas.Bool.{cases_lt}
use Rattle.network.specs.declared.content.Content.{Content}
use Rattle.network.specs.declared.content.Content.TheVariants.{Enter, EnterEcho}
use Rattle.network.specs.declared.step.Step.TheVariants as step
use Rattle.network.specs.Knowing.{Set}
use Rattle.network.specs.Saying.{to_all, says}
use Rattle.runs.proofs.Positions.{Run, station, clock, active_at, D, Accepted}
use Rattle.runs.proofs.Start.{delay_some}
use Rattle.runs.proofs.Changes.{entered_used, grown, active_before}
use Rattle.runs.proofs.Clocks.{sooner}
use Rattle.runs.proofs.Facts.{Fact, holds, tells, echoed_by_all, grown_holds, received, echoed, answer_tells_all}
use Rattle.runs.proofs.Hearings.{HearsAt, SaysAll, enter_says, hearing_says, HeardBy, all_hear}

module _ {R : Type 0} (z : Run R) where
  -- along a run facts are held on
  pub holds_on : (q i j : ℕ) (F : Fact) → i ≤ j → holds (station z i q) F ≡ true → holds (station z j q) F ≡ true
  holds_on q i j F l h = grown_holds _ _ F (grown z q i j l) h

  -- who hears a content that tells F holds F from then on
  pub heard_holds : (i q j : ℕ) (m : Content R Set) (F : Fact) → HearsAt z i q m → tells m F ≡ true → i < j → holds (station z j q) F ≡ true
  heard_holds i q j m F h t l = holds_on q (suc i) j F l (subst (λ y. holds y F ≡ true) (sym h.after) (received z.setup.choice q m (station z i q) F t))

  -- what is said to all is held by whoever is active then and D ticks later
  reaches : (x by p i : ℕ) (m : Content R Set) (F : Fact) → SaysAll z x by m → tells m F ≡ true → active_at z (suc x) p ≡ true → active_at z i p ≡ true → clock z x + D z ≤ clock z i
      → holds (station z i p) F ≡ true
  reaches x by p i m F s t v w late =
      let h = all_hear z x by m s p i v (sooner z x i (omega (arith, delay_some z))) w late in
      heard_holds h.place p i m F h.hears t h.before

  -- at step x the fact F is said to all by a content that all echo
  pub record Announced (x : ℕ) (F : Fact) : Type 0 where
    pub by : ℕ
    pub says : Content R Set
    pub loud : echoed_by_all says ≡ true
    pub about : tells says F ≡ true
    pub told : SaysAll z x by says

  -- direct: who is active right after an announcement and D ticks later holds the fact
  pub direct : (x p i : ℕ) (F : Fact) → Announced x F → active_at z (suc x) p ≡ true → active_at z i p ≡ true → clock z x + D z ≤ clock z i → holds (station z i p) F ≡ true
  direct x p i F a = reaches x a.by p i a.says F a.told a.about

  -- who entered and is active later was active in between
  pub since_entry : (e p k i : ℕ) → Accepted z e (step.Enter p) → e < k → k ≤ i → active_at z i p ≡ true → active_at z k p ≡ true
  since_entry e p k i a l m v = active_before z p k i m ((grown z p (suc e) k l).used (entered_used z p e a)) v

  -- whoever hears what all echo hands it on
  echo_reaches : (k q p i : ℕ) (m : Content R Set) (F : Fact) → HearsAt z k q m → echoed_by_all m ≡ true → tells m F ≡ true → active_at z (suc k) p ≡ true → active_at z i p ≡ true
      → clock z k + D z ≤ clock z i → holds (station z i p) F ≡ true
  echo_reaches k q p i m F h l t =
      let (a, among, about) = echoed q m (station z k q) (station z (suc k) q) F l t (heard_holds k q (suc k) m F h t (omega arith)) in
      reaches k q p i a F (hearing_says z k q m (to_all a) h among) about

  -- q hears at v that p entered, and p hears at u the answer that q then gave
  pub record Answer (p v q u : ℕ) : Type 0 where
    pub asked : HearsAt z v q (Enter p)
    pub given : HearsAt z u p (EnterEcho (station z (suc v) q).known (station z (suc v) q).register (station z (suc v) q).joined p)
    pub later : v < u
    pub sender : given.copy.from ≡ q
    pub soon : clock z u < clock z v + D z

  -- the answer tells p all that q held
  pub answer_tells : (p v q u i : ℕ) (F : Fact) → Answer p v q u → u < i → holds (station z (suc v) q) F ≡ true → holds (station z i p) F ≡ true
  answer_tells p v q u i F a l h = heard_holds u p i _ F a.given (answer_tells_all p (station z (suc v) q) F h) l

  -- relay: what was announced before p entered, q got, and handed on to p by its answer or by its echo
  pub relay : (x e p v q u b i : ℕ) (F : Fact) → Announced x F → Accepted z e (step.Enter p) → e < v → Answer p v q u → u < i
      → active_at z (suc x) q ≡ true → active_at z b q ≡ true → clock z x + D z ≤ clock z b → active_at z i p ≡ true → clock z x + 2 * D z ≤ clock z i → holds (station z i p) F ≡ true
  relay x e p v q u b i F a ent ev ans ui vx vb early vi late = by (cases_lt v g.place)
    where
      g : HeardBy z x a.by q b a.says
      g = all_hear z x a.by a.says a.told q b vx (sooner z x b (omega (arith, delay_some z))) vb early

      by : (v < g.place) ⊎ (g.place ≤ v) → holds (station z i p) F ≡ true
      by (inl l) =
          let before_i : g.place < i = sooner z g.place i (omega (arith, g.soon, delay_some z)) in
          echo_reaches g.place q p i a.says F g.hears a.loud a.about (since_entry e p (suc g.place) i ent (omega arith) before_i vi) vi (omega (arith, g.soon))
      by (inr l) = answer_tells p v q u i F ans ui (heard_holds g.place q (suc v) a.says F g.hears a.about (omega arith))

  -- who is active right after p's entry and D ticks later answers it, and p has the answer before 2D ticks are over
  pub record Answered (e p q b i : ℕ) : Type 0 where
    pub asked_at : ℕ
    pub given_at : ℕ
    pub after : e < asked_at
    pub before_b : asked_at < b
    pub before : given_at < i
    pub answer : Answer p asked_at q given_at

  pub answers : (e p q b i : ℕ) → Accepted z e (step.Enter p) → active_at z (suc e) q ≡ true → clock z b ≡ clock z e + D z → active_at z b q ≡ true → active_at z i p ≡ true → clock z e + 2 * D z ≤ clock z i
      → Answered e p q b i
  unfolding says
  answers e p q b i ent ve tb vb vi late =
      record {
        asked_at = g.place;
        given_at = k.place;
        after = g.after;
        before_b = g.before;
        before = k.before;
        answer = record { asked = g.hears; given = k.hears; later = k.after; sender = k.sender; soon = k.soon };
      }
    where
      g : HeardBy z e p q b (Enter p)
      g = all_hear z e p (Enter p) (enter_says z e p ent) q b ve (sooner z e b (omega (arith, delay_some z))) vb (omega arith)

      reply : Content R Set
      reply = EnterEcho (station z (suc g.place) q).known (station z (suc g.place) q).register (station z (suc g.place) q).joined p

      before_i : g.place < i
      before_i = sooner z g.place i (omega (arith, g.soon, delay_some z))

      k : HeardBy z g.place q p i reply
      k = all_hear z g.place q reply (hearing_says z g.place q (Enter p) (to_all reply) g.hears (inl refl)) p i (since_entry e p (suc g.place) i ent (omega (arith, g.after)) before_i vi) before_i vi (omega (arith, g.soon))
