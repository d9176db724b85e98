-- How a phase begins: who asks, with what base, and which stamp phase two spreads; and that its base stays while replies are
-- awaited. Rests on `Asked`, `Ranks`, `Changes` and `Members`.
use Rattle.std.proofs.Common.{◌≡◌, ℕ, zero, suc, ◌+◌, ◌*◌, ◌<◌, ◌≤◌, true, false, ◌⊎◌, [], ◌∷◌, sym, refl, ap, ◌∙◌, subst, inl, inr, arith}
use Rattle.std.proofs.lemmas.Bool.{cases_lt, both_ways, and_parts, and_from, not_from_false, eqb-true, eq-eqb}
use Rattle.std.proofs.lemmas.Bool.Decides.{nat_tests as tests}
use Rattle.settings.specs.declared.choice.Choice.{Choice}
use Rattle.stations.proofs.Counting.{put_here}
use Rattle.network.specs.declared.content.Content.{Content}
use Rattle.network.specs.declared.content.Content.TheVariants.{Enter, EnterEcho, Joined, JoinedEcho, Leave, LeaveEcho, Query, Response, Update, Ack, UpdateEcho}
use Rattle.network.specs.declared.letter.Letter.{Letter}
use Rattle.network.specs.declared.operation.Operation.{Operation}
use Rattle.network.specs.declared.operation.Task.{Task}
use Rattle.network.specs.declared.station.Station.{Station}
use Rattle.network.specs.declared.step.Step.{Step}
use Rattle.network.specs.declared.step.Step.TheVariants as step
use Rattle.network.specs.declared.letter.Speech.{Speech}
use Rattle.network.specs.declared.letter.Speech.TheVariants.{Silent, One, Two}
use Rattle.network.specs.Changes.{begin, said, actor, answer}
use Rattle.network.specs.Hearing.{hear}
use Rattle.network.specs.Keeping.{active as active_station, under_way, tag_of, newcomer}
use Rattle.network.specs.Knowing.{Set, member_count}
use Rattle.network.specs.Saying.{letters, to_all, to_only, says}
use Rattle.runs.proofs.Positions.{Run, state, station, active_at, Accepted}
use Rattle.runs.proofs.Accepted.{step_of, begins, hears}
use Rattle.runs.proofs.Asked.{AsksAt}
use Rattle.runs.proofs.Changes.{Change, same, comes, fades, begins_one as begins_here, hears_one, change}
use Rattle.runs.proofs.Hearings.{begin_says, hears_copy, hears_active, hearing_says}
use Rattle.runs.proofs.Members.{busy_joined}
use Rattle.runs.proofs.Facts.{stamped, tells, echoed_by_all}
use Rattle.runs.proofs.Mails.{Among}
use Rattle.runs.proofs.Ranks.{rank, rank_on, rank_turns, rank_query, query_rank, rank_update, update_rank}
use Rattle.runs.proofs.Requests.{Request, entry, query, update, is_entry, awaits, asks, replies, in_one, in_two}
use Rattle.runs.proofs.SmallNumbers.{base_of}
use Rattle.runs.proofs.Stamps.{up_to_itself}

module _ {R : Type 0} where
  -- who is asked for its record, or to take one, and has joined, replies to the asker
  pub reply_said : (q : ℕ) (m : Content R Set) (x y : Station R Set) (p : ℕ) (r : Request) → is_entry r ≡ false → asks p r m ≡ true → y.joined ≡ true
      → (a : Content R Set) × Among (to_only p a) (letters (says q m x y)) × (replies p r a ≡ true)
  unfolding says
  reply_said q (Enter of) x y p r n h j = absurd (both_ways _ n (and_parts _ _ h).0)
  reply_said q (EnterEcho known offer f of) x y p r n h j = absurd (both_ways _ refl h)
  reply_said q (Joined of) x y p r n h j = absurd (both_ways _ refl h)
  reply_said q (JoinedEcho of) x y p r n h j = absurd (both_ways _ refl h)
  reply_said q (Leave of) x y p r n h j = absurd (both_ways _ refl h)
  reply_said q (LeaveEcho of) x y p r n h j = absurd (both_ways _ refl h)
  reply_said q (Query asker tag) x y p r n h j =
      let (a, b) = and_parts _ _ h in
      (Response y.register tag, rw j (inl (ap (λ p. to_only p (Response y.register tag)) (sym (eqb-true asker p b)))), a)
  reply_said q (Response offer tag) x y p r n h j = absurd (both_ways _ refl h)
  reply_said q (Update offer tag asker) x y p r n h j =
      let (a, b) = and_parts _ _ h in
      (Ack tag, rw j (inl (ap (λ p. to_only p (Ack tag)) (sym (eqb-true asker p b)))), a)
  reply_said q (Ack tag) x y p r n h j = absurd (both_ways _ refl h)
  reply_said q (UpdateEcho offer) x y p r n h j = absurd (both_ways _ refl h)

  -- while it awaits replies in a phase, a station that hears keeps the base
  hear_base : (c : Choice) (q : ℕ) (m : Content R Set) (x : Station R Set) (r : Request) → is_entry r ≡ false → awaits x r ≡ true → awaits (hear c q m x) r ≡ true
      → base_of (hear c q m x).operation ≡ base_of x.operation
  unfolding hear
  hear_base c q m x r n a b = grind (arith, tests)

  -- where it hears and turns to phase two, it has the base of the members it knows, and spreads the register it then holds
  turns_two : (c : Choice) (q : ℕ) (m : Content R Set) (x : Station R Set) (t : ℕ) → awaits x (query t) ≡ true → awaits (hear c q m x) (update t) ≡ true
      → (base_of (hear c q m x).operation ≡ member_count x.known) × (says q m x (hear c q m x) ≡ One (to_all (Update (hear c q m x).register t q)))
  unfolding hear says
  turns_two c q m x t a b = (grind (arith, tests), grind (arith, tests))

  -- the speech is of the letter k, or of k and j
  abbrev pub Speaks : Speech R Set → Letter R Set → Letter R Set → Type 0
  Speaks v k j = (v ≡ One k) ⊎ (v ≡ Two k j) ⊎ (v ≡ Two j k)

  pub speaks : (v : Speech R Set) (l : Letter R Set) → Among l (letters v) → (j : Letter R Set) × Speaks v l j
  speaks Silent l a = absurd a
  speaks (One k) l (inl e) = (l, inl (ap One (sym e)))
  speaks (One k) l (inr a) = absurd a
  speaks (Two k j) l (inl e) = (j, inr (inl (ap (λ k. Two k j) (sym e))))
  speaks (Two k j) l (inr (inl e)) = (k, inr (inr (ap (Two k) (sym e))))
  speaks (Two k j) l (inr (inr a)) = absurd a

  -- an update that is said on hearing spreads the register of its sender
  update_in : (q : ℕ) (m : Content R Set) (x y : Station R Set) (k j : Letter R Set) (p t : ℕ) → asks p (update t) k.content ≡ true → Speaks (says q m x y) k j → k.content ≡ Update y.register t p
  unfolding says
  update_in q m x y k j p t h e = grind (arith, tests)

  update_said : (q : ℕ) (m : Content R Set) (x y : Station R Set) (l : Letter R Set) (p t : ℕ) → Among l (letters (says q m x y)) → asks p (update t) l.content ≡ true
      → l.content ≡ Update y.register t p
  update_said q m x y l p t a h = let (j, e) = speaks (says q m x y) l a in update_in q m x y l j p t h e

  -- who is idle awaits nothing; phase one is not phase two, and is under way
  idle_awaits : (x : Station R Set) (r : Request) → is_entry r ≡ false → under_way x.operation ≡ false → awaits x r ≡ false
  idle_awaits x r n h = grind arith

  one_not_two : (o : Operation R) (t : ℕ) → in_one t o ≡ true → in_two t o ≡ false
  one_not_two o t h = grind arith

  one_busy : (o : Operation R) (t : ℕ) → in_one t o ≡ true → under_way o ≡ true
  one_busy o t h = grind arith

module _ {R : Type 0} (z : Run R) where
  -- p begins the phase of request r at step s
  pub record BeginsPhase (s p : ℕ) (r : Request) : Type 0 where
    pub asked : AsksAt z s p r
    pub phase : is_entry r ≡ false
    pub active : active_at z s p ≡ true
    pub joined : (station z s p).joined ≡ true
    pub new : awaits (station z s p) r ≡ false
    pub base : base_of (station z (suc s) p).operation ≡ member_count (station z s p).known

  -- how its station is as an operation begins
  pub begins_as : (s p : ℕ) (t : Task R) → Accepted z s (step_of z p t) → station z (suc s) p ≡ begin t (station z s p)
  begins_as s p t a = ap (λ s. s.stations p) (begins z s p t a).leads ∙ put_here _ p _

  -- phase one begins with the operation, and phase two at the reply that ends phase one
  pub begins_one : (s p : ℕ) (t : Task R) → Accepted z s (step_of z p t) → BeginsPhase s p (query (tag_of (station z s p).operation + 1))
  begins_one s p t a =
      let b = begins z s p t a in
      let x = station z s p in
      let n = tag_of x.operation + 1 in
      let after = begins_as s p t a in
      let active : active_at z s p ≡ true = and_from _ _ b.acts.is_here (not_from_false _ b.acts.not_crashed) in
      record {
        asked = record {
          words = Query p n;
          said = begin_says z s p t a;
          request = and_from _ _ (eq-eqb n n refl) (eq-eqb p p refl);
          active = ap active_station after ∙ active;
          waits = ap (λ x. awaits x (query n)) after ∙ eq-eqb n n refl;
        };
        phase = refl;
        active = active;
        joined = b.joined;
        new = idle_awaits x (query n) refl b.idle;
        base = ap (λ x. base_of x.operation) after;
      }

  pub begins_two : (s p t : ℕ) → awaits (station z s p) (query t) ≡ true → awaits (station z (suc s) p) (update t) ≡ true → BeginsPhase s p (update t)
  begins_two s p t a b = by (change z s p)
    where
      x : Station R Set
      x = station z s p

      rest : (station z (suc s) p).operation ≡ x.operation → BeginsPhase s p (update t)
      rest e = absurd (both_ways _ (one_not_two x.operation t a) (ap (in_two t) (sym e) ∙ b))

      by : Change z s p → BeginsPhase s p (update t)
      by (same e) = rest (ap (λ x. x.operation) e)
      by (comes i e) = absurd (both_ways _ (ap (λ x. in_two t x.operation) e) b)
      by (fades l c f e) = rest (ap (λ x. x.operation) e)
      by (begins_here w i e) = absurd (both_ways _ (ap (λ x. in_two t x.operation) e) b)
      by (hears_one n c i w e) =
          let (h, _, _) = hears_copy z s n p c c.content i w refl in
          let (base, spread) = turns_two z.setup.choice p c.content x t a (sym (ap (λ x. in_two t x.operation) e) ∙ b) in
          let there = subst (λ (y : Station R Set). says p c.content x y ≡ One (to_all (Update y.register t p))) (sym e) spread in
          record {
            asked = record {
              words = Update (station z (suc s) p).register t p;
              said = hearing_says z s p c.content (to_all (Update (station z (suc s) p).register t p)) h (rw there (inl refl));
              request = and_from _ _ (eq-eqb t t refl) (eq-eqb p p refl);
              active = hears_active z s p c.content h;
              waits = b;
            };
            phase = refl;
            active = h.before;
            joined = busy_joined z s p (one_busy x.operation t a);
            new = one_not_two x.operation t a;
            base = ap (λ x. base_of x.operation) e ∙ base;
          }

  -- an update has the register that its sender holds right after, and tells its stamp
  pub update_asked : (s p t : ℕ) (a : AsksAt z s p (update t)) → a.words ≡ Update (station z (suc s) p).register t p
  unfolding said
  update_asked s p t a = by a.said.doing a.said.accepted a.said.by a.said.among
    where
      other : (m : Content R Set) → asks p (update t) m ≡ false → Among (to_all a.words) (to_all m ∷ []) → a.words ≡ Update (station z (suc s) p).register t p
      other m n (inl e) = absurd (both_ways _ n (subst (λ (l : Letter R Set). asks p (update t) l.content ≡ true) e a.request))
      other m n (inr e) = absurd e

      by : (x : Step R) → Accepted z s x → actor x ≡ p → Among (to_all a.words) (said z.setup x (state z s)) → a.words ≡ Update (station z (suc s) p).register t p
      by step.Tick i e g = absurd g
      by (step.Enter q) i e g = other (Enter q) refl g
      by (step.Leave q) i e g = other (Leave q) refl g
      by (step.Crash q) i e g = absurd g
      by (step.Read q) i e g = other _ refl g
      by (step.Write q r) i e g = other _ refl g
      by (step.Deliver n q) i e g =
          let h = hears z s n q i in
          let (k, _, _) = hears_copy z s n q h.copy h.copy.content i h.waits refl in
          let spread = update_said q h.copy.content (station z s q) _ (to_all a.words) p t
          (subst (λ o. Among (to_all a.words) (answer z.setup q o (state z s))) h.waits g) a.request in
          spread ∙ ap (λ (y : Station R Set). Update y.register t p) (sym k.after ∙ ap (station z (suc s)) e)

  pub update_tells : (s p t : ℕ) (b : BeginsPhase s p (update t))
      → (echoed_by_all b.asked.words ≡ true) × (tells b.asked.words (stamped (station z (suc s) p).register.stamp) ≡ true)
  unfolding tells
  update_tells s p t b =
      let e = update_asked s p t b.asked in
      let v = (station z (suc s) p).register in
      (ap echoed_by_all e, ap (λ m. tells m (stamped v.stamp)) e ∙ not_from_false _ (up_to_itself v.stamp))

  -- a phase is awaited from its beginning to its end
  pub awaits_between : (p i k j : ℕ) (r : Request) → is_entry r ≡ false → i ≤ k → k ≤ j → awaits (station z i p) r ≡ true → awaits (station z j p) r ≡ true → awaits (station z k p) r ≡ true
  awaits_between p i k j entry n ik kj a b = absurd (both_ways _ n refl)
  awaits_between p i k j (query t) n ik kj a b =
      query_rank (station z k p) t (omega (arith, rank_on z p i k ik, rank_on z p k j kj, rank_query (station z i p) t a, rank_query (station z j p) t b))
  awaits_between p i k j (update t) n ik kj a b =
      update_rank (station z k p) t (omega (arith, rank_on z p i k ik, rank_on z p k j kj, rank_update (station z i p) t a, rank_update (station z j p) t b))

  -- what hearing keeps of an operation while a phase is awaited stays until its end
  pub phase_keeps : {A : Type 0} (f : Operation R → A) (r : Request) → is_entry r ≡ false
      → ((c : Choice) (q : ℕ) (m : Content R Set) (x : Station R Set) → awaits x r ≡ true → awaits (hear c q m x) r ≡ true → f (hear c q m x).operation ≡ f x.operation)
      → (p i j : ℕ) → i ≤ j → awaits (station z i p) r ≡ true → awaits (station z j p) r ≡ true → f (station z j p).operation ≡ f (station z i p).operation
  phase_keeps f r n keep p i zero l a b = let e : i ≡ 0 = omega arith in rw e refl
  phase_keeps f r n keep p i (suc j) l a b =
      elim (cases_lt i (suc j)) [
        | inl k ↦ let c = awaits_between p i j (suc j) r n (omega arith) (omega arith) a b in by c (change z j p) ∙ phase_keeps f r n keep p i j (omega arith) a c
        | inr k ↦ let e : i ≡ suc j = omega arith in rw e refl
      ]
    where
      by : awaits (station z j p) r ≡ true → Change z j p → f (station z (suc j) p).operation ≡ f (station z j p).operation
      by c (same e) = ap (λ x. f x.operation) e
      by c (comes w e) = absurd (both_ways _ (idle_awaits (newcomer z.setup.first p) r n refl) (sym (ap (λ x. awaits x r) e) ∙ b))
      by c (fades v d g e) = ap (λ x. f x.operation) e
      by c (begins_here t w e) = absurd (both_ways _ (idle_awaits (station z j p) r n (begins z j p t w).idle) c)
      by c (hears_one m d w h e) = ap (λ x. f x.operation) e ∙ keep z.setup.choice p d.content (station z j p) c (sym (ap (λ x. awaits x r) e) ∙ b)

  pub base_stays : (p i j : ℕ) (r : Request) → is_entry r ≡ false → i ≤ j → awaits (station z i p) r ≡ true → awaits (station z j p) r ≡ true
      → base_of (station z j p).operation ≡ base_of (station z i p).operation
  base_stays p i j r n = phase_keeps base_of r n (λ c q m x. hear_base c q m x r n) p i j

  -- phase one, once passed, has turned to phase two
  pub turned_to_two : (s p n j : ℕ) → BeginsPhase s p (query n) → s < j → 3 * n < rank (station z j p)
      → (k : ℕ) × (s < k) × (k < j) × (awaits (station z k p) (query n) ≡ true) × BeginsPhase k p (update n)
  turned_to_two s p n j b l past =
      let first = rank_query (station z (suc s) p) n b.asked.waits in
      let (k, sk, kj, below, turned) = rank_turns z p (suc s) j (3 * n + 1) l (omega (arith, first)) (omega (arith, past)) in
      let one = query_rank (station z k p) n (omega (arith, below, rank_on z p (suc s) k sk, first)) in
      (k, sk, kj, one, begins_two k p n one (update_rank (station z (suc k) p) n turned))
