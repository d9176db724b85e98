-- What a station knows, and what a waiting copy tells, is true. Rests on `Facts`, `Hearings` and `Changes`.
use Rattle.std.proofs.Common.{◌≡◌, ℕ, zero, suc, ◌≤◌, Bool, true, false, not, ◌&&◌, ◌||◌, eqb, Some, sym, refl, ap, ◌∙◌, subst, inl, inr, ⊎_elim, le_trans, le_refl, arith}
use Rattle.std.proofs.lemmas.Bool.{both_ways, cases_lt, eqb-true, and_parts, and_from, or_cases, or_left, or_right}
use Rattle.std.proofs.lemmas.Bool.Decides.{nat_tests as tests}
use Rattle.settings.specs.declared.choice.Choice.{Choice}
use Rattle.stations.specs.Members.{put}
use Rattle.stations.proofs.Counting.{put_here}
use Rattle.network.specs.declared.content.Content.{Content}
use Rattle.network.specs.declared.content.Content.TheVariants.{Enter, EnterEcho, Joined, JoinedEcho, Leave, LeaveEcho, Query, Response, Update, Ack, UpdateEcho}
use Rattle.network.specs.declared.letter.Letter.{Letter}
use Rattle.network.specs.declared.stamp.Stamp.{Stamp}
use Rattle.network.specs.declared.station.Station.{Station}
use Rattle.network.specs.declared.step.Step.TheVariants as step
use Rattle.network.specs.Hearing.{hear}
use Rattle.network.specs.Keeping.{is_used, newcomer}
use Rattle.network.specs.Knowing.{Set}
use Rattle.network.specs.Saying.{letters, to_all, to_only, says}
use Rattle.network.specs.Stamps.{higher}
use Rattle.network.specs.States.{State, Copy}
use Rattle.runs.proofs.Positions.{Run, state, station, waiting, Accepted}
use Rattle.runs.proofs.Start.{station_start}
use Rattle.runs.proofs.Accepted.{leaves}
use Rattle.runs.proofs.Growing.{has_left}
use Rattle.runs.proofs.Changes.{Change, same, comes, fades, begins_one, hears_one, change, entered_used, grown, active_used}
use Rattle.runs.proofs.Mails.{Among}
use Rattle.runs.proofs.Hearings.{alone, said_if, said_both, hears_copy, hears_active, Cause, of_enter, of_leave, of_begin, of_hearing, caused}
use Rattle.runs.proofs.Facts.{Fact, entered, joined, left, stamped, at_least, holds, tells}
use Rattle.runs.proofs.Travel.{heard_holds}

module _ {R : Type 0} where
  -- the fact is true; a stamp is no claim about stations
  unfoldable pub truth : State R → Fact → Bool
  truth s (entered r) = is_used (s.stations r).life
  truth s (joined r) = (s.stations r).joined
  truth s (left r) = has_left (s.stations r).life
  truth s (stamped t) = true

  -- what station q, which is y, may say of itself
  unfoldable of_self : ℕ → Station R Set → Fact → Bool
  of_self q y (entered r) = eqb r q
  of_self q y (joined r) = eqb r q && y.joined
  of_self q y (left r) = false
  of_self q y (stamped t) = true

  -- what is held after hearing was held, is told, or is of oneself
  learnt : (c : Choice) (q : ℕ) (m : Content R Set) (x : Station R Set) (F : Fact) → holds (hear c q m x) F ≡ true → (holds x F || (tells m F || of_self q (hear c q m x) F)) ≡ true
  unfolding hear holds tells of_self put
  learnt c q m x (entered r) h = grind (arith, tests)
  learnt c q m x (joined r) h = grind (arith, tests)
  learnt c q m x (left r) h = grind (arith, tests)
  learnt c q m x (stamped t) h = grind arith

  -- of itself only: who enters, what it then says, and what one says who joins
  newcomer_of_self : (first : R) (q : ℕ) (y : Station R Set) (F : Fact) → holds (newcomer first q) F ≡ true → of_self q y F ≡ true
  unfolding holds of_self put
  newcomer_of_self first q y (entered r) h = grind (arith, tests)
  newcomer_of_self first q y (joined r) h = absurd (both_ways _ refl h)
  newcomer_of_self first q y (left r) h = absurd (both_ways _ refl h)
  newcomer_of_self first q y (stamped t) h = refl

  entry_of_self : (p : ℕ) (y : Station R Set) (F : Fact) → tells {R = R} (Enter p) F ≡ true → of_self p y F ≡ true
  unfolding tells of_self
  entry_of_self p y (entered r) h = h
  entry_of_self p y (joined r) h = absurd (both_ways _ refl h)
  entry_of_self p y (left r) h = absurd (both_ways _ refl h)
  entry_of_self p y (stamped t) h = refl

  joining_of_self : (p : ℕ) (y : Station R Set) (F : Fact) → y.joined ≡ true → tells {R = R} (Joined p) F ≡ true → of_self p y F ≡ true
  unfolding tells of_self
  joining_of_self p y (entered r) j h = h
  joining_of_self p y (joined r) j h = and_from _ _ h j
  joining_of_self p y (left r) j h = absurd (both_ways _ refl h)
  joining_of_self p y (stamped t) j h = refl

  query_silent : (m : Content R Set) (p tag : ℕ) (F : Fact) → m ≡ Query p tag → tells m F ≡ true → ⊥
  unfolding tells
  query_silent m p tag F e h = both_ways _ (ap (λ k. tells k F) e) h

  answer_holds : (p : ℕ) (y : Station R Set) (F : Fact) → tells (EnterEcho y.known y.register y.joined p) F ≡ true → holds y F ≡ true
  unfolding tells holds
  answer_holds p y (entered r) h = grind (arith, h)
  answer_holds p y (joined r) h = grind (arith, h)
  answer_holds p y (left r) h = grind (arith, h)
  answer_holds p y (stamped t) h = h

  stamp_of_self : (q : ℕ) (v : Stamp) (y : Station R Set) (F : Fact) → at_least v F ≡ true → of_self q y F ≡ true
  unfolding of_self
  stamp_of_self q v y (entered r) h = absurd (both_ways _ refl h)
  stamp_of_self q v y (joined r) h = absurd (both_ways _ refl h)
  stamp_of_self q v y (left r) h = absurd (both_ways _ refl h)
  stamp_of_self q v y (stamped t) h = refl

  -- a letter that is another tells the same
  told_as : (l k : Letter R Set) (F : Fact) → l ≡ k → tells l.content F ≡ true → tells k.content F ≡ true
  told_as l k F e t = subst (λ (j : Letter R Set). tells j.content F ≡ true) e t

  -- facts are held in what is known and in the register
  holds_same : (x y : Station R Set) (F : Fact) → y.known ≡ x.known → y.register ≡ x.register → holds y F ≡ true → holds x F ≡ true
  unfolding holds
  holds_same x y (entered r) k v h = sym (ap (λ a. a.entered r) k) ∙ h
  holds_same x y (joined r) k v h = sym (ap (λ a. a.joined r) k) ∙ h
  holds_same x y (left r) k v h = sym (ap (λ a. a.left r) k) ∙ h
  holds_same x y (stamped t) k v h = sym (ap (λ a. not (higher t a.stamp)) v) ∙ h

  -- what is said on hearing is held, or is of oneself
  said_of : (q : ℕ) (m : Content R Set) (x y : Station R Set) (l : Letter R Set) (F : Fact) → Among l (letters (says q m x y)) → tells l.content F ≡ true
      → (tells m F ≡ true → holds y F ≡ true) → (holds y F || of_self q y F) ≡ true
  unfolding says tells
  said_of q (Enter p) x y l F a t h = or_left _ _ (answer_holds p y F (told_as l _ F (alone l _ a) t))
  said_of q (EnterEcho known offer f p) x y l F a t h =
      let b = said_if _ l (to_all (Joined q)) a in
      or_right _ _ (joining_of_self q y F (and_parts _ _ b.0).0 (told_as l _ F b.1 t))
  said_of q (Joined p) x y l F a t h = or_left _ _ (h (told_as l _ F (alone l _ a) t))
  said_of q (JoinedEcho p) x y l F a t h = absurd a
  said_of q (Leave p) x y l F a t h = or_left _ _ (h (told_as l _ F (alone l _ a) t))
  said_of q (LeaveEcho p) x y l F a t h = absurd a
  said_of q (Query p tag) x y l F a t h = absurd (both_ways _ refl (told_as l _ F (said_if _ l (to_only p (Response y.register tag)) a).1 t))
  said_of q (Response offer tag) x y l F a t h = or_right _ _ (stamp_of_self q _ y F (told_as l _ F (said_if _ l (to_all (Update y.register tag q)) a).1 t))
  said_of q (Update offer tag p) x y l F a t h =
      ⊎_elim (λ e. absurd (both_ways _ refl (told_as l _ F e.1 t))) (λ e. or_right _ _ (stamp_of_self q _ y F (told_as l _ F e t)))
      (said_both _ l (to_only p (Ack tag)) (to_all (UpdateEcho y.register)) a)
  said_of q (Ack tag) x y l F a t h = absurd a
  said_of q (UpdateEcho offer) x y l F a t h = absurd a

module _ {R : Type 0} (z : Run R) where
  pub truth_on : (i j : ℕ) (F : Fact) → i ≤ j → truth (state z i) F ≡ true → truth (state z j) F ≡ true
  unfolding truth
  truth_on i j (entered r) l h = (grown z r i j l).used h
  truth_on i j (joined r) l h = (grown z r i j l).joined h
  truth_on i j (left r) l h = (grown z r i j l).left h
  truth_on i j (stamped t) l h = refl

  -- what a station may say of itself is true
  self_true : (i q : ℕ) (F : Fact) → is_used (station z i q).life ≡ true → of_self q (station z i q) F ≡ true → truth (state z i) F ≡ true
  unfolding of_self truth
  self_true i q (entered r) u h = subst (λ p. is_used (station z i p).life ≡ true) (sym (eqb-true r q h)) u
  self_true i q (joined r) u h = let k = and_parts _ _ h in subst (λ p. (station z i p).joined ≡ true) (sym (eqb-true r q k.0)) k.1
  self_true i q (left r) u h = absurd (both_ways _ refl h)
  self_true i q (stamped t) u h = refl

  departure_true : (i p : ℕ) (F : Fact) → Accepted z i (step.Leave p) → tells {R = R} (Leave p) F ≡ true → truth (state z (suc i)) F ≡ true
  unfolding tells truth
  departure_true i p (entered r) a h = absurd (both_ways _ refl h)
  departure_true i p (joined r) a h = absurd (both_ways _ refl h)
  departure_true i p (left r) a h =
      subst (λ q. has_left (station z (suc i) q).life ≡ true) (sym (eqb-true r p h))
      (ap (λ s. has_left (s.stations p).life) (leaves z i p a).leads ∙ ap (λ (x : Station R Set). has_left x.life) (put_here _ p _))
  departure_true i p (stamped t) a h = refl

  -- at the start only founders know, and only of founders
  known_at_start : (q : ℕ) (F : Fact) → holds (station z 0 q) F ≡ true → truth (state z 0) F ≡ true
  unfolding holds truth
  known_at_start q (entered r) h = let e = station_start z r in let d = station_start z q in grind (arith, e, d, h)
  known_at_start q (joined r) h = let e = station_start z r in let d = station_start z q in grind (arith, e, d, h)
  known_at_start q (left r) h = let d = station_start z q in grind (arith, d, h)
  known_at_start q (stamped t) h = refl

  -- what is known is true, up to position n
  abbrev KnownTrue : ℕ → Type 0
  KnownTrue n = (i q : ℕ) (F : Fact) → i ≤ n → holds (station z i q) F ≡ true → truth (state z i) F ≡ true

  self_or_known : (i q : ℕ) (F : Fact) → KnownTrue i → is_used (station z i q).life ≡ true → (holds (station z i q) F || of_self q (station z i q) F) ≡ true → truth (state z i) F ≡ true
  self_or_known i q F k u h = ⊎_elim (k i q F (le_refl _)) (self_true i q F u) (or_cases _ _ h)

  -- what a copy tells was true when it was posted
  cause_true : (k r : ℕ) (c : Copy R) (F : Fact) → KnownTrue (suc k) → Cause z k r c → tells c.content F ≡ true → truth (state z (suc k)) F ≡ true
  cause_true k r c F known (of_enter p a e) t = self_true (suc k) p F (entered_used z p k a) (entry_of_self p (station z (suc k) p) F (subst (λ (d : Copy R). tells d.content F ≡ true) e t))
  cause_true k r c F known (of_leave p a e) t = departure_true k p F a (subst (λ (d : Copy R). tells d.content F ≡ true) e t)
  cause_true k r c F known (of_begin p w a e) t = absurd (query_silent c.content p _ F (ap (λ (d : Copy R). d.content) e) t)
  cause_true k r c F known (of_hearing q m l h a g e) t =
      self_or_known (suc k) q F known (active_used z q (suc k) (hears_active z k q m h))
      (said_of q m (station z k q) (station z (suc k) q) l F a (subst (λ (d : Copy R). tells d.content F ≡ true) e t) (λ s. heard_holds z k q (suc k) m F h s (omega arith)))

  told_by : (i n r : ℕ) (c : Copy R) (F : Fact) → KnownTrue i → waiting z i n r ≡ Some c → tells c.content F ≡ true → truth (state z i) F ≡ true
  told_by i n r c F known w t =
      let o = caused z i n r c w in
      truth_on (suc o.place) i F o.before (cause_true o.place r c F (λ j q G l. known j q G (le_trans l o.before)) o.cause t)

  known_next : (i q : ℕ) (F : Fact) → KnownTrue i → holds (station z (suc i) q) F ≡ true → truth (state z (suc i)) F ≡ true
  known_next i q F known h = by (change z i q)
    where
      old : truth (state z i) F ≡ true → truth (state z (suc i)) F ≡ true
      old = truth_on i (suc i) F (omega arith)

      by : Change z i q → truth (state z (suc i)) F ≡ true
      by (same e) = old (known i q F (le_refl _) (subst (λ y. holds y F ≡ true) e h))
      by (comes a e) = self_true (suc i) q F (entered_used z q i a) (newcomer_of_self z.setup.first q _ F (subst (λ y. holds y F ≡ true) e h))
      by (fades l c f e) = old (known i q F (le_refl _) (holds_same (station z i q) _ F refl refl (subst (λ y. holds y F ≡ true) e h)))
      by (begins_one t a e) = old (known i q F (le_refl _) (holds_same (station z i q) _ F refl refl (subst (λ y. holds y F ≡ true) e h)))
      by (hears_one n c a w e) =
          let g = (hears_copy z i n q c c.content a w refl).0 in
          let new = learnt z.setup.choice q c.content (station z i q) F (subst (λ y. holds y F ≡ true) e h) in
          ⊎_elim (λ k. old (known i q F (le_refl _) k))
          (λ k. ⊎_elim (λ t. old (told_by i n q c F known w t))
          (λ s. self_true (suc i) q F (active_used z q (suc i) (hears_active z i q c.content g)) (subst (λ y. of_self q y F ≡ true) (sym e) s)) (or_cases _ _ k))
          (or_cases _ _ new)

  known_up_to : (n : ℕ) → KnownTrue n
  known_up_to zero i q F l h = let e : i ≡ 0 = omega arith in subst (λ k. truth (state z k) F ≡ true) (sym e) (known_at_start q F (subst (λ k. holds (station z k q) F ≡ true) e h))
  known_up_to (suc n) i q F l h =
      elim (cases_lt n i) [
        | inl k ↦
            let e : i ≡ suc n = omega arith in
            subst (λ k. truth (state z k) F ≡ true) (sym e) (known_next n q F (known_up_to n) (subst (λ k. holds (station z k q) F ≡ true) e h))
        | inr k ↦ known_up_to n i q F k h
      ]

  pub known_true : (i q : ℕ) (F : Fact) → holds (station z i q) F ≡ true → truth (state z i) F ≡ true
  known_true i q F = known_up_to i i q F (le_refl _)

  pub told_true : (i n r : ℕ) (c : Copy R) (F : Fact) → waiting z i n r ≡ Some c → tells c.content F ≡ true → truth (state z i) F ≡ true
  told_true i n r c F = told_by i n r c F (known_up_to i)

  -- the same by the parts of what is known
  pub entered_true : (i q r : ℕ) → (station z i q).known.entered r ≡ true → is_used (station z i r).life ≡ true
  unfolding holds truth
  entered_true i q r h = known_true i q (entered r) h

  pub joined_true : (i q r : ℕ) → (station z i q).known.joined r ≡ true → (station z i r).joined ≡ true
  unfolding holds truth
  joined_true i q r h = known_true i q (joined r) h

  pub left_true : (i q r : ℕ) → (station z i q).known.left r ≡ true → has_left (station z i r).life ≡ true
  unfolding holds truth
  left_true i q r h = known_true i q (left r) h
