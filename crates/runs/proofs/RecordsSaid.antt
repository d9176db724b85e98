-- Records in messages, apart from runs: what hearing does to a station's record, and which records letters hold.
-- Rests on the order of stamps.
use Rattle.std.proofs.Common.{◌≡◌, ℕ, Bool, true, false, cond, eqb, ◌⊎◌, refl, ap, ◌∙◌, inl, inr, arith}
use Rattle.settings.specs.declared.choice.Choice.{Choice}
use Rattle.network.specs.declared.content.Content.{Content}
use Rattle.network.specs.declared.content.Content.TheVariants.{Enter, EnterEcho, Joined, JoinedEcho, Leave, LeaveEcho, Query, Response, Update, Ack, UpdateEcho}
use Rattle.network.specs.declared.letter.Letter.{Letter}
use Rattle.network.specs.declared.letter.Speech.TheVariants.{Silent, One, Two}
use Rattle.network.specs.declared.operation.Kind.TheVariants as kind
use Rattle.network.specs.declared.operation.Operation.{Operation}
use Rattle.network.specs.declared.operation.Operation.TheVariants.{Idle, PhaseOne, PhaseTwo}
use Rattle.network.specs.declared.operation.Task.{Task}
use Rattle.network.specs.declared.operation.Task.TheVariants as task
use Rattle.network.specs.declared.poll.Poll.{Poll}
use Rattle.network.specs.declared.register.Register.{Register}
use Rattle.network.specs.declared.stamp.Stamp.{Stamp}
use Rattle.network.specs.declared.station.Station.{Station}
use Rattle.network.specs.Hearing.{take_offer, begin_two, count_response, hear}
use Rattle.network.specs.Keeping.{with_operation}
use Rattle.network.specs.Knowing.{Set, member_count}
use Rattle.network.specs.Polls.{new_poll, with_reply, quorum}
use Rattle.network.specs.Saying.{letters, says}
use Rattle.network.specs.Stamps.{next_stamp, newer}
use Rattle.runs.proofs.Mails.{Among}
use Rattle.runs.proofs.Stamps.{UpTo, newer_either, newer_held}

-- a write goes from phase one to phase two
abbrev pub begins_to_write : {R : Type 0} → Operation R → Operation R → Bool
begins_to_write (Idle a) o = false
begins_to_write (PhaseOne task.Read a) o = false
begins_to_write (PhaseOne (task.Write v) a) (Idle c) = false
begins_to_write (PhaseOne (task.Write v) a) (PhaseOne t c) = false
begins_to_write (PhaseOne (task.Write v) a) (PhaseTwo k c w) = true
begins_to_write (PhaseTwo k a v) o = false

module _ {R : Type 0} where
  -- the record that a content offers, or another where it offers none
  abbrev pub offer_in : Register R → Content R Set → Register R
  offer_in v (Enter p) = v
  offer_in v (EnterEcho known offer f p) = offer
  offer_in v (Joined p) = v
  offer_in v (JoinedEcho p) = v
  offer_in v (Leave p) = v
  offer_in v (LeaveEcho p) = v
  offer_in v (Query p tag) = v
  offer_in v (Response offer tag) = offer
  offer_in v (Update offer tag p) = offer
  offer_in v (Ack tag) = v
  offer_in v (UpdateEcho offer) = offer

  -- the write of q, which was x and is y, begins phase two: it makes its record under the stamp next to what it then had
  pub record Wrote (q : ℕ) (x y : Station R Set) : Type 0 where
    pub poll : Poll
    pub was_one : x.operation ≡ PhaseOne (task.Write y.register.value) poll
    pub base_two : ℕ
    pub is_two : y.operation ≡ PhaseTwo kind.Write (new_poll poll.tag base_two) y.register.value
    pub had : Stamp
    pub next : y.register.stamp ≡ next_stamp q had
    pub not_below : UpTo x.register.stamp had

  -- what q, which was x and is y, has done to its record on hearing m: kept it, taken the offer, or made one
  abbrev pub Recorded : ℕ → Register R → Content R Set → Station R Set → Station R Set → Type 0
  Recorded q v m x y = ((begins_to_write x.operation y.operation ≡ false) × ((y.register ≡ x.register) ⊎ (y.register ≡ offer_in v m))) ⊎ Wrote q x y

  -- no write begins phase two where the operation stays, or where it ends or begins phase one
  pub rests : (o : Operation R) → begins_to_write o o ≡ false
  rests o = grind arith

  pub not_to_idle : (o : Operation R) (tag : ℕ) → begins_to_write o (Idle tag) ≡ false
  not_to_idle o tag = grind arith

  pub not_to_one : (o : Operation R) (t : Task R) (poll : Poll) → begins_to_write o (PhaseOne t poll) ≡ false
  not_to_one o t poll = grind arith

  read_rests : (o p : Operation R) (poll : Poll) → o ≡ PhaseOne task.Read poll → begins_to_write o p ≡ false
  read_rests o p poll e = ap (λ k. begins_to_write k p) e

  -- an offer is taken or not
  offered : (q : ℕ) (v : Register R) (m : Content R Set) (x y : Station R Set) → begins_to_write x.operation y.operation ≡ false → y.register ≡ newer (offer_in v m) x.register
      → Recorded q v m x y
  offered q v m x y o e = inl (o, elim (newer_either (offer_in v m) x.register) [ inl k ↦ inr (e ∙ k) | inr k ↦ inl (e ∙ k) ])

  counts_response : (c : Choice) (q : ℕ) (v offer : Register R) (tag : ℕ) (x : Station R Set) (o : Operation R) → x.operation ≡ o → Recorded q v (Response offer tag) x (count_response c q offer tag o x)
  counts_response c q v offer tag x (Idle own) e = inl (rests x.operation, inl refl)
  counts_response c q v offer tag x (PhaseTwo k poll kept) e = inl (rests x.operation, inl refl)
  counts_response c q v offer tag x (PhaseOne t poll) e = by (eqb tag poll.tag) (quorum c (with_reply poll)) t e
    where
      y : Station R Set
      y = take_offer offer x

      by : (a b : Bool) (t : Task R) → x.operation ≡ PhaseOne t poll → Recorded q v (Response offer tag) x (cond a (cond b (begin_two q t poll.tag y) (with_operation (PhaseOne t (with_reply poll)) y)) x)
      by false b t e = inl (rests x.operation, inl refl)
      by true false t e = offered q v (Response offer tag) x _ (not_to_one x.operation t (with_reply poll)) refl
      by true true task.Read e = offered q v (Response offer tag) x _ (read_rests x.operation (begin_two q task.Read poll.tag (take_offer offer x)).operation poll e) refl
      by true true (task.Write r) e =
          inr (record {
            poll = poll;
            was_one = e;
            base_two = member_count x.known;
            is_two = refl;
            had = (newer offer x.register).stamp;
            next = refl;
            not_below = newer_held offer x.register;
          })

  pub hear_record : (c : Choice) (q : ℕ) (v : Register R) (m : Content R Set) (x : Station R Set) → Recorded q v m x (hear c q m x)
  unfolding hear
  hear_record c q v (Enter p) x = inl (rests x.operation, inl refl)
  hear_record c q v (EnterEcho known offer f p) x = offered q v (EnterEcho known offer f p) x _ (grind (arith, rests x.operation)) (grind arith)
  hear_record c q v (Joined p) x = inl (rests x.operation, inl refl)
  hear_record c q v (JoinedEcho p) x = inl (rests x.operation, inl refl)
  hear_record c q v (Leave p) x = inl (rests x.operation, inl refl)
  hear_record c q v (LeaveEcho p) x = inl (rests x.operation, inl refl)
  hear_record c q v (Query p tag) x = inl (rests x.operation, inl refl)
  hear_record c q v (Response offer tag) x = counts_response c q v offer tag x x.operation refl
  hear_record c q v (Update offer tag p) x = offered q v (Update offer tag p) x _ (rests x.operation) refl
  hear_record c q v (Ack tag) x = inl (grind arith, inl (grind arith))
  hear_record c q v (UpdateEcho offer) x = offered q v (UpdateEcho offer) x _ (rests x.operation) refl

  one_or_silent : (b : Bool) (a l : Letter R Set) → Among l (letters (cond b (One a) Silent)) → l ≡ a
  one_or_silent true a l (inl e) = e
  one_or_silent true a l (inr h) = absurd h
  one_or_silent false a l h = absurd h

  two_or_one : (b : Bool) (a d l : Letter R Set) → Among l (letters (cond b (Two a d) (One d))) → (l ≡ a) ⊎ (l ≡ d)
  two_or_one true a d l (inl e) = inl e
  two_or_one true a d l (inr (inl e)) = inr e
  two_or_one true a d l (inr (inr h)) = absurd h
  two_or_one false a d l (inl e) = inr e
  two_or_one false a d l (inr h) = absurd h

  -- what is said offers the record of the one who says it, or none
  pub says_record : (q : ℕ) (v : Register R) (m : Content R Set) (x y : Station R Set) (l : Letter R Set) → Among l (letters (says q m x y))
      → (offer_in v l.content ≡ v) ⊎ (offer_in v l.content ≡ y.register)
  unfolding says
  says_record q v (Enter p) x y l (inl e) = inr (ap (λ (k : Letter R Set). offer_in v k.content) e)
  says_record q v (Enter p) x y l (inr a) = absurd a
  says_record q v (EnterEcho known offer f p) x y l a = inl (ap (λ (k : Letter R Set). offer_in v k.content) (one_or_silent _ _ l a))
  says_record q v (Joined p) x y l (inl e) = inl (ap (λ (k : Letter R Set). offer_in v k.content) e)
  says_record q v (Joined p) x y l (inr a) = absurd a
  says_record q v (JoinedEcho p) x y l a = absurd a
  says_record q v (Leave p) x y l (inl e) = inl (ap (λ (k : Letter R Set). offer_in v k.content) e)
  says_record q v (Leave p) x y l (inr a) = absurd a
  says_record q v (LeaveEcho p) x y l a = absurd a
  says_record q v (Query p tag) x y l a = inr (ap (λ (k : Letter R Set). offer_in v k.content) (one_or_silent _ _ l a))
  says_record q v (Response offer tag) x y l a = inr (ap (λ (k : Letter R Set). offer_in v k.content) (one_or_silent _ _ l a))
  says_record q v (Update offer tag p) x y l a =
      elim (two_or_one _ _ _ l a)
      [ inl e ↦ inl (ap (λ (k : Letter R Set). offer_in v k.content) e) | inr e ↦ inr (ap (λ (k : Letter R Set). offer_in v k.content) e) ]
  says_record q v (Ack tag) x y l a = absurd a
  says_record q v (UpdateEcho offer) x y l a = absurd a
