-- A request is made at one step, each station hears it once and replies once, and its reply is heard once.
-- Rests on `Hearings` and `RequestsHeard`.
use Rattle.std.proofs.Common.{◌≡◌, ℕ, suc, ◌+◌, ◌<◌, ◌≤◌, true, false, Some, None, Option, sym, refl, ap, ◌∙◌, subst, inl, inr, ⊎_elim, arith}
use Rattle.std.proofs.lemmas.Bool.{both_ways, and_from, or_left, or_right, not_from_false, leb-true, le-leb, cases_order}
use Rattle.stations.proofs.Counting.{put_here}
use Rattle.network.specs.declared.content.Content.{Content}
use Rattle.network.specs.declared.content.Content.TheVariants.{Enter, Query}
use Rattle.network.specs.declared.letter.Letter.{Letter}
use Rattle.network.specs.declared.operation.Task.{Task}
use Rattle.network.specs.declared.operation.Task.TheVariants as task
use Rattle.network.specs.declared.step.Step.{Step}
use Rattle.network.specs.declared.step.Step.TheVariants as step
use Rattle.network.specs.Changes.{said, actor, answer, begin, heard}
use Rattle.network.specs.Keeping.{active, tag_of, newcomer}
use Rattle.network.specs.Knowing.{Set}
use Rattle.network.specs.Posting.{receivers}
use Rattle.network.specs.Saying.{letters, to_all, says}
use Rattle.network.specs.States.{Copy, Setup, State, active_set}
use Rattle.runs.proofs.Positions.{Run, state, station, clock, active_at, waiting, D, Accepted}
use Rattle.runs.proofs.Accepted.{step_of, enters, begins, hears}
use Rattle.runs.proofs.Changes.{grown, active_used}
use Rattle.runs.proofs.Copies.{Posted, source, numbered, awaited, young}
use Rattle.runs.proofs.FirstLetters.{only_first, takes_next}
use Rattle.runs.proofs.Hearings.{HearsAt, alone, hears_copy, hears_active, SaysAll, Cause, of_enter, of_leave, of_begin, of_hearing, Caused, caused}
use Rattle.runs.proofs.Mails.{Among}
use Rattle.runs.proofs.Provenance.{origin, delivered_once}
use Rattle.runs.proofs.Ranks.{rank_on}
use Rattle.runs.proofs.Requests.{Request, entry, query, update, asks, replies, awaits}
use Rattle.runs.proofs.RequestsHeard.{concerns, was_made, awaited_made, Makes, entered_makes, begun_makes, heard_makes, reply_asked, says_first}

module _ {R : Type 0} where
  -- what a step says of a request is its first letter
  said_first : (u : Setup R) (x : Step R) (s : State R) (p : ℕ) (r : Request) → only_first (concerns p r) (said u x s) ≡ true
  unfolding said
  said_first u step.Tick s p r = refl
  said_first u (step.Enter q) s p r = refl
  said_first u (step.Leave q) s p r = refl
  said_first u (step.Crash q) s p r = refl
  said_first u (step.Read q) s p r = refl
  said_first u (step.Write q v) s p r = refl
  said_first u (step.Deliver n q) s p r = by (s.waits n q)
    where
      by : (o : Option (Copy R)) → only_first (concerns p r) (answer u q o s) ≡ true
      by None = refl
      by (Some c) = says_first u.choice q c.content (s.stations q) (heard u q c.content s) p r

module _ {R : Type 0} (z : Run R) where
  -- p makes the request r at step s: it did not await replies to it before (or was not there), and does now
  pub record AsksAt (s p : ℕ) (r : Request) : Type 0 where
    pub words : Content R Set
    pub said : SaysAll z s p words
    pub request : asks p r words ≡ true
    pub active : active_at z (suc s) p ≡ true
    pub waits : awaits (station z (suc s) p) r ≡ true

  -- station q makes the request r of p by the letter l at step s
  MadeAt : ℕ → ℕ → ℕ → Request → Letter R Set → Type 0
  MadeAt s q p r l = (active_at z (suc s) q ≡ true) × Makes q p r (station z s q) (station z (suc s) q) l

  entering_made : (s q p : ℕ) (r : Request) (l : Letter R Set) → Accepted z s (step.Enter q) → l ≡ to_all (Enter q) → asks p r l.content ≡ true → MadeAt s q p r l
  unfolding MadeAt
  entering_made s q p r l a e h =
      let here : station z (suc s) q ≡ newcomer z.setup.first q = ap (λ (t : State R). t.stations q) (enters z s q a).leads ∙ put_here _ q _ in
      subst (λ y. (active y ≡ true) × Makes q p r (station z s q) y l) (sym here) (refl, entered_makes z.setup.first (station z s q) p q r l e (enters z s q a).unused h)

  beginning_made : (s q p : ℕ) (t : Task R) (r : Request) (l : Letter R Set) → Accepted z s (step_of z q t) → l ≡ to_all (Query q (tag_of (station z s q).operation + 1)) → asks p r l.content ≡ true → MadeAt s q p r l
  unfolding MadeAt
  beginning_made s q p t r l a e h =
      let b = begins z s q t a in
      let here : station z (suc s) q ≡ begin t (station z s q) = ap (λ (k : State R). k.stations q) b.leads ∙ put_here _ q _ in
      subst (λ y. (active y ≡ true) × Makes q p r (station z s q) y l) (sym here) (and_from _ _ b.acts.is_here (not_from_false _ b.acts.not_crashed), begun_makes t (station z s q) p q r l e h)

  hearing_made : (s n q p : ℕ) (r : Request) (l : Letter R Set) → Accepted z s (step.Deliver n q) → Among l (answer z.setup q (waiting z s n q) (state z s)) → asks p r l.content ≡ true → MadeAt s q p r l
  unfolding MadeAt
  hearing_made s n q p r l a m h =
      let d = hears z s n q a in
      let g = (hears_copy z s n q d.copy d.copy.content a d.waits refl).0 in
      let m' : Among l (answer z.setup q (Some d.copy) (state z s)) = subst (λ o. Among l (answer z.setup q o (state z s))) d.waits m in
      (hears_active z s q d.copy.content g, subst (λ y. Makes q p r (station z s q) y l) (sym g.after) (heard_makes z.setup.choice q d.copy.content (station z s q) p r l m' h))

  made_by : (s p : ℕ) (r : Request) (l : Letter R Set) (x : Step R) → Accepted z s x → Among l (said z.setup x (state z s)) → asks p r l.content ≡ true → MadeAt s (actor x) p r l
  unfolding said
  made_by s p r l step.Tick a m h = absurd m
  made_by s p r l (step.Enter q) a m h = entering_made s q p r l a (alone _ _ m) h
  made_by s p r l (step.Leave q) a m h = absurd (both_ways _ (ap (λ (k : Letter R Set). asks p r k.content) (alone _ _ m)) h)
  made_by s p r l (step.Crash q) a m h = absurd m
  made_by s p r l (step.Read q) a m h = beginning_made s q p task.Read r l a (alone _ _ m) h
  made_by s p r l (step.Write q v) a m h = beginning_made s q p (task.Write v) r l a (alone _ _ m) h
  made_by s p r l (step.Deliver n q) a m h = hearing_made s n q p r l a m h

  -- what was made stays made
  made_on : (p : ℕ) (r : Request) (i j : ℕ) → i ≤ j → was_made (station z i p) r ≡ true → was_made (station z j p) r ≡ true
  made_on p entry i j l h = (grown z p i j l).used h
  made_on p (query t) i j l h = le-leb _ _ (omega (arith, leb-true _ _ h, rank_on z p i j l))
  made_on p (update t) i j l h = le-leb _ _ (omega (arith, leb-true _ _ h, rank_on z p i j l))

  not_made_before : (s p : ℕ) (r : Request) → AsksAt s p r → was_made (station z s p) r ≡ false
  unfolding MadeAt
  not_made_before s p r a =
      let g = a.said in
      subst (λ q. was_made (station z s q) r ≡ false) g.by (made_by s p r (to_all a.words) g.doing g.accepted g.among a.request).1.before

  -- a request is made once
  pub asked_once : (s s' p : ℕ) (r : Request) → AsksAt s p r → AsksAt s' p r → s ≡ s'
  asked_once s s' p r a b = elim (cases_order s s') [ inl e ↦ e | inr k ↦ elim k [ inl l ↦ absurd (first s s' a b l) | inr l ↦ absurd (first s' s b a l) ] ]
    where
      first : (s s' : ℕ) → AsksAt s p r → AsksAt s' p r → s < s' → ⊥
      first s s' a b l = both_ways _ (not_made_before s' p r b) (made_on p r (suc s) s' l (awaited_made (station z (suc s) p) r (active_used z p (suc s) a.active) a.waits))

  -- whoever hears a request was there when it was made, hears it less than D ticks later, and in the words it was made in
  pub record Made (v q p : ℕ) (r : Request) (m : Content R Set) : Type 0 where
    pub place : ℕ
    pub made : AsksAt place p r
    pub before : place < v
    pub there : active_at z (suc place) q ≡ true
    pub soon : clock z v < clock z place + D z
    pub same : m ≡ made.words

  -- and its copy has the first number of that step
  made_source : (v q p : ℕ) (r : Request) (m : Content R Set) (h : HearsAt z v q m) → asks p r m ≡ true → (d : Made v q p r m) × (h.number ≡ (state z d.place).next)
  unfolding MadeAt
  made_source v q p r m h a =
      let o = origin z v h.number q h.copy h.waited in
      let d = o.posted in
      let w = o.since (suc o.place) (omega arith) o.before in
      let same : m ≡ d.letter.content = sym h.holds ∙ ap (λ (c : Copy R). c.content) d.is in
      let a' : asks p r d.letter.content ≡ true = subst (λ n. asks p r n ≡ true) same a in
      let b = made_by o.place p r d.letter d.doing d.accepted d.among a' in
      let y = b.1 in (
        record {
          place = o.place;
          made = record {
            words = d.letter.content;
            said = record { doing = d.doing; accepted = d.accepted; by = y.who; among = subst (λ k. Among k (said z.setup d.doing (state z o.place))) y.loud d.among };
            request = a';
            active = subst (λ k. active_at z (suc o.place) k ≡ true) y.who b.0;
            waits = subst (λ k. awaits (station z (suc o.place) k) r ≡ true) y.who y.waits;
          };
          before = o.before;
          there = awaited z (suc o.place) h.number q h.copy w;
          soon = omega (arith, young z v h.number q h.copy h.waited, ap (λ (c : Copy R). c.sent) d.is);
          same = same;
        },
        takes_next z (concerns p r) o.place h.number q h.copy d w (said_first z.setup d.doing (state z o.place) p r)
            (or_left _ _ (subst (λ n. asks p r n ≡ true) (sym h.holds) a)),
      )

  pub request_made : (v q p : ℕ) (r : Request) (m : Content R Set) → HearsAt z v q m → asks p r m ≡ true → Made v q p r m
  request_made v q p r m h a = (made_source v q p r m h a).0

  -- each station hears a request once
  pub heard_once : (v v' q p : ℕ) (r : Request) (m m' : Content R Set) → HearsAt z v q m → HearsAt z v' q m' → asks p r m ≡ true → asks p r m' ≡ true → v ≡ v'
  heard_once v v' q p r m m' h h' a a' =
      let (d, e) = made_source v q p r m h a in
      let (d', e') = made_source v' q p r m' h' a' in
      let same : h'.number ≡ h.number = e' ∙ ap (λ k. (state z k).next) (asked_once d'.place d.place p r d'.made d.made) ∙ sym e in
      delivered_once z h.number q v v' h.accepted (subst (λ n. Accepted z v' (step.Deliver n q)) same h'.accepted)

  -- p hears at u the reply of q to its request r, which q gave at v on hearing the request
  pub record Reply (u p q : ℕ) (r : Request) : Type 0 where
    pub words : Content R Set
    pub heard : HearsAt z u p words
    pub sender : heard.copy.from ≡ q
    pub reply : replies p r words ≡ true
    pub place : ℕ
    pub before : place < u
    pub soon : clock z u < clock z place + D z
    pub question : Content R Set
    pub asked : HearsAt z place q question
    pub request : asks p r question ≡ true
    pub letter : Letter R Set
    pub among : Among letter (letters (says q question (station z place q) (station z (suc place) q)))
    pub to_p : receivers letter.to (active_set (state z (suc place))) p ≡ true
    pub same : letter.content ≡ words

  -- a reply comes from one who heard the request, and its copy has the first number of that step
  record Replied (u p : ℕ) (r : Request) (m : Content R Set) (h : HearsAt z u p m) : Type 0 where
    pub q : ℕ
    pub sender : h.copy.from ≡ q
    pub is : Reply u p q r
    pub number : h.number ≡ (state z is.place).next

  first_posted : (i n q : ℕ) (c : Copy R) (d : Caused z i n q c) → Posted z d.place n q c
  first_posted i n q c d = ⊎_elim (λ e. absurd (omega (arith, numbered z d.place n q c e, d.number_low))) (λ k. k) (source z d.place n q c d.waits)

  replied : (u p : ℕ) (r : Request) (m : Content R Set) (h : HearsAt z u p m) → replies p r m ≡ true → Replied u p r m h
  replied u p r m h a = by d.cause
    where
      d : Caused z u h.number p h.copy
      d = caused z u h.number p h.copy h.waited

      reply : replies p r h.copy.content ≡ true
      reply = subst (λ n. replies p r n ≡ true) (sym h.holds) a

      says : (c : Copy R) → h.copy ≡ c → replies p r c.content ≡ true
      says c e = subst (λ (c : Copy R). replies p r c.content ≡ true) e reply

      by : Cause z d.place p h.copy → Replied u p r m h
      by (of_enter q t e) = absurd (both_ways _ refl (says _ e))
      by (of_leave q t e) = absurd (both_ways _ refl (says _ e))
      by (of_begin q w t e) = absurd (both_ways _ refl (says _ e))
      by (of_hearing q n l g b to e) =
          let k = first_posted u h.number p h.copy d in
          record {
            q = q;
            sender = ap (λ (c : Copy R). c.from) e;
            is = record {
              words = m;
              heard = h;
              sender = ap (λ (c : Copy R). c.from) e;
              reply = a;
              place = d.place;
              before = d.before;
              soon = omega (arith, young z u h.number p h.copy h.waited, d.sent);
              question = n;
              asked = g;
              request = reply_asked z.setup.choice q n (station z d.place q) (station z (suc d.place) q) (active_set (state z (suc d.place))) p r l b to (says _ e);
              letter = l;
              among = b;
              to_p = to;
              same = sym (ap (λ (c : Copy R). c.content) e) ∙ h.holds;
            };
            number = takes_next z (concerns p r) d.place h.number p h.copy k d.waits (said_first z.setup k.doing (state z d.place) p r) (or_right _ _ reply);
          }

  pub reply_from : (u p : ℕ) (r : Request) (m : Content R Set) (h : HearsAt z u p m) → replies p r m ≡ true → Reply u p h.copy.from r
  reply_from u p r m h a = let d = replied u p r m h a in subst (λ q. Reply u p q r) (sym d.sender) d.is

  same_place : (u u' p q q' : ℕ) (r : Request) → q ≡ q' → (a : Reply u p q r) (b : Reply u' p q' r) → b.place ≡ a.place
  same_place u u' p q q' r e a b = heard_once b.place a.place q' p r b.question a.question b.asked (subst (λ k. HearsAt z a.place k a.question) e a.asked) b.request a.request

  pub reply_once : (u u' p q : ℕ) (r : Request) → Reply u p q r → Reply u' p q r → u ≡ u'
  reply_once u u' p q r a b =
      let d = replied u p r a.words a.heard a.reply in
      let e = replied u' p r b.words b.heard b.reply in
      let place = same_place u u' p d.q e.q r (sym d.sender ∙ a.sender ∙ sym b.sender ∙ e.sender) d.is e.is in
      let same : b.heard.number ≡ a.heard.number = e.number ∙ ap (λ k. (state z k).next) place ∙ sym d.number in
      delivered_once z a.heard.number p u u' a.heard.accepted (subst (λ n. Accepted z u' (step.Deliver n p)) same b.heard.accepted)
