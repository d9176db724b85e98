-- What is said and what is heard, by positions: who says what at a step, who hears what at a step, that all who stay hear
-- within D ticks what is said to all, and why a copy was posted. Rests on `Provenance`.
use Rattle.std.proofs.Common.{◌≡◌, ℕ, suc, ◌+◌, ◌<◌, ◌≤◌, Bool, true, false, cond, not, ◌&&◌, ◌⊎◌, [], ◌∷◌, Some, sym, refl, ap, ◌∙◌, subst, ap₂, inl, inr, arith}
use Rattle.std.proofs.lemmas.Bool.{both_ways}
use Rattle.stations.proofs.Counting.{put_here}
use Rattle.network.specs.declared.content.Content.{Content}
use Rattle.network.specs.declared.content.Content.TheVariants.{Enter, Leave, Query}
use Rattle.network.specs.declared.letter.Letter.{Letter}
use Rattle.network.specs.declared.letter.Speech.TheVariants.{Silent, One, Two}
use Rattle.network.specs.declared.operation.Task.{Task}
use Rattle.network.specs.declared.operation.Task.TheVariants as task
use Rattle.network.specs.declared.step.Step.{Step}
use Rattle.network.specs.declared.step.Step.TheVariants as step
use Rattle.network.specs.Changes.{said, actor, answer, heard}
use Rattle.network.specs.Hearing.{hear}
use Rattle.network.specs.Keeping.{tag_of, is_present, active}
use Rattle.network.specs.Knowing.{Set}
use Rattle.network.specs.Posting.{receivers}
use Rattle.network.specs.Saying.{letters, to_all, says}
use Rattle.network.specs.States.{Copy, active_set}
use Rattle.runs.proofs.Positions.{Run, state, station, clock, active_at, waiting, D, Accepted}
use Rattle.runs.proofs.Accepted.{step_of, Hears, hears}
use Rattle.runs.proofs.Growing.{hear_life, hear_crashed}
use Rattle.runs.proofs.Copies.{awaited, young}
use Rattle.runs.proofs.Provenance.{origin, said_arrives}
use Rattle.runs.proofs.Mails.{Among}

-- which letter it is: of a single one, of one said under a condition, of two where the first is said under a condition
pub alone : {A : Type 0} (a b : A) → Among a (b ∷ []) → a ≡ b
alone a b (inl e) = e
alone a b (inr e) = absurd e

pub said_if : {R : Type 0} (b : Bool) (l k : Letter R Set) → Among l (letters (cond b (One k) Silent)) → (b ≡ true) × (l ≡ k)
said_if true l k a = (refl, alone l k a)
said_if false l k a = absurd a

pub said_when : {R : Type 0} (b : Bool) (l : Letter R Set) → b ≡ true → Among l (letters (cond b (One l) Silent))
said_when true l h = inl refl
said_when false l h = absurd (both_ways _ refl h)

pub said_both : {R : Type 0} (b : Bool) (l j k : Letter R Set) → Among l (letters (cond b (Two j k) (One k))) → ((b ≡ true) × (l ≡ j)) ⊎ (l ≡ k)
said_both true l j k (inl e) = inl (refl, e)
said_both true l j k (inr a) = inr (alone l k a)
said_both false l j k a = inr (alone l k a)

same_copy : {A : Type 0} (a b : A) → Some a ≡ Some b → a ≡ b
same_copy a b e = cc

module _ {R : Type 0} (z : Run R) where
  -- q hears m at step i
  pub record HearsAt (i q : ℕ) (m : Content R Set) : Type 0 where
    pub number : ℕ
    pub copy : Copy R
    pub accepted : Accepted z i (step.Deliver number q)
    pub waited : waiting z i number q ≡ Some copy
    pub holds : copy.content ≡ m
    pub before : active_at z i q ≡ true
    pub after : station z (suc i) q ≡ hear z.setup.choice q m (station z i q)

  -- a copy that is delivered is heard, and the hearing is of that copy
  pub hears_copy : (i n q : ℕ) (c : Copy R) (m : Content R Set) → Accepted z i (step.Deliver n q) → waiting z i n q ≡ Some c → c.content ≡ m
      → (h : HearsAt i q m) × (h.number ≡ n) × (h.copy ≡ c)
  hears_copy i n q c m a w e = (
    record {
      number = n;
      copy = c;
      accepted = a;
      waited = w;
      holds = e;
      before = awaited z i n q c w;
      after = ap (λ s. s.stations q) g.leads ∙ put_here _ q _ ∙ ap (λ d. hear z.setup.choice q d (station z i q)) (ap (λ (d : Copy R). d.content) same ∙ e);
    },
    refl,
    refl,
  )
    where
      g : Hears z i n q
      g = hears z i n q a

      same : g.copy ≡ c
      same = same_copy g.copy c (sym g.waits ∙ w)

  -- who hears stays active
  pub hears_active : (i q : ℕ) (m : Content R Set) → HearsAt i q m → active_at z (suc i) q ≡ true
  hears_active i q m h = ap active h.after ∙ ap₂ (λ l b. is_present l && not b) (hear_life _ q m (station z i q)) (hear_crashed _ q m (station z i q)) ∙ h.before

  -- at step i station p says l
  pub record SaysAt (i p : ℕ) (l : Letter R Set) : Type 0 where
    pub doing : Step R
    pub accepted : Accepted z i doing
    pub by : actor doing ≡ p
    pub among : Among l (said z.setup doing (state z i))

  -- at step i station p says m to all
  abbrev pub SaysAll : ℕ → ℕ → Content R Set → Type 0
  SaysAll i p m = SaysAt i p (to_all m)

  pub enter_says : (i p : ℕ) → Accepted z i (step.Enter p) → SaysAll i p (Enter p)
  unfolding said
  enter_says i p a = record { doing = step.Enter p; accepted = a; by = refl; among = inl refl }

  pub leave_says : (i p : ℕ) → Accepted z i (step.Leave p) → SaysAll i p (Leave p)
  unfolding said
  leave_says i p a = record { doing = step.Leave p; accepted = a; by = refl; among = inl refl }

  pub begin_says : (i p : ℕ) (t : Task R) → Accepted z i (step_of z p t) → SaysAll i p (Query p (tag_of (station z i p).operation + 1))
  unfolding said
  begin_says i p task.Read a = record { doing = step.Read p; accepted = a; by = refl; among = inl refl }
  begin_says i p (task.Write r) a = record { doing = step.Write p r; accepted = a; by = refl; among = inl refl }

  -- what is said on hearing
  pub hearing_says : (i q : ℕ) (m : Content R Set) (l : Letter R Set) → HearsAt i q m → Among l (letters (says q m (station z i q) (station z (suc i) q))) → SaysAt i q l
  unfolding said
  hearing_says i q m l h a =
      record {
        doing = step.Deliver h.number q;
        accepted = h.accepted;
        by = refl;
        among = subst (λ o. Among l (answer z.setup q o (state z i))) (sym h.waited)
            (subst (λ d. Among l (letters (says q d (station z i q) (heard z.setup q d (state z i))))) (sym h.holds) (subst (λ y. Among l (letters (says q m (station z i q) y))) h.after a));
      }

  -- what is said at i is heard by q, whom it reaches, if q is still active D ticks later
  pub record HeardBy (i p q j : ℕ) (m : Content R Set) : Type 0 where
    pub place : ℕ
    pub after : i < place
    pub before : place < j
    pub soon : clock z place < clock z i + D z
    pub hears : HearsAt place q m
    pub sender : hears.copy.from ≡ p
    pub sent : hears.copy.sent ≡ clock z i

  pub letter_heard : (i p : ℕ) (l : Letter R Set) → SaysAt i p l → (q j : ℕ) → receivers l.to (active_set (state z (suc i))) q ≡ true → suc i ≤ j → active_at z j q ≡ true → clock z i + D z ≤ clock z j
      → HeardBy i p q j l.content
  letter_heard i p l s q j r k v late =
      let g = said_arrives z i s.doing l q j s.accepted s.among r k v late in
      let d = g.delivered in
      let (h, n, c) = hears_copy d.place g.number q _ l.content d.accepted d.waited refl in
      record {
        place = d.place;
        after = d.not_before;
        before = d.before;
        soon = young z d.place g.number q _ d.waited;
        hears = h;
        sender = ap (λ (x : Copy R). x.from) c ∙ s.by;
        sent = ap (λ (x : Copy R). x.sent) c;
      }

  pub all_hear : (i p : ℕ) (m : Content R Set) → SaysAll i p m → (q j : ℕ) → active_at z (suc i) q ≡ true → suc i ≤ j → active_at z j q ≡ true → clock z i + D z ≤ clock z j
      → HeardBy i p q j m
  all_hear i p m s q j r k v late = letter_heard i p (to_all m) s q j r k v late

  -- why the copy c was posted for r at step k
  pub data Cause (k r : ℕ) (c : Copy R) : Type 0 where
    of_enter : (p : ℕ) → Accepted z k (step.Enter p) → c ≡ record { from = p; content = Enter p; sent = clock z k } → Cause k r c
    of_leave : (p : ℕ) → Accepted z k (step.Leave p) → c ≡ record { from = p; content = Leave p; sent = clock z k } → Cause k r c
    of_begin : (p : ℕ) (t : Task R) → Accepted z k (step_of z p t) → c ≡ record { from = p; content = Query p (tag_of (station z k p).operation + 1); sent = clock z k } → Cause k r c
    of_hearing : (q : ℕ) (m : Content R Set) (l : Letter R Set) → HearsAt k q m → Among l (letters (says q m (station z k q) (station z (suc k) q)))
        → receivers l.to (active_set (state z (suc k))) r ≡ true → c ≡ record { from = q; content = l.content; sent = clock z k } → Cause k r c

  -- where one letter is said, the copy is of it
  only_letter : (k p : ℕ) (c : Copy R) (l j : Letter R Set) → c ≡ record { from = p; content = l.content; sent = clock z k } → Among l (j ∷ []) → c ≡ record { from = p; content = j.content; sent = clock z k }
  only_letter k p c l j e m = e ∙ ap (λ (x : Letter R Set). record { from = p; content = x.content; sent = clock z k }) (alone l j m)

  of_posting : (k r : ℕ) (c : Copy R) (x : Step R) (l : Letter R Set) → Accepted z k x → Among l (said z.setup x (state z k)) → receivers l.to (active_set (state z (suc k))) r ≡ true
      → c ≡ record { from = actor x; content = l.content; sent = clock z k } → Cause k r c
  unfolding said
  of_posting k r c step.Tick l a m h e = absurd m
  of_posting k r c (step.Enter p) l a m h e = of_enter p a (only_letter k p c l _ e m)
  of_posting k r c (step.Leave p) l a m h e = of_leave p a (only_letter k p c l _ e m)
  of_posting k r c (step.Crash p) l a m h e = absurd m
  of_posting k r c (step.Read p) l a m h e = of_begin p task.Read a (only_letter k p c l _ e m)
  of_posting k r c (step.Write p v) l a m h e = of_begin p (task.Write v) a (only_letter k p c l _ e m)
  of_posting k r c (step.Deliver n q) l a m h e =
      let g = hears z k n q a in
      let (t, b, d) = hears_copy k n q g.copy g.copy.content a g.waits refl in
      of_hearing q g.copy.content l t
      (subst (λ y. Among l (letters (says q g.copy.content (station z k q) y))) (sym t.after) (subst (λ o. Among l (answer z.setup q o (state z k))) g.waits m)) h e

  -- a copy that waits was posted at a step before, for a cause, and waits from then on; its number was none given before
  pub record Caused (i n r : ℕ) (c : Copy R) : Type 0 where
    pub place : ℕ
    pub before : place < i
    pub waits : waiting z (suc place) n r ≡ Some c
    pub cause : Cause place r c
    pub number_low : (state z place).next ≤ n
    pub sent : c.sent ≡ clock z place

  pub caused : (i n r : ℕ) (c : Copy R) → waiting z i n r ≡ Some c → Caused i n r c
  caused i n r c w =
      let o = origin z i n r c w in
      record {
        place = o.place;
        before = o.before;
        waits = o.since (suc o.place) (omega arith) o.before;
        cause = of_posting o.place r c o.posted.doing o.posted.letter o.posted.accepted o.posted.among o.posted.reached o.posted.is;
        number_low = o.posted.number_low;
        sent = ap (λ (x : Copy R). x.sent) o.posted.is;
      }
