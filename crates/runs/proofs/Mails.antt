-- Posting, apart from runs: what waits once letters are sent, and what a step does to copies before it sends.
-- Rests on the definitions alone.
use Rattle.std.proofs.Common.{◌≡◌, ℕ, ◌+◌, ◌<◌, ◌≤◌, Bool, true, false, cond, ◌&&◌, eqb, ◌⊎◌, List, [], ◌∷◌, Some, None, Option, sym, refl, ap, ◌∙◌, subst, inl, inr, ⊎_elim, le_trans, le_refl, arith}
use Rattle.std.proofs.lemmas.Bool.{cases_Bool, lt-ltb, and_left, and_parts, and_from, eqb-true, ne_eqb, eq-eqb, cond-true, cond-false}
use Rattle.std.proofs.lemmas.Bool.Decides.{nat_tests}
use Rattle.carrier.specs.Waits.{Waits, at, except}
use Rattle.stations.specs.Members.{put}
use Rattle.stations.proofs.Counting.{how_many_some}
use Rattle.network.specs.declared.letter.Letter.{Letter}
use Rattle.network.specs.declared.step.Step.{Step}
use Rattle.network.specs.declared.step.Step.TheVariants as step
use Rattle.network.specs.Changes.{changed, said, delivered}
use Rattle.network.specs.Keeping.{active}
use Rattle.network.specs.Knowing.{Set, most_stations}
use Rattle.network.specs.Posting.{receivers, anybody, mail, mails, with_mail, with_mails}
use Rattle.network.specs.States.{Copy, Setup, State}
use Rattle.runs.proofs.Growing.{hear_life, hear_crashed}

-- l is one of the letters
abbrev pub Among : {A : Type 0} → A → List A → Type 0
Among l [] = ⊥
Among l (k ∷ ks) = (l ≡ k) ⊎ Among l ks

module _ {R : Type 0} (p clock : ℕ) (who : Set) where
  -- the copy of a letter
  abbrev pub copy_of : Letter R Set → Copy R
  copy_of l = record { from = p; content = l.content; sent = clock }

  abbrev posting : ℕ → List (Letter R Set) → Waits (Copy R) → Waits (Copy R)
  posting n ls w = with_mails (mails p clock who n ls) w

  mail_other : (n : ℕ) (l : Letter R Set) (w : Waits (Copy R)) (m q : ℕ) → (m ≡ n → ⊥) → with_mail (mail p clock who n l) w m q ≡ w m q
  unfolding with_mail
  mail_other n l w m q ne = cond-false _ _ _ (and_left _ _ (ne_eqb m n ne))

  mail_here : (n : ℕ) (l : Letter R Set) (w : Waits (Copy R)) (q : ℕ) → receivers l.to who q ≡ true → with_mail (mail p clock who n l) w n q ≡ Some (copy_of l)
  unfolding with_mail
  mail_here n l w q h = cond-true _ _ _ (and_from _ _ (eq-eqb n n refl) h)

  -- numbers below those that are given stay as they were
  pub older_stays : (n : ℕ) (ls : List (Letter R Set)) (w : Waits (Copy R)) (m q : ℕ) → m < n → posting n ls w m q ≡ w m q
  unfolding mails
  older_stays n [] w m q k = refl
  older_stays n (l ∷ ls) w m q k = by (anybody (receivers l.to who)) (older_stays (n + 1) ls (with_mail (mail p clock who n l) w) m q (omega arith) ∙ mail_other n l w m q (λ e. omega arith)) (older_stays n ls w m q k)
    where
      by : (b : Bool) → with_mails (mails p clock who (n + 1) ls) (with_mail (mail p clock who n l) w) m q ≡ w m q → with_mails (mails p clock who n ls) w m q ≡ w m q
          → with_mails (cond b (mail p clock who n l ∷ mails p clock who (n + 1) ls) (mails p clock who n ls)) w m q ≡ w m q
      by true f g = f
      by false f g = g

  -- each letter waits for each of its receivers, under some number
  pub letter_waits : (n : ℕ) (ls : List (Letter R Set)) (w : Waits (Copy R)) (l : Letter R Set) (q : ℕ) → Among l ls → receivers l.to who q ≡ true → q < most_stations
      → (m : ℕ) × (n ≤ m) × (posting n ls w m q ≡ Some (copy_of l))
  unfolding mails
  letter_waits n [] w l q a h k = absurd a
  letter_waits n (j ∷ ls) w l q (inl e) h k =
      let h' : receivers j.to who q ≡ true = subst (λ (x : Letter R Set). receivers x.to who q ≡ true) e h in
      let some : anybody (receivers j.to who) ≡ true = lt-ltb 0 _ (how_many_some _ most_stations q k h') in (
        n,
        le_refl _,
        ap (λ b. with_mails (cond b (mail p clock who n j ∷ mails p clock who (n + 1) ls) (mails p clock who n ls)) w n q) some
            ∙ older_stays (n + 1) ls (with_mail (mail p clock who n j) w) n q (omega arith) ∙ mail_here n j w q h' ∙ ap (λ x. Some (copy_of x)) (sym e),
      )
  letter_waits n (j ∷ ls) w l q (inr a) h k =
      by (anybody (receivers j.to who)) (letter_waits (n + 1) ls (with_mail (mail p clock who n j) w) l q a h k) (letter_waits n ls w l q a h k)
    where
      by : (b : Bool) → (m : ℕ) × (n + 1 ≤ m) × (posting (n + 1) ls (with_mail (mail p clock who n j) w) m q ≡ Some (copy_of l)) → (m : ℕ) × (n ≤ m) × (posting n ls w m q ≡ Some (copy_of l))
          → (m : ℕ) × (n ≤ m) × (with_mails (cond b (mail p clock who n j ∷ mails p clock who (n + 1) ls) (mails p clock who n ls)) w m q ≡ Some (copy_of l))
      by true f g = (f.0, omega (arith, f.1), f.2)
      by false f g = g

  -- the copy c that waits for q under the number m is that of one of the letters
  pub record Mailed (n : ℕ) (ls : List (Letter R Set)) (m q : ℕ) (c : Copy R) : Type 0 where
    pub letter : Letter R Set
    pub among : Among letter ls
    pub reached : receivers letter.to who q ≡ true
    pub from_on : n ≤ m
    pub is : c ≡ copy_of letter

  one_mail : (n : ℕ) (l : Letter R Set) (w : Waits (Copy R)) (m q : ℕ) (c : Copy R) → with_mail (mail p clock who n l) w m q ≡ Some c
      → (w m q ≡ Some c) ⊎ ((m ≡ n) × (receivers l.to who q ≡ true) × (c ≡ copy_of l))
  unfolding with_mail
  one_mail n l w m q c h = by (cases_Bool (eqb m n && receivers l.to who q))
    where
      by : ((eqb m n && receivers l.to who q) ≡ true) ⊎ ((eqb m n && receivers l.to who q) ≡ false) → (w m q ≡ Some c) ⊎ ((m ≡ n) × (receivers l.to who q ≡ true) × (c ≡ copy_of l))
      by (inl e) =
          let parts = and_parts _ _ e in
          let f : Some (copy_of l) ≡ Some c = sym (cond-true _ _ _ e) ∙ h in
          inr (eqb-true _ _ parts.0, parts.1, cc)
      by (inr e) = inl (sym (cond-false _ _ _ e) ∙ h)

  -- a copy that waits waited before, or is that of a letter
  pub waits_from : (n : ℕ) (ls : List (Letter R Set)) (w : Waits (Copy R)) (m q : ℕ) (c : Copy R) → posting n ls w m q ≡ Some c → (w m q ≡ Some c) ⊎ Mailed n ls m q c
  unfolding mails
  waits_from n [] w m q c h = inl h
  waits_from n (l ∷ ls) w m q c h = by (anybody (receivers l.to who)) h (waits_from (n + 1) ls (with_mail (mail p clock who n l) w) m q c) (waits_from n ls w m q c)
    where
      later : (k : ℕ) → n ≤ k → Mailed k ls m q c → Mailed n (l ∷ ls) m q c
      later k j f = record { letter = f.letter; among = inr f.among; reached = f.reached; from_on = le_trans j f.from_on; is = f.is }

      first : (w m q ≡ Some c) ⊎ ((m ≡ n) × (receivers l.to who q ≡ true) × (c ≡ copy_of l)) → (w m q ≡ Some c) ⊎ Mailed n (l ∷ ls) m q c
      first (inl e) = inl e
      first (inr e) = inr (record { letter = l; among = inl refl; reached = e.1; from_on = omega (arith, e.0); is = e.2 })

      by : (b : Bool) → with_mails (cond b (mail p clock who n l ∷ mails p clock who (n + 1) ls) (mails p clock who n ls)) w m q ≡ Some c
          → (posting (n + 1) ls (with_mail (mail p clock who n l) w) m q ≡ Some c → (with_mail (mail p clock who n l) w m q ≡ Some c) ⊎ Mailed (n + 1) ls m q c)
          → (posting n ls w m q ≡ Some c → (w m q ≡ Some c) ⊎ Mailed n ls m q c) → (w m q ≡ Some c) ⊎ Mailed n (l ∷ ls) m q c
      by true e f g = ⊎_elim (λ k. first (one_mail n l w m q c k)) (λ k. inr (later (n + 1) (omega arith) k)) (f e)
      by false e f g = ⊎_elim inl (λ k. inr (later n (le_refl _) k)) (g e)

module _ {R : Type 0} (u : Setup R) where
  -- before it sends, a step takes no number and adds no copy
  pub changed_next : (x : Step R) (s : State R) → (changed u x s).next ≡ s.next
  unfolding changed
  changed_next x s = grind arith

  -- a step that says something happens within its tick
  pub said_within : (x : Step R) (s : State R) (l : Letter R Set) → Among l (said u x s) → (changed u x s).clock ≡ s.clock
  unfolding changed said
  said_within step.Tick s l a = absurd a
  said_within (step.Enter p) s l a = refl
  said_within (step.Leave p) s l a = refl
  said_within (step.Crash p) s l a = refl
  said_within (step.Read p) s l a = refl
  said_within (step.Write p r) s l a = refl
  said_within (step.Deliver n q) s l a = by (s.waits n q)
    where
      by : (o : Option (Copy R)) → (delivered u n q o s).clock ≡ s.clock
      by None = refl
      by (Some c) = refl

  pub changed_within : (x : Step R) (s : State R) (n q : ℕ) (c : Copy R) → (changed u x s).waits n q ≡ Some c → s.waits n q ≡ Some c
  unfolding changed at except
  changed_within x s n q c h = grind (arith, nat_tests)

  -- whoever a copy still waits for stays active
  pub receiver_stays : (x : Step R) (s : State R) (n q : ℕ) (c : Copy R) → (changed u x s).waits n q ≡ Some c → active (s.stations q) ≡ true → active ((changed u x s).stations q) ≡ true
  unfolding changed at except put
  receiver_stays x s n q c h a = grind (arith, nat_tests, hear_life, hear_crashed)

  -- a copy whose receiver is active thereafter still waits, unless it is delivered
  pub waits_on : (x : Step R) (s : State R) (n q : ℕ) (c : Copy R) → s.waits n q ≡ Some c → active ((changed u x s).stations q) ≡ true
      → ((changed u x s).waits n q ≡ Some c) ⊎ (x ≡ step.Deliver n q)
  unfolding changed at except put
  waits_on step.Tick s n q c h a = inl h
  waits_on (step.Enter p) s n q c h a = inl h
  waits_on (step.Leave p) s n q c h a = inl (grind (arith, nat_tests))
  waits_on (step.Crash p) s n q c h a = inl (grind (arith, nat_tests))
  waits_on (step.Read p) s n q c h a = inl h
  waits_on (step.Write p r) s n q c h a = inl h
  waits_on (step.Deliver m p) s n q c h a = by (cases_Bool (eqb n m && eqb q p))
    where
      same : (eqb n m && eqb q p) ≡ true → ◌≡◌ {A = Step R} (step.Deliver m p) (step.Deliver n q)
      same e = let k : n ≡ m = grind (arith, nat_tests) in let l : q ≡ p = grind (arith, nat_tests) in rw (k, l)

      other : (o : Option (Copy R)) → (eqb n m && eqb q p) ≡ false → (delivered u m p o s).waits n q ≡ Some c
      other None e = h
      other (Some d) e = cond-false _ _ _ e ∙ h

      by : ((eqb n m && eqb q p) ≡ true) ⊎ ((eqb n m && eqb q p) ≡ false) → ((delivered u m p (s.waits m p) s).waits n q ≡ Some c) ⊎ (◌≡◌ {A = Step R} (step.Deliver m p) (step.Deliver n q))
      by (inl e) = inr (same e)
      by (inr e) = inl (other (s.waits m p) e)
