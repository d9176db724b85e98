-- Messages that wait have numbers below the next one, in every state of a run. Rests on the definitions alone.
use Rattle.std.proofs.Common.{◌≡◌, ℕ, zero, suc, ◌+◌, ◌-◌, ◌^◌, ◌≤◌, Bool, true, false, cond, ◌&&◌, eqb, List, [], ◌∷◌, length, Some, None, Option, refl, ap, ◌∙◌, ap₂, add-zero, add-suc, arith}
use Rattle.carrier.specs.Counts.{earlier, least, when, earliest}
use Rattle.carrier.specs.Waits.{Waits, at, except}
use Rattle.network.specs.declared.fault.StepFault.{StepFault}
use Rattle.network.specs.declared.letter.Letter.{Letter}
use Rattle.network.specs.declared.step.Step.{Step}
use Rattle.network.specs.declared.step.Step.TheVariants.{Tick, Enter, Leave, Crash, Read, Write, Deliver}
use Rattle.network.specs.Changes.{changed, said, actor, delivered}
use Rattle.network.specs.Knowing.{Set}
use Rattle.network.specs.Posting.{receivers, anybody, mail, mails, with_mail, with_mails, send}
use Rattle.network.specs.Refusals.{refusal}
use Rattle.network.specs.Runs.{run}
use Rattle.network.specs.States.{Copy, Mail, Setup, State, new_run, active_set}
use Rattle.network.specs.Steps.{next, unless_refused, after}

module _ {R : Type 0} where
  -- no copy waits under a number from n on
  abbrev pub NoneFrom : ℕ → Waits (Copy R) → Type 0
  NoneFrom n w = (m q : ℕ) → n ≤ m → w m q ≡ None

  mail_below : (x : Mail R) (w : Waits (Copy R)) → NoneFrom x.number w → NoneFrom (x.number + 1) (with_mail x w)
  unfolding with_mail
  mail_below x w h m q l =
      let e : eqb m x.number ≡ false = grind arith in
      ap (λ b. cond (b && x.to q) (Some x.copy) (w m q)) e ∙ h m q (omega arith)

  less : (n k : ℕ) (w : Waits (Copy R)) → n ≤ k → NoneFrom n w → NoneFrom k w
  less n k w l h m q j = h m q (omega arith)

  one_or_none : (b : Bool) (n : ℕ) (x : Mail R) (heard unheard : List (Mail R)) (w : Waits (Copy R))
      → NoneFrom ((n + 1) + length heard) (with_mails heard (with_mail x w)) → NoneFrom (n + length unheard) (with_mails unheard w)
      → NoneFrom (n + length (cond b (x ∷ heard) unheard)) (with_mails (cond b (x ∷ heard) unheard) w)
  one_or_none true n x heard unheard w h g = less ((n + 1) + length heard) (n + suc (length heard)) (with_mails heard (with_mail x w)) (omega arith) h
  one_or_none false n x heard unheard w h g = g

  -- what is posted has the numbers from n on, one after the other
  mails_below : (p clock : ℕ) (who : Set) (n : ℕ) (ls : List (Letter R Set)) (w : Waits (Copy R)) → NoneFrom n w
      → NoneFrom (n + length (mails p clock who n ls)) (with_mails (mails p clock who n ls) w)
  unfolding mails
  mails_below p clock who n [] w h = less n (n + 0) w (omega arith) h
  mails_below p clock who n (l ∷ ls) w h =
      one_or_none (anybody (receivers l.to who)) n (mail p clock who n l) (mails p clock who (n + 1) ls) (mails p clock who n ls) w
      (mails_below p clock who (n + 1) ls (with_mail (mail p clock who n l) w) (mail_below (mail p clock who n l) w h))
      (mails_below p clock who n ls w h)

  send_below : (p : ℕ) (ls : List (Letter R Set)) (s : State R) → NoneFrom s.next s.waits → NoneFrom (send p ls s).next (send p ls s).waits
  send_below p ls s h = mails_below p s.clock (active_set s) s.next ls s.waits h

  except_below : (n p : ℕ) (w : Waits (Copy R)) → NoneFrom n w → NoneFrom n (except p w)
  unfolding except
  except_below n p w h m q l = chosen (eqb q p) (w m q) (h m q l)
    where
      chosen : (b : Bool) (o : Option (Copy R)) → o ≡ None → cond b None o ≡ None
      chosen true o e = refl
      chosen false o e = e

  without_below : (n k p : ℕ) (w : Waits (Copy R)) → NoneFrom n w → NoneFrom n (at k p None w)
  unfolding at
  without_below n k p w h m q l = chosen (eqb m k && eqb q p) (w m q) (h m q l)
    where
      chosen : (b : Bool) (o : Option (Copy R)) → o ≡ None → cond b None o ≡ None
      chosen true o e = refl
      chosen false o e = e

  delivered_below : (u : Setup R) (n q : ℕ) (o : Option (Copy R)) (s : State R) → NoneFrom s.next s.waits
      → NoneFrom (delivered u n q o s).next (delivered u n q o s).waits
  delivered_below u n q None s h = h
  delivered_below u n q (Some c) s h = without_below s.next n q s.waits h

  changed_below : (u : Setup R) (x : Step R) (s : State R) → NoneFrom s.next s.waits → NoneFrom (changed u x s).next (changed u x s).waits
  unfolding changed
  changed_below u Tick s h = h
  changed_below u (Enter p) s h = h
  changed_below u (Leave p) s h = except_below s.next p s.waits h
  changed_below u (Crash p) s h = except_below s.next p s.waits h
  changed_below u (Read p) s h = h
  changed_below u (Write p r) s h = h
  changed_below u (Deliver n q) s h = delivered_below u n q (s.waits n q) s h

  pub next_below : (u : Setup R) (x : Step R) (s : State R) → NoneFrom s.next s.waits → NoneFrom (next u x s).next (next u x s).waits
  unfolding next
  next_below u x s h = send_below (actor x) (said u x s) (changed u x s) (changed_below u x s h)

  refused_below : (f : Option StepFault) (s t : State R) → NoneFrom s.next s.waits → NoneFrom t.next t.waits
      → NoneFrom (unless_refused f s t).next (unless_refused f s t).waits
  refused_below None s t h g = g
  refused_below (Some f) s t h g = h

  pub after_below : (u : Setup R) (x : Step R) (s : State R) → NoneFrom s.next s.waits → NoneFrom (after u x s).next (after u x s).waits
  unfolding after
  after_below u x s h = refused_below (refusal u x s) s (next u x s) h (next_below u x s h)

  -- in every state of a run
  pub run_below : (u : Setup R) (xs : List (Step R)) (s : State R) → NoneFrom s.next s.waits → NoneFrom (run u xs s).next (run u xs s).waits
  unfolding run
  run_below u [] s h = h
  run_below u (x ∷ xs) s h = run_below u xs (after u x s) (after_below u x s h)

  pub new_run_below : (u : Setup R) (k : ℕ) (xs : List (Step R)) → NoneFrom (run u xs (new_run u k)).next (run u xs (new_run u k)).waits
  new_run_below u k xs = run_below u xs (new_run u k) (λ m q l. refl)

-- the least over more numbers, where the further ones give none
pub least_more : (f : ℕ → Option ℕ) (n k : ℕ) → ((m : ℕ) → n ≤ m → f m ≡ None) → least f (n + k) ≡ least f n
unfolding least
least_more f n zero h = ap (least f) (add-zero n)
least_more f n (suc k) h =
    ap (least f) (add-suc n k) ∙ ap₂ earlier (least_more f n k h) (h (n + k) (omega arith)) ∙ earlier_none (least f n)
  where
    earlier_none : (o : Option ℕ) → earlier o None ≡ o
    earlier_none None = refl
    earlier_none (Some t) = refl

pub least_none : (f : ℕ → Option ℕ) (n : ℕ) → ((m : ℕ) → f m ≡ None) → least f n ≡ None
unfolding least
least_none f zero h = refl
least_none f (suc n) h = ap₂ earlier (least_none f n h) (h n)

-- where nothing waits from n on, the earliest tick sent is found below n
pub earliest_below : {R : Type 0} (n : ℕ) (w : Waits (Copy R)) → n ≤ 2 ^ 32 → NoneFrom n w → earliest w ≡ least (λ m. least (λ q. when (w m q)) 256) n
unfolding earliest
earliest_below n w l h =
    let f : ℕ → Option ℕ = λ m. least (λ q. when (w m q)) 256 in
    let e : 2 ^ 32 ≡ n + (2 ^ 32 - n) = omega arith in
    ap (least f) e ∙ least_more f n (2 ^ 32 - n) (λ m j. least_none (λ q. when (w m q)) 256 (λ q. ap when (h m q j)))
