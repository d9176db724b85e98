-- A run as it can be computed: whether a tick is refused is looked for below the next message number.
use Rattle.std.proofs.Common.{◌≡◌, ℕ, suc, ◌+◌, ◌*◌, ◌^◌, ◌≤◌, Bool, true, false, cond, not, ltb, List, [], ◌∷◌, ◌++◌, length, Some, None, Option, refl, ap, ◌∙◌, ap₂, arith}
use Rattle.carrier.specs.Counts.{least, when}
use Rattle.refusals.specs.declared.Refusal.{Refusal}
use Rattle.network.specs.declared.fault.StepFault.{StepFault}
use Rattle.network.specs.declared.fault.StepFault.TheVariants.{CopyDue, ClockEnd}
use Rattle.network.specs.declared.letter.Letter.{Letter}
use Rattle.network.specs.declared.letter.Speech.{Speech}
use Rattle.network.specs.declared.letter.Speech.TheVariants.{Silent, One, Two}
use Rattle.network.specs.declared.step.Step.{Step}
use Rattle.network.specs.declared.step.Step.TheVariants.{Tick, Enter, Leave, Crash, Read, Write, Deliver}
use Rattle.network.specs.Changes.{changed, said, actor, delivered, answer, heard}
use Rattle.network.specs.Knowing.{Set}
use Rattle.network.specs.Posting.{receivers, anybody, mail, mails}
use Rattle.network.specs.Refusals.{Test, unless, first_of, due, last_tick, tests, refusal}
use Rattle.network.specs.Runs.{run}
use Rattle.network.specs.Saying.{letters, says}
use Rattle.network.specs.States.{Copy, Mail, Setup, State, active_set}
use Rattle.network.specs.Steps.{next, unless_refused, after}
use Rattle.network.specs.Worked.{told_if, told_refusals}
use Rattle.network.proofs.Numbers.{NoneFrom, after_below, earliest_below}

module _ {R : Type 0} where
  -- the earliest tick sent, looked for below the next number
  abbrev pub soonest : State R → Option ℕ
  soonest s = least (λ m. least (λ q. when (s.waits m q)) 256) s.next

  abbrev tick_tests : Setup R → State R → Option ℕ → List Test
  tick_tests u s o = unless (not (due u.choice.d s.clock o)) CopyDue ∷ unless (ltb s.clock last_tick) ClockEnd ∷ []

  unfoldable pub quick_refusal : Setup R → Step R → State R → Option StepFault
  quick_refusal u Tick s = first_of (tick_tests u s (soonest s))
  quick_refusal u (Enter p) s = refusal u (Enter p) s
  quick_refusal u (Leave p) s = refusal u (Leave p) s
  quick_refusal u (Crash p) s = refusal u (Crash p) s
  quick_refusal u (Read p) s = refusal u (Read p) s
  quick_refusal u (Write p r) s = refusal u (Write p r) s
  quick_refusal u (Deliver n q) s = refusal u (Deliver n q) s

  unfoldable pub quick_after : Setup R → Step R → State R → State R
  quick_after u x s = unless_refused (quick_refusal u x s) s (next u x s)

  unfoldable pub quick_run : Setup R → List (Step R) → State R → State R
  quick_run u [] s = s
  quick_run u (x ∷ xs) s = quick_run u xs (quick_after u x s)

  unfoldable pub quick_told : Setup R → ℕ → List (Step R) → State R → List Refusal
  quick_told u n [] s = []
  quick_told u n (x ∷ xs) s = told_if n (quick_refusal u x s) ++ quick_told u (n + 1) xs (quick_after u x s)

  -- the two refuse alike where no copy waits from the next number on
  same_refusal : (u : Setup R) (x : Step R) (s : State R) → s.next ≤ 2 ^ 32 → NoneFrom s.next s.waits → refusal u x s ≡ quick_refusal u x s
  unfolding refusal tests quick_refusal
  same_refusal u Tick s l h = ap (λ o. first_of (tick_tests u s o)) (earliest_below s.next s.waits l h)
  same_refusal u (Enter p) s l h = refl
  same_refusal u (Leave p) s l h = refl
  same_refusal u (Crash p) s l h = refl
  same_refusal u (Read p) s l h = refl
  same_refusal u (Write p r) s l h = refl
  same_refusal u (Deliver n q) s l h = refl

  -- a step sends at most two messages

  shorter : (b : Bool) (x : Mail R) (xs ys : List (Mail R)) (n : ℕ) → length xs ≤ n → length ys ≤ n → length (cond b (x ∷ xs) ys) ≤ suc n
  shorter true x xs ys n h g = omega arith
  shorter false x xs ys n h g = omega arith

  mails_few : (p clock : ℕ) (who : Set) (n : ℕ) (ls : List (Letter R Set)) → length (mails p clock who n ls) ≤ length ls
  unfolding mails
  mails_few p clock who n [] = omega arith
  mails_few p clock who n (l ∷ ls) =
      shorter (anybody (receivers l.to who)) (mail p clock who n l) (mails p clock who (n + 1) ls) (mails p clock who n ls) (length ls)
      (mails_few p clock who (n + 1) ls) (mails_few p clock who n ls)

  letters_few : (x : Speech R Set) → length (letters x) ≤ 2
  letters_few Silent = omega arith
  letters_few (One a) = omega arith
  letters_few (Two a b) = omega arith

  answer_few : (u : Setup R) (q : ℕ) (o : Option (Copy R)) (s : State R) → length (answer u q o s) ≤ 2
  answer_few u q None s = omega arith
  answer_few u q (Some c) s = letters_few (says q c.content (s.stations q) (heard u q c.content s))

  said_few : (u : Setup R) (x : Step R) (s : State R) → length (said u x s) ≤ 2
  unfolding said
  said_few u Tick s = omega arith
  said_few u (Enter p) s = omega arith
  said_few u (Leave p) s = omega arith
  said_few u (Crash p) s = omega arith
  said_few u (Read p) s = omega arith
  said_few u (Write p r) s = omega arith
  said_few u (Deliver n q) s = answer_few u q (s.waits n q) s

  delivered_next : (u : Setup R) (n q : ℕ) (o : Option (Copy R)) (s : State R) → (delivered u n q o s).next ≡ s.next
  delivered_next u n q None s = refl
  delivered_next u n q (Some c) s = refl

  changed_next : (u : Setup R) (x : Step R) (s : State R) → (changed u x s).next ≡ s.next
  unfolding changed
  changed_next u Tick s = refl
  changed_next u (Enter p) s = refl
  changed_next u (Leave p) s = refl
  changed_next u (Crash p) s = refl
  changed_next u (Read p) s = refl
  changed_next u (Write p r) s = refl
  changed_next u (Deliver n q) s = delivered_next u n q (s.waits n q) s

  next_grows : (u : Setup R) (x : Step R) (s : State R) → (next u x s).next ≤ s.next + 2
  unfolding next
  next_grows u x s =
      let t : State R = changed u x s in
      omega (arith, changed_next u x s, mails_few (actor x) t.clock (active_set t) t.next (said u x s), said_few u x s)

  refused_grows : (f : Option StepFault) (s t : State R) → t.next ≤ s.next + 2 → (unless_refused f s t).next ≤ s.next + 2
  refused_grows None s t h = h
  refused_grows (Some f) s t h = omega arith

  pub after_grows : (u : Setup R) (x : Step R) (s : State R) → (after u x s).next ≤ s.next + 2
  unfolding after
  after_grows u x s = refused_grows (refusal u x s) s (next u x s) (next_grows u x s)

  same_after : (u : Setup R) (x : Step R) (s : State R) → s.next ≤ 2 ^ 32 → NoneFrom s.next s.waits → after u x s ≡ quick_after u x s
  unfolding after quick_after
  same_after u x s l h = ap (λ f. unless_refused f s (next u x s)) (same_refusal u x s l h)

  -- a run that is not too long, as it can be computed
  pub same_run : (u : Setup R) (xs : List (Step R)) (s : State R) → s.next + 2 * length xs ≤ 2 ^ 32 → NoneFrom s.next s.waits
      → run u xs s ≡ quick_run u xs s
  unfolding run quick_run
  same_run u [] s l h = refl
  same_run u (x ∷ xs) s l h =
      same_run u xs (after u x s) (omega (arith, after_grows u x s)) (after_below u x s h) ∙ ap (quick_run u xs) (same_after u x s (omega arith) h)

  pub same_told : (u : Setup R) (n : ℕ) (xs : List (Step R)) (s : State R) → s.next + 2 * length xs ≤ 2 ^ 32 → NoneFrom s.next s.waits
      → told_refusals u n xs s ≡ quick_told u n xs s
  unfolding told_refusals quick_told
  same_told u n [] s l h = refl
  same_told u n (x ∷ xs) s l h =
      ap₂ (λ (a b : List Refusal). a ++ b) (ap (told_if n) (same_refusal u x s (omega arith) h))
      (same_told u (n + 1) xs (after u x s) (omega (arith, after_grows u x s)) (after_below u x s h) ∙ ap (quick_told u (n + 1) xs) (same_after u x s (omega arith) h))
