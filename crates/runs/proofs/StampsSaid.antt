-- Stamp counts in messages, apart from runs: what hearing does to a station's count, and what letters hold.
-- Rests on the definitions alone.
use Rattle.std.proofs.Common.{ℕ, ◌+◌, ◌≤◌, Bool, true, false, cond, not, ◌&&◌, sym, subst, inl, inr, le_refl, arith}
use Rattle.std.proofs.lemmas.Bool.Decides.{nat_tests}
use Rattle.settings.specs.declared.choice.Choice.{Choice}
use Rattle.network.specs.declared.content.Content.{Content}
use Rattle.network.specs.declared.content.Content.TheVariants.{Enter, EnterEcho, Joined, JoinedEcho, Leave, LeaveEcho, Query, Response, Update, Ack, UpdateEcho}
use Rattle.network.specs.declared.letter.Letter.{Letter}
use Rattle.network.specs.declared.letter.Speech.{Speech}
use Rattle.network.specs.declared.letter.Speech.TheVariants.{Silent, One, Two}
use Rattle.network.specs.declared.operation.Operation.{Operation}
use Rattle.network.specs.declared.operation.Operation.TheVariants.{Idle, PhaseOne, PhaseTwo}
use Rattle.network.specs.declared.station.Station.{Station}
use Rattle.network.specs.declared.step.Step.{Step}
use Rattle.network.specs.declared.step.Step.TheVariants as step
use Rattle.network.specs.Hearing.{hear}
use Rattle.network.specs.Knowing.{Set}
use Rattle.network.specs.Saying.{letters, to_all, to_only, began_two, says}
use Rattle.network.specs.Stamps.{newer}
use Rattle.runs.proofs.Counting.{one_if}
use Rattle.runs.proofs.Mails.{Among}

abbrev pub in_phase_one : {R : Type 0} → Operation R → Bool
in_phase_one (Idle tag) = false
in_phase_one (PhaseOne task poll) = true
in_phase_one (PhaseTwo kind poll kept) = false

-- the count of the stamp that a message holds
abbrev pub count_in : {R : Type 0} → Content R Set → ℕ
count_in (Enter p) = 0
count_in (EnterEcho known register joined p) = register.stamp.count
count_in (Joined p) = 0
count_in (JoinedEcho p) = 0
count_in (Leave p) = 0
count_in (LeaveEcho p) = 0
count_in (Query p tag) = 0
count_in (Response register tag) = register.stamp.count
count_in (Update register tag p) = register.stamp.count
count_in (Ack tag) = 0
count_in (UpdateEcho register) = register.stamp.count

pub nought : (k : ℕ) → 0 ≤ k
nought k = omega arith

-- whether a step is a delivery
abbrev pub delivers : {R : Type 0} → Step R → Bool
delivers step.Tick = false
delivers (step.Enter p) = false
delivers (step.Leave p) = false
delivers (step.Crash p) = false
delivers (step.Read p) = false
delivers (step.Write p r) = false
delivers (step.Deliver n q) = true

module _ {R : Type 0} where
  -- hearing begins no phase one
  pub hear_phase : (c : Choice) (q : ℕ) (m : Content R Set) (x : Station R Set) → one_if (in_phase_one (hear c q m x).operation) ≤ one_if (in_phase_one x.operation)
  unfolding hear
  hear_phase c q m x = grind (arith, nat_tests)

  -- hearing raises a count above those that were there only as phase one ends
  pub hear_count : (c : Choice) (q : ℕ) (m : Content R Set) (x : Station R Set) (k : ℕ) → x.register.stamp.count ≤ k → count_in m ≤ k
      → (hear c q m x).register.stamp.count + one_if (in_phase_one (hear c q m x).operation) ≤ k + one_if (in_phase_one x.operation)
  unfolding hear newer
  hear_count c q m x k a b = grind (arith, nat_tests)

  -- no letter holds a higher count than k
  abbrev pub SaysLow : ℕ → Speech R Set → Type 0
  SaysLow k Silent = Unit {0}
  SaysLow k (One a) = count_in a.content ≤ k
  SaysLow k (Two a b) = (count_in a.content ≤ k) × (count_in b.content ≤ k)

  or_silent : (k : ℕ) (b : Bool) (l : Letter R Set) → count_in l.content ≤ k → SaysLow k (cond b (One l) Silent)
  or_silent k true l h = h
  or_silent k false l h = tt

  or_less : (k : ℕ) (b : Bool) (j l : Letter R Set) → count_in j.content ≤ k → count_in l.content ≤ k → SaysLow k (cond b (Two j l) (One l))
  or_less k true j l g h = (g, h)
  or_less k false j l g h = h

  pub says_low : (q : ℕ) (m : Content R Set) (x y : Station R Set) → SaysLow y.register.stamp.count (says q m x y)
  unfolding says
  says_low q (Enter p) x y = le_refl _
  says_low q (EnterEcho known offer f p) x y = or_silent _ (y.joined && not x.joined) (to_all (Joined q)) (nought _)
  says_low q (Joined p) x y = omega arith
  says_low q (JoinedEcho p) x y = tt
  says_low q (Leave p) x y = omega arith
  says_low q (LeaveEcho p) x y = tt
  says_low q (Query p tag) x y = or_silent _ y.joined (to_only p (Response y.register tag)) (le_refl _)
  says_low q (Response offer tag) x y = or_silent _ (began_two x.operation y.operation) (to_all (Update y.register tag q)) (le_refl _)
  says_low q (Update offer tag p) x y = or_less _ y.joined (to_only p (Ack tag)) (to_all (UpdateEcho y.register)) (nought _) (le_refl _)
  says_low q (Ack tag) x y = tt
  says_low q (UpdateEcho offer) x y = tt

  pub low_letter : (k : ℕ) (s : Speech R Set) (l : Letter R Set) → SaysLow k s → Among l (letters s) → count_in l.content ≤ k
  low_letter k Silent l h a = absurd a
  low_letter k (One b) l h (inl e) = subst (λ (j : Letter R Set). count_in j.content ≤ k) (sym e) h
  low_letter k (One b) l h (inr a) = absurd a
  low_letter k (Two b c) l h (inl e) = subst (λ (j : Letter R Set). count_in j.content ≤ k) (sym e) h.0
  low_letter k (Two b c) l h (inr (inl e)) = subst (λ (j : Letter R Set). count_in j.content ≤ k) (sym e) h.1
  low_letter k (Two b c) l h (inr (inr a)) = absurd a
