-- Copies along a run. One that waits has a number below the next, an active receiver, and is younger than D ticks; once it
-- waits no more it never waits again; and what is posted for a station that stays active is delivered within D ticks.
-- Rests on `Mails` (posting), `Clocks`, and `Changes` (who was used is in the table).
use Rattle.std.proofs.Common.{◌≡◌, ℕ, zero, suc, ◌+◌, ◌^◌, ◌<◌, ◌≤◌, min, true, false, ◌⊎◌, take, Some, None, Option, sym, refl, ap, ◌∙◌, subst, inl, inr, ⊎_elim, le_trans, le_refl, arith}
use Rattle.std.proofs.lemmas.Bool.{cases_lt, leb-false}
use Rattle.carrier.specs.Counts.{earlier, least, when, earliest}
use Rattle.carrier.specs.Waits.{Waits}
use Rattle.network.specs.declared.letter.Letter.{Letter}
use Rattle.network.specs.declared.step.Step.{Step}
use Rattle.network.specs.declared.step.Step.TheVariants as step
use Rattle.network.specs.Changes.{changed, said, actor}
use Rattle.network.specs.Keeping.{active}
use Rattle.network.specs.Knowing.{Set, most_stations}
use Rattle.network.specs.Posting.{receivers}
use Rattle.network.specs.Refusals.{due}
use Rattle.network.specs.States.{Copy, active_set}
use Rattle.network.specs.Steps.{next}
use Rattle.network.proofs.Numbers.{new_run_below}
use Rattle.runs.proofs.Positions.{Run, state, state_is, state_start, clock, active_at, waiting, D, Accepted, OutcomeOf, goes, stays, outcome_of, after_step, onward}
use Rattle.runs.proofs.Accepted.{some_is_not_none, ticks}
use Rattle.runs.proofs.Clocks.{ClockStep, rises, rests, clock_step, next_on, numbers_in_range}
use Rattle.runs.proofs.Changes.{grown, active_before, active_used, used_in_range}
use Rattle.runs.proofs.Start.{delay_some}
use Rattle.runs.proofs.Mails.{Among, older_stays, letter_waits, Mailed, waits_from, changed_next, said_within, changed_within, receiver_stays, waits_on}

-- the least of some values is none of them or not above any
least_below : (f : ℕ → Option ℕ) (n k t : ℕ) → k < n → f k ≡ Some t → (m : ℕ) × (least f n ≡ Some m) × (m ≤ t)
unfolding least
least_below f zero k t l e = absurd (omega arith)
least_below f (suc n) k t l e =
    elim (cases_lt k n) [
      | inl h ↦ let (m, g, b) = least_below f n k t h e in left_one (least f n) (f n) m g b
      | inr h ↦ let same : k ≡ n = omega arith in right_one (least f n) (f n) (ap f (sym same) ∙ e)
    ]
  where
    left_one : (a b : Option ℕ) (m : ℕ) → a ≡ Some m → m ≤ t → (k : ℕ) × (earlier a b ≡ Some k) × (k ≤ t)
    left_one None b m g j = absurd (some_is_not_none m (sym g))
    left_one (Some a) None m g j = (a, refl, (let e : a ≡ m = cc in omega arith))
    left_one (Some a) (Some b) m g j = (min a b, refl, (let e : a ≡ m = cc in omega arith))

    right_one : (a b : Option ℕ) → b ≡ Some t → (k : ℕ) × (earlier a b ≡ Some k) × (k ≤ t)
    right_one None b g = (t, g, le_refl _)
    right_one (Some a) None g = absurd (some_is_not_none t (sym g))
    right_one (Some a) (Some b) g = (min a b, refl, (let e : b ≡ t = cc in omega arith))

-- where none is due, no copy is
none_due_young : {R : Type 0} (w : Waits (Copy R)) (d clock n q : ℕ) (c : Copy R) → due d clock (earliest w) ≡ false → w n q ≡ Some c → n < 2 ^ 32 → q < 256 → clock + 1 < c.sent + d
unfolding earliest
none_due_young w d clock n q c h e l k =
    let (row, f, x) = least_below (λ r. when (w n r)) 256 q c.sent k (ap when e) in
    let (all, g, y) = least_below (λ m. least (λ r. when (w m r)) 256) (2 ^ 32) n row l f in
    omega (arith, x, y, leb-false _ _ (sym (ap (due d clock) g) ∙ h))

module _ {R : Type 0} (z : Run R) where
  -- step i posts c for q under the number n
  pub record Posted (i n q : ℕ) (c : Copy R) : Type 0 where
    pub doing : Step R
    pub accepted : Accepted z i doing
    pub letter : Letter R Set
    pub among : Among letter (said z.setup doing (state z i))
    pub reached : receivers letter.to (active_set (state z (suc i))) q ≡ true
    pub number_low : (state z i).next ≤ n
    pub in_tick : clock z (suc i) ≡ clock z i
    pub is : c ≡ record { from = actor doing; content = letter.content; sent = clock z i }

  -- a copy that waits after a step waited before it, or is posted by it
  source_by : (i : ℕ) (x : Step R) → Accepted z i x → (n q : ℕ) (c : Copy R) → waiting z (suc i) n q ≡ Some c → ((changed z.setup x (state z i)).waits n q ≡ Some c) ⊎ Posted i n q c
  unfolding next
  source_by i x a n q c h =
      let s = changed z.setup x (state z i) in
      let e = after_step z i x a in
      ⊎_elim inl
      (λ (m : Mailed (actor x) s.clock (active_set s) s.next (said z.setup x (state z i)) n q c). inr (record {
        doing = x;
        accepted = a;
        letter = m.letter;
        among = m.among;
        reached = subst (λ t. receivers m.letter.to (active_set t) q ≡ true) (sym e) m.reached;
        number_low = omega (arith, changed_next z.setup x (state z i), m.from_on);
        in_tick = ap (λ t. t.clock) e ∙ said_within z.setup x (state z i) m.letter m.among;
        is = m.is ∙ ap (λ t. record { from = actor x; content = m.letter.content; sent = t }) (said_within z.setup x (state z i) m.letter m.among);
      }))
      (waits_from (actor x) s.clock (active_set s) s.next (said z.setup x (state z i)) s.waits n q c (sym (ap (λ t. t.waits n q) e) ∙ h))

  pub source : (i n q : ℕ) (c : Copy R) → waiting z (suc i) n q ≡ Some c → (waiting z i n q ≡ Some c) ⊎ Posted i n q c
  source i n q c h = by (outcome_of z i)
    where
      by : OutcomeOf z i → (waiting z i n q ≡ Some c) ⊎ Posted i n q c
      by (goes x a) = ⊎_elim (λ e. inl (changed_within z.setup x (state z i) n q c e)) inr (source_by i x a n q c h)
      by (stays e) = inl (sym (ap (λ s. s.waits n q) e) ∙ h)

  -- what is said at a step waits after it for each of its receivers
  pub posts : (i : ℕ) (x : Step R) (l : Letter R Set) (q : ℕ) → Accepted z i x → Among l (said z.setup x (state z i)) → receivers l.to (active_set (state z (suc i))) q ≡ true → q < most_stations
      → (n : ℕ) × ((state z i).next ≤ n) × (waiting z (suc i) n q ≡ Some (record { from = actor x; content = l.content; sent = clock z i }))
  unfolding next
  posts i x l q a m h k =
      let s = changed z.setup x (state z i) in
      let e = after_step z i x a in
      let (n, low, is) = letter_waits (actor x) s.clock (active_set s) s.next (said z.setup x (state z i)) s.waits l q m (subst (λ t. receivers l.to (active_set t) q ≡ true) e h) k in (
        n,
        omega (arith, changed_next z.setup x (state z i), low),
        ap (λ t. t.waits n q) e ∙ is ∙ ap (λ t. Some (record { from = actor x; content = l.content; sent = t })) (said_within z.setup x (state z i) l m),
      )

  -- a receiver is active
  pub receives_active : (i : ℕ) (l : Letter R Set) (q : ℕ) → receivers l.to (active_set (state z i)) q ≡ true → active_at z i q ≡ true
  receives_active i l q h = grind (arith, h)

  -- stations and old numbers after an accepted step are as it changed them before it sent
  active_after : (i : ℕ) (x : Step R) → Accepted z i x → (q : ℕ) → active ((changed z.setup x (state z i)).stations q) ≡ true → active_at z (suc i) q ≡ true
  unfolding next
  active_after i x a q h = subst (λ s. active (s.stations q) ≡ true) (sym (after_step z i x a)) h

  active_changed : (i : ℕ) (x : Step R) → Accepted z i x → (q : ℕ) → active_at z (suc i) q ≡ true → active ((changed z.setup x (state z i)).stations q) ≡ true
  unfolding next
  active_changed i x a q h = subst (λ s. active (s.stations q) ≡ true) (after_step z i x a) h

  older_after : (i : ℕ) (x : Step R) → Accepted z i x → (n q : ℕ) → n < (state z i).next → waiting z (suc i) n q ≡ (changed z.setup x (state z i)).waits n q
  unfolding next
  older_after i x a n q l =
      let s = changed z.setup x (state z i) in
      ap (λ t. t.waits n q) (after_step z i x a)
      ∙ older_stays (actor x) s.clock (active_set s) s.next (said z.setup x (state z i)) s.waits n q (omega (arith, changed_next z.setup x (state z i)))

  -- every copy that waits: its number is below the next
  pub numbered : (i n q : ℕ) (c : Copy R) → waiting z i n q ≡ Some c → n < (state z i).next
  numbered i n q c h =
      elim (cases_lt n (state z i).next) [
        | inl l ↦ l
        | inr l ↦
            let e = state_is z i in
            let none = new_run_below z.setup z.founders (take i z.steps) n q (subst (λ s. s.next ≤ n) e l) in
            absurd (some_is_not_none c (sym h ∙ ap (λ s. s.waits n q) e ∙ none))
      ]

  -- its receiver is active
  pub awaited : (i n q : ℕ) (c : Copy R) → waiting z i n q ≡ Some c → active_at z i q ≡ true
  unfolding next
  awaited zero n q c h = absurd (some_is_not_none c (sym h ∙ ap (λ s. s.waits n q) (state_start z)))
  awaited (suc i) n q c h = by (outcome_of z i) (awaited i n q c)
    where
      by : OutcomeOf z i → (waiting z i n q ≡ Some c → active_at z i q ≡ true) → active_at z (suc i) q ≡ true
      by (goes x a) before =
          ⊎_elim
          (λ e. active_after i x a q (receiver_stays z.setup x (state z i) n q c e (before (changed_within z.setup x (state z i) n q c e))))
          (λ (m : Posted i n q c). receives_active (suc i) m.letter q m.reached)
          (source_by i x a n q c h)
      by (stays e) before = subst (λ s. active (s.stations q) ≡ true) (sym e) (before (sym (ap (λ s. s.waits n q) e) ∙ h))

  -- it is younger than D ticks
  pub young : (i n q : ℕ) (c : Copy R) → waiting z i n q ≡ Some c → clock z i < c.sent + D z
  young zero n q c h = absurd (some_is_not_none c (sym h ∙ ap (λ s. s.waits n q) (state_start z)))
  young (suc i) n q c h = by (source i n q c h) (clock_step z i) (young i n q c)
    where
      by : (waiting z i n q ≡ Some c) ⊎ Posted i n q c → ClockStep z i → (waiting z i n q ≡ Some c → clock z i < c.sent + D z) → clock z (suc i) < c.sent + D z
      by (inl e) (rises a t) before =
          let soon = none_due_young (state z i).waits (D z) (clock z i) n q c (ticks z i a).none_due e
          (omega (arith, numbered i n q c e, numbers_in_range z i)) (used_in_range z i q (active_used z q i (awaited i n q c e))) in
          omega arith
      by (inl e) (rests t) before = omega (arith, before e)
      by (inr m) t before = omega (arith, ap (λ (d : Copy R). d.sent) m.is, m.in_tick, delay_some z)

  -- a copy still waits after a step, unless it is delivered, where its receiver is active
  pub waits_still : (i n q : ℕ) (c : Copy R) → waiting z i n q ≡ Some c → active_at z (suc i) q ≡ true → (waiting z (suc i) n q ≡ Some c) ⊎ Accepted z i (step.Deliver n q)
  waits_still i n q c h v = by (outcome_of z i)
    where
      by : OutcomeOf z i → (waiting z (suc i) n q ≡ Some c) ⊎ Accepted z i (step.Deliver n q)
      by (goes x a) =
          ⊎_elim
          (λ e. inl (older_after i x a n q (numbered i n q c h) ∙ e))
          (λ e. inr (subst (Accepted z i) e a))
          (waits_on z.setup x (state z i) n q c h (active_changed i x a q v))
      by (stays e) = inl (ap (λ s. s.waits n q) e ∙ h)

  -- the copy c is delivered to q between two positions
  pub record Delivered (n q : ℕ) (c : Copy R) (i j : ℕ) : Type 0 where
    pub place : ℕ
    pub not_before : i ≤ place
    pub before : place < j
    pub accepted : Accepted z place (step.Deliver n q)
    pub waited : waiting z place n q ≡ Some c

  -- a copy whose receiver is active later still waits there, or was delivered
  pub fate : (n q : ℕ) (c : Copy R) (i j : ℕ) → i ≤ j → waiting z i n q ≡ Some c → active_at z j q ≡ true → (waiting z j n q ≡ Some c) ⊎ Delivered n q c i j
  fate n q c i zero l h v = let e : i ≡ 0 = omega arith in inl (subst (λ k. waiting z k n q ≡ Some c) e h)
  fate n q c i (suc j) l h v =
      elim (cases_lt i (suc j)) [
        | inl k ↦
            let used = (grown z q i j (omega arith)).used (active_used z q i (awaited i n q c h)) in
            by (omega arith) (fate n q c i j (omega arith) h (active_before z q j (suc j) (omega arith) used v))
        | inr k ↦ let e : i ≡ suc j = omega arith in inl (subst (λ k. waiting z k n q ≡ Some c) e h)
      ]
    where
      by : i ≤ j → (waiting z j n q ≡ Some c) ⊎ Delivered n q c i j → (waiting z (suc j) n q ≡ Some c) ⊎ Delivered n q c i (suc j)
      by k (inl g) = ⊎_elim inl (λ a. inr (record { place = j; not_before = k; before = omega arith; accepted = a; waited = g })) (waits_still j n q c g v)
      by k (inr d) = inr (record { place = d.place; not_before = d.not_before; before = omega (arith, d.before); accepted = d.accepted; waited = d.waited })

  -- a copy whose time is over was delivered
  pub arrives : (n q : ℕ) (c : Copy R) (i j : ℕ) → i ≤ j → waiting z i n q ≡ Some c → active_at z j q ≡ true → c.sent + D z ≤ clock z j → Delivered n q c i j
  arrives n q c i j l h v late = ⊎_elim (λ g. absurd (omega (arith, young j n q c g))) (λ d. d) (fate n q c i j l h v)

  -- once not waiting, a number never waits again for that receiver
  pub never_again : (n q i j : ℕ) → i ≤ j → n < (state z i).next → waiting z i n q ≡ None → waiting z j n q ≡ None
  never_again n q i j l b h = (onward z (λ k. (n < (state z k).next) × (waiting z k n q ≡ None)) (λ k f. (le_trans f.0 (next_on z k (suc k) (omega arith)), by k f (waiting z (suc k) n q) refl)) i j l (b, h)).1
    where
      by : (k : ℕ) → (n < (state z k).next) × (waiting z k n q ≡ None) → (o : Option (Copy R)) → waiting z (suc k) n q ≡ o → waiting z (suc k) n q ≡ None
      by k f None e = e
      by k f (Some c) e = ⊎_elim (λ g. absurd (some_is_not_none c (sym g ∙ f.1))) (λ (m : Posted k n q c). absurd (omega (arith, f.0, m.number_low))) (source k n q c e)
