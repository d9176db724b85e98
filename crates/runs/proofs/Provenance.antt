-- Where copies come from and where they go: every copy was posted at one step and waits from then on, what is said arrives
-- within D ticks, and a copy is delivered once. Rests on `Copies`.
use Rattle.std.proofs.Common.{◌≡◌, ℕ, zero, suc, ◌+◌, ◌<◌, ◌≤◌, true, ◌⊎◌, Some, None, sym, refl, ap, ◌∙◌, subst, inl, inr, le_trans, arith}
use Rattle.std.proofs.lemmas.Bool.{cases_lt, cases_order, and_from, eq-eqb, cond-true}
use Rattle.carrier.specs.Waits.{Waits, at, without}
use Rattle.network.specs.declared.letter.Letter.{Letter}
use Rattle.network.specs.declared.step.Step.{Step}
use Rattle.network.specs.declared.step.Step.TheVariants as step
use Rattle.network.specs.Changes.{said, actor, applied, heard}
use Rattle.network.specs.Knowing.{Set}
use Rattle.network.specs.Posting.{receivers}
use Rattle.network.specs.Saying.{letters, says}
use Rattle.network.specs.States.{Copy, active_set}
use Rattle.runs.proofs.Positions.{Run, state, state_start, station, clock, active_at, waiting, D, Accepted}
use Rattle.runs.proofs.Accepted.{some_is_not_none, hears}
use Rattle.runs.proofs.Changes.{active_used, used_in_range}
use Rattle.runs.proofs.Clocks.{next_on}
use Rattle.runs.proofs.Mails.{Among, older_stays}
use Rattle.runs.proofs.Copies.{Posted, source, posts, receives_active, numbered, Delivered, arrives, never_again}

module _ {R : Type 0} (z : Run R) where
  taken : (n q : ℕ) (w : Waits (Copy R)) → without n q w n q ≡ None
  unfolding at
  taken n q w = cond-true _ _ _ (and_from _ _ (eq-eqb n n refl) (eq-eqb q q refl))

  -- what is delivered waits no more
  pub gone_after : (i n q : ℕ) → Accepted z i (step.Deliver n q) → waiting z (suc i) n q ≡ None
  gone_after i n q a =
      let h = hears z i n q a in
      let s = applied z.setup n q h.copy.content (state z i) in
      ap (λ t. t.waits n q) h.leads
      ∙ older_stays q s.clock (active_set s) s.next (letters (says q h.copy.content (station z i q) (heard z.setup q h.copy.content (state z i)))) s.waits n q (numbered z i n q h.copy h.waits)
      ∙ taken n q (state z i).waits

  -- a copy is delivered once
  pub delivered_once : (n q i j : ℕ) → Accepted z i (step.Deliver n q) → Accepted z j (step.Deliver n q) → i ≡ j
  delivered_once n q i j a b = elim (cases_order i j) [ inl e ↦ e | inr k ↦ elim k [ inl l ↦ absurd (not_twice i j a b l) | inr l ↦ absurd (not_twice j i b a l) ] ]
    where
      not_twice : (i j : ℕ) → Accepted z i (step.Deliver n q) → Accepted z j (step.Deliver n q) → i < j → ⊥
      not_twice i j a b l =
          let g = hears z i n q a in
          let h = hears z j n q b in
          let old = le_trans (numbered z i n q g.copy g.waits) (next_on z i (suc i) (omega arith)) in
          some_is_not_none h.copy (sym h.waits ∙ never_again z n q (suc i) j l old (gone_after i n q a))

  -- the copy c that waits at i was posted at one step, and has waited ever since
  pub record Origin (i n q : ℕ) (c : Copy R) : Type 0 where
    pub place : ℕ
    pub before : place < i
    pub posted : Posted z place n q c
    pub since : (j : ℕ) → place < j → j ≤ i → waiting z j n q ≡ Some c

  pub origin : (i n q : ℕ) (c : Copy R) → waiting z i n q ≡ Some c → Origin i n q c
  origin zero n q c h = absurd (some_is_not_none c (sym h ∙ ap (λ s. s.waits n q) (state_start z)))
  origin (suc i) n q c h = by (source z i n q c h) (origin i n q c)
    where
      at_last : (j : ℕ) → i < j → j ≤ suc i → waiting z j n q ≡ Some c
      at_last j a b = let e : suc i ≡ j = omega arith in subst (λ k. waiting z k n q ≡ Some c) e h

      by : (waiting z i n q ≡ Some c) ⊎ Posted z i n q c → (waiting z i n q ≡ Some c → Origin i n q c) → Origin (suc i) n q c
      by (inl e) earlier =
          let o = earlier e in
          record {
            place = o.place;
            before = omega (arith, o.before);
            posted = o.posted;
            since = λ j a b. elim (cases_lt i j) [ inl k ↦ at_last j k b | inr k ↦ o.since j a k ];
          }
      by (inr p) earlier = record { place = i; before = omega arith; posted = p; since = at_last }

  -- where a delivered copy came from
  pub heard_from : (i n q : ℕ) (a : Accepted z i (step.Deliver n q)) → Origin i n q (hears z i n q a).copy
  heard_from i n q a = let h = hears z i n q a in origin i n q h.copy h.waits

  -- a number is given at one step
  pub one_origin : (n q r i j : ℕ) (c d : Copy R) → Posted z i n q c → waiting z (suc i) n q ≡ Some c → Posted z j n r d → waiting z (suc j) n r ≡ Some d → i ≡ j
  one_origin n q r i j c d a x b y =
      elim (cases_order i j) [
        | inl e ↦ e
        | inr s ↦
            elim s [
              | inl m ↦ absurd (omega (arith, numbered z (suc i) n q c x, next_on z (suc i) j m, b.number_low))
              | inr m ↦ absurd (omega (arith, numbered z (suc j) n r d y, next_on z (suc j) i m, a.number_low))
            ]
      ]

  -- what is said at step i to q, who is active D ticks later, is delivered to q in between
  pub record Heard (i q : ℕ) (c : Copy R) (j : ℕ) : Type 0 where
    pub number : ℕ
    pub delivered : Delivered z number q c (suc i) j

  pub said_arrives : (i : ℕ) (x : Step R) (l : Letter R Set) (q j : ℕ) → Accepted z i x → Among l (said z.setup x (state z i)) → receivers l.to (active_set (state z (suc i))) q ≡ true
      → suc i ≤ j → active_at z j q ≡ true → clock z i + D z ≤ clock z j → Heard i q (record { from = actor x; content = l.content; sent = clock z i }) j
  said_arrives i x l q j a m h k v late =
      let (n, low, w) = posts z i x l q a m h (used_in_range z (suc i) q (active_used z q (suc i) (receives_active z (suc i) l q h))) in
      record { number = n; delivered = arrives z n q _ (suc i) j k w v late }
