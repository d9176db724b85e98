-- Records follow stamps: whatever a station holds is the first record, or one that a write made under that stamp; stamps are
-- made once, and are higher than the first. Rests on `RecordsSaid`, `Hearings`, `Changes` and `Stamps`.
use Rattle.std.proofs.Common.{◌≡◌, ℕ, zero, suc, ◌<◌, ◌≤◌, true, false, ◌⊎◌, Some, sym, refl, ap, ◌∙◌, subst, ap₂, inl, inr, le_refl, arith}
use Rattle.std.proofs.lemmas.Bool.{both_ways, cases_order, cases_lt}
use Rattle.network.specs.declared.operation.Operation.{Operation}
use Rattle.network.specs.declared.operation.Operation.TheVariants.{PhaseOne, PhaseTwo}
use Rattle.network.specs.declared.operation.Kind.TheVariants as kind
use Rattle.network.specs.declared.operation.Task.TheVariants as task
use Rattle.network.specs.declared.poll.Poll.{Poll}
use Rattle.network.specs.declared.register.Register.{Register}
use Rattle.network.specs.declared.stamp.Stamp.{Stamp}
use Rattle.network.specs.declared.station.Station.{Station}
use Rattle.network.specs.Knowing.{Set}
use Rattle.network.specs.Polls.{new_poll}
use Rattle.network.specs.Stamps.{higher, first_stamp, next_stamp, first_register}
use Rattle.network.specs.States.{Copy}
use Rattle.runs.proofs.Positions.{Run, station, waiting}
use Rattle.runs.proofs.Start.{at_start}
use Rattle.runs.proofs.Changes.{Change, same, comes, fades, begins_one, hears_one, change, grown}
use Rattle.runs.proofs.Hearings.{Cause, of_enter, of_leave, of_begin, of_hearing, caused}
use Rattle.runs.proofs.RecordsSaid.{begins_to_write, offer_in, Wrote, Recorded, rests, not_to_idle, not_to_one, hear_record, says_record}
use Rattle.runs.proofs.Stamps.{UpTo, up_to_itself, up_to_trans, first_up_to, higher_from, next_higher, next_made_by}

module _ {R : Type 0} (z : Run R) where
  -- the write of p that begins phase two at step s makes the record v
  pub record Makes (s p : ℕ) (v : Register R) : Type 0 where
    pub poll : Poll
    pub was_one : (station z s p).operation ≡ PhaseOne (task.Write v.value) poll
    pub base_two : ℕ
    pub is_two : (station z (suc s) p).operation ≡ PhaseTwo kind.Write (new_poll poll.tag base_two) v.value
    pub is : (station z (suc s) p).register ≡ v

  -- v is the first record under the first stamp, or some write made it before position i
  abbrev pub Valid : ℕ → Register R → Type 0
  Valid i v = (v ≡ first_register z.setup.first) ⊎ ((s : ℕ) × (p : ℕ) × (s < i) × Makes s p v)

  valid_on : (i j : ℕ) (v : Register R) → i ≤ j → Valid i v → Valid j v
  valid_on i j v l (inl e) = inl e
  valid_on i j v l (inr (s, p, k, m)) = inr (s, p, omega arith, m)

  makes_by : (s p : ℕ) → Wrote p (station z s p) (station z (suc s) p) → Makes s p (station z (suc s) p).register
  makes_by s p w = record { poll = w.poll; was_one = w.was_one; base_two = w.base_two; is_two = w.is_two; is = refl }

  valid_made : (i p : ℕ) → Wrote p (station z i p) (station z (suc i) p) → Valid (suc i) (station z (suc i) p).register
  valid_made i p w = inr (i, p, omega arith, makes_by i p w)

  -- up to position i, whatever a station holds is valid
  abbrev ValidUpTo : ℕ → Type 0
  ValidUpTo i = (j q : ℕ) → j ≤ i → Valid j (station z j q).register

  -- then so is what is offered in a copy that waits
  copy_valid : (i n r : ℕ) (c : Copy R) → ValidUpTo i → waiting z i n r ≡ Some c → Valid i (offer_in (first_register z.setup.first) c.content)
  copy_valid i n r c h w =
      let k = caused z i n r c w in
      valid_on (suc k.place) i _ k.before (by k.place (λ q. h (suc k.place) q k.before) k.cause)
    where
      first : Register R
      first = first_register z.setup.first

      by : (k : ℕ) → ((q : ℕ) → Valid (suc k) (station z (suc k) q).register) → Cause z k r c → Valid (suc k) (offer_in first c.content)
      by k g (of_enter p a e) = inl (ap (λ (d : Copy R). offer_in first d.content) e)
      by k g (of_leave p a e) = inl (ap (λ (d : Copy R). offer_in first d.content) e)
      by k g (of_begin p t a e) = inl (ap (λ (d : Copy R). offer_in first d.content) e)
      by k g (of_hearing q m l h a t e) =
          let o = ap (λ (d : Copy R). offer_in first d.content) e in
          elim (says_record q first m (station z k q) (station z (suc k) q) l a) [ inl x ↦ inl (o ∙ x) | inr x ↦ subst (Valid (suc k)) (sym (o ∙ x)) (g q) ]

  held_next : (i q : ℕ) → ValidUpTo i → Change z i q → Valid (suc i) (station z (suc i) q).register
  held_next i q h = by
    where
      first : Register R
      first = first_register z.setup.first

      kept : (station z (suc i) q).register ≡ (station z i q).register → Valid (suc i) (station z (suc i) q).register
      kept e = subst (Valid (suc i)) (sym e) (valid_on i (suc i) _ (omega arith) (h i q (le_refl i)))

      heard : (n : ℕ) (c : Copy R) → waiting z i n q ≡ Some c → Recorded q first c.content (station z i q) (station z (suc i) q) → Valid (suc i) (station z (suc i) q).register
      heard n c w (inl (o, inl e)) = kept e
      heard n c w (inl (o, inr e)) = subst (Valid (suc i)) (sym e) (valid_on i (suc i) _ (omega arith) (copy_valid i n q c h w))
      heard n c w (inr m) = valid_made i q m

      by : Change z i q → Valid (suc i) (station z (suc i) q).register
      by (same e) = kept (ap (λ (x : Station R Set). x.register) e)
      by (comes a e) = inl (ap (λ (x : Station R Set). x.register) e)
      by (fades l c f e) = kept (ap (λ (x : Station R Set). x.register) e)
      by (begins_one t a e) = kept (ap (λ (x : Station R Set). x.register) e)
      by (hears_one n c a w e) = heard n c w (subst (Recorded q first c.content (station z i q)) (sym e) (hear_record z.setup.choice q first c.content (station z i q)))

  valid_up_to : (i : ℕ) → ValidUpTo i
  valid_up_to zero j q l = let e : j ≡ 0 = omega arith in inl (ap (λ i. (station z i q).register) e ∙ at_start z (λ x. x.register) (first_register z.setup.first) refl refl q)
  valid_up_to (suc i) j q l =
      elim (cases_lt j (suc i)) [
        | inl k ↦ valid_up_to i j q (omega arith)
        | inr k ↦ let e : suc i ≡ j = omega arith in subst (λ j. Valid j (station z j q).register) e (held_next i q (valid_up_to i) (change z i q))
      ]

  pub record_valid : (i q : ℕ) → Valid i (station z i q).register
  record_valid i q = valid_up_to i i q (le_refl i)

  -- where a write begins phase two, it makes a record
  wrote_there : (s p : ℕ) → begins_to_write (station z s p).operation (station z (suc s) p).operation ≡ true → Wrote p (station z s p) (station z (suc s) p)
  wrote_there s p writes = by (change z s p)
    where
      x : Operation R
      x = (station z s p).operation

      other : (o : Operation R) → (station z (suc s) p).operation ≡ o → begins_to_write x o ≡ false → ⊥
      other o e f = both_ways _ (ap (begins_to_write x) e ∙ f) writes

      heard : (c : Copy R) → Recorded p (first_register z.setup.first) c.content (station z s p) (station z (suc s) p) → Wrote p (station z s p) (station z (suc s) p)
      heard c (inl (o, e)) = absurd (both_ways _ o writes)
      heard c (inr w) = w

      by : Change z s p → Wrote p (station z s p) (station z (suc s) p)
      by (same e) = absurd (other x (ap (λ (x : Station R Set). x.operation) e) (rests x))
      by (comes a e) = absurd (other _ (ap (λ (x : Station R Set). x.operation) e) (not_to_idle x 0))
      by (fades l c f e) = absurd (other x (ap (λ (x : Station R Set). x.operation) e) (rests x))
      by (begins_one t a e) = absurd (other _ (ap (λ (x : Station R Set). x.operation) e) (not_to_one x _ _))
      by (hears_one n c a w e) = heard c (subst (Recorded p _ c.content (station z s p)) (sym e) (hear_record z.setup.choice p _ c.content (station z s p)))

  pub makes_there : (s p : ℕ) → begins_to_write (station z s p).operation (station z (suc s) p).operation ≡ true → Makes s p (station z (suc s) p).register
  makes_there s p h = makes_by s p (wrote_there s p h)

  -- the stamp of a write is next to one that is not below what its station had
  made_stamp : (s p : ℕ) (v : Register R) → Makes s p v → (t : Stamp) × (v.stamp ≡ next_stamp p t) × UpTo (station z s p).register.stamp t
  made_stamp s p v m = let w = wrote_there s p (ap₂ begins_to_write m.was_one m.is_two) in (w.had, sym (ap (λ (r : Register R). r.stamp) m.is) ∙ w.next, w.not_below)

  pub made_once : (s s' p p' : ℕ) (v v' : Register R) → Makes s p v → Makes s' p' v' → v.stamp ≡ v'.stamp → (s ≡ s') × (p ≡ p')
  made_once s s' p p' v v' m m' e =
      let (t, n, u) = made_stamp s p v m in
      let (t', n', u') = made_stamp s' p' v' m' in
      at_one (next_made_by p p' t t' (sym n ∙ e ∙ n'))
    where
      -- a later write of one station has a higher stamp
      rises : (s s' : ℕ) (v v' : Register R) → Makes s p v → Makes s' p v' → s < s' → v.stamp ≡ v'.stamp → ⊥
      rises s s' v v' m m' l e =
          let (t, n, u) = made_stamp s' p v' m' in
          let low : UpTo v.stamp t = up_to_trans _ _ t (subst (λ (r : Register R). UpTo r.stamp (station z s' p).register.stamp) m.is (grown z p (suc s) s' l).stamp) u in
          both_ways _ (up_to_itself v.stamp) (subst (λ w. higher w v.stamp ≡ true) (sym (e ∙ n)) (higher_from _ t _ (next_higher p t) low))

      at_one : p ≡ p' → (s ≡ s') × (p ≡ p')
      at_one k =
          let own : Makes s' p v' = subst (λ q. Makes s' q v') (sym k) m' in
          (elim (cases_order s s') [ inl j ↦ j | inr j ↦ elim j [ inl l ↦ absurd (rises s s' v v' m own l e) | inr l ↦ absurd (rises s' s v' v own m l (sym e)) ] ], k)

  pub made_higher : (s p : ℕ) (v : Register R) → Makes s p v → higher v.stamp first_stamp ≡ true
  made_higher s p v m =
      let (t, n, u) = made_stamp s p v m in
      subst (λ w. higher w first_stamp ≡ true) (sym n) (higher_from _ t first_stamp (next_higher p t) (first_up_to t))
