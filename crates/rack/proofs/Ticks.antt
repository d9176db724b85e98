-- The earliest tick sent, among records and among what waits.
use Rattle.std.proofs.Common.{◌≡◌, ℕ, ◌+◌, ◌/◌, ◌%◌, ◌^◌, ◌<◌, ◌≤◌, min, true, eqb, ◌⊎◌, List, [], ◌∷◌, length, map, get_or, Some, None, Option, sym, refl, ap, ◌∙◌, subst, inl, inr, ⊎_elim, one-add, arith}
use Rattle.std.specs.List.{prefix_len, reduce, fold, filter}
use Rattle.std.proofs.lemmas.Bool.{and_from, and_right, cond-true, cond-false, eq-eqb, cases_Bool, cases_lt}
use Rattle.carrier.specs.Counts.{earlier, when, earliest}
use Rattle.carrier.proofs.Earliest.{Above, above_less, earlier_left, Earliest, earliest_is}
use Rattle.rack.specs.declared.entry.Entry.{Entry}
use Rattle.rack.specs.Entries.{key_of, held_under, waiting, rising, steady, dead, live, soonest}
use Rattle.rack.proofs.Order.{rising_parts, rising_bound, held_other}
use Rattle.rack.proofs.Changes.{steady_parts}
use Rattle.rack.proofs.Keys.{waiting_at}

pub earlier_assoc : (a b c : Option ℕ) → earlier (earlier a b) c ≡ earlier a (earlier b c)
earlier_assoc None b c = refl
earlier_assoc (Some a) None c = refl
earlier_assoc (Some a) (Some b) None = refl
earlier_assoc (Some a) (Some b) (Some c) = ap Some (omega arith)

above_earlier : (t : ℕ) (a b : Option ℕ) → Above t a → Above t b → Above t (earlier a b)
above_earlier t None b x y = y
above_earlier t (Some a) None x y = x
above_earlier t (Some a) (Some b) x y = omega arith

earlier_parts : (t : ℕ) (a b : Option ℕ) → Above t (earlier a b) → Above t a × Above t b
earlier_parts t None b h = (tt, h)
earlier_parts t (Some a) None h = (h, tt)
earlier_parts t (Some a) (Some b) h = (omega arith, omega arith)

none_some : (t : ℕ) → ◌≡◌ {A = Option ℕ} None (Some t) → ⊥
none_some t e = let z : ◌≡◌ {A = ℕ} 0 1 = cc in omega arith

some_earlier : (s : ℕ) (r : Option ℕ) → earlier (Some s) r ≡ None → ⊥
some_earlier s None e = none_some s (sym e)
some_earlier s (Some u) e = none_some (min s u) (sym e)

pick : (s : ℕ) (r : Option ℕ) (t : ℕ) → earlier (Some s) r ≡ Some t → (s ≡ t) ⊎ (r ≡ Some t)
pick s None t e = inl (cc)
pick s (Some u) t e =
    let m : min s u ≡ t = cc in
    ⊎_elim (λ l. inl (omega arith)) (λ l. inr (ap Some (omega arith))) (cases_lt s u)

-- the least of some ticks, taken one by one
reduced : (a : ℕ) (xs : List ℕ) → Some (fold min a xs) ≡ earlier (Some a) (reduce min xs)
reduced a [] = refl
reduced a (b ∷ xs) = reduced (min a b) xs ∙ earlier_assoc (Some a) (Some b) (reduce min xs) ∙ ap (earlier (Some a)) (sym (reduced b xs))

module _ {X : Type 0} where
  pub soonest_reduced : (es : List (Entry X)) → soonest es ≡ reduce min (map (λ e. e.held.sent) (filter live es))
  soonest_reduced [] = refl
  soonest_reduced (e ∷ es) =
      ⊎_elim
      (λ t. rw t (ap (earlier (Some e.held.sent)) (soonest_reduced es) ∙ sym (reduced e.held.sent (map (λ e. e.held.sent) (filter live es)))))
      (λ t. rw t (soonest_reduced es))
      (cases_Bool e.live)

  -- all are dead
  pub soonest_none : (es : List (Entry X)) → length es ≤ prefix_len dead es → soonest es ≡ None
  soonest_none [] h = refl
  soonest_none (e ∷ es) h =
      ⊎_elim
      (λ t. absurd (omega (arith, rw t at h)))
      (λ t. rw t (soonest_none es (omega (arith, rw t at h))))
      (cases_Bool e.live)

  above_soonest : (t : ℕ) (es : List (Entry X)) → steady t es ≡ true → Above t (soonest es)
  above_soonest t [] s = tt
  above_soonest t (e ∷ es) s =
      let p = steady_parts t e es s in
      let rest = above_less t e.held.sent (soonest es) p.0 (above_soonest e.held.sent es p.1) in
      ⊎_elim
      (λ u. rw u (above_earlier t (Some e.held.sent) (soonest es) p.0 rest))
      (λ u. rw u rest)
      (cases_Bool e.live)

  -- where ticks never fall, the first live record has the earliest
  pub soonest_first : (b : ℕ) (es : List (Entry X)) (x : Entry X) → steady b es ≡ true → prefix_len dead es < length es → x ≡ get_or es (prefix_len dead es) x
      → soonest es ≡ Some x.held.sent
  soonest_first b [] x s l g = absurd (omega arith)
  soonest_first b (e ∷ es) x s l g =
      let p = steady_parts b e es s in
      ⊎_elim
      (λ u.
      let here : prefix_len dead (e ∷ es) ≡ 0 = rw u in
      let same : x ≡ e = g ∙ ap (λ (i : ℕ). get_or (e ∷ es) i x) here in
      rw u (earlier_left e.held.sent (soonest es) (above_soonest e.held.sent es p.1)) ∙ ap (λ (z : Entry X). Some z.held.sent) (sym same))
      (λ u. rw u (soonest_first e.held.sent es x p.1 (omega (arith, rw u at l)) (rw one-add at (rw u at g))))
      (cases_Bool e.live)

  -- none is live: nothing is held
  held_none : (es : List (Entry X)) (k : ℕ) → soonest es ≡ None → held_under es k ≡ None
  held_none [] k n = refl
  held_none (e ∷ es) k n =
      ⊎_elim
      (λ u. absurd (some_earlier e.held.sent (soonest es) (rw u at n)))
      (λ u. rw u (held_none es k (rw u at n)))
      (cases_Bool e.live)

  -- a tick that is not above the soonest is not above any
  above_held : (t : ℕ) (es : List (Entry X)) (k : ℕ) → Above t (soonest es) → Above t (when (held_under es k))
  above_held t [] k h = tt
  above_held t (e ∷ es) k h =
      ⊎_elim
      (λ u.
      let parts = earlier_parts t (Some e.held.sent) (soonest es) (rw u at h) in
      ⊎_elim
      (λ q. subst (λ o. Above t (when o)) (sym (cond-true _ _ _ (and_from _ _ u q))) parts.0)
      (λ q. subst (λ o. Above t (when o)) (sym (cond-false _ _ _ (and_right e.live _ q))) (above_held t es k parts.1))
      (cases_Bool (eqb k e.key)))
      (λ u. rw u (above_held t es k (rw u at h)))
      (cases_Bool e.live)

  -- the soonest is held under some key
  attained : (b t : ℕ) (es : List (Entry X)) → rising b es ≡ true → soonest es ≡ Some t → (k : ℕ) × (b ≤ k) × (k < 2 ^ 40) × (when (held_under es k) ≡ Some t)
  attained b t [] r h = absurd (none_some t h)
  attained b t (e ∷ es) r h =
      let p = rising_parts b e es r in
      let top = rising_bound (e.key + 1) es p.1 in
      let later = λ (n : soonest es ≡ Some t). skip e es b t p.0 (attained (e.key + 1) t es p.1 n) in
      ⊎_elim
      (λ u.
      ⊎_elim
      (λ q. (e.key, p.0, omega (arith, top), ap when (cond-true _ _ _ (and_from _ _ u (eq-eqb e.key e.key refl))) ∙ ap Some q))
      later
      (pick e.held.sent (soonest es) t (rw u at h)))
      (λ u. later (rw u at h))
      (cases_Bool e.live) where
        skip : (e : Entry X) (es : List (Entry X)) (b t : ℕ) → b ≤ e.key → ((k : ℕ) × (e.key + 1 ≤ k) × (k < 2 ^ 40) × (when (held_under es k) ≡ Some t))
            → (k : ℕ) × (b ≤ k) × (k < 2 ^ 40) × (when (held_under (e ∷ es) k) ≡ Some t)
        skip e es b t l a =
            let past = a.1 in
            (a.0, omega (arith, past), a.2, ap when (held_other a.0 e _ (λ q. omega (arith, q, past))) ∙ a.3)

  -- the soonest record is the earliest that waits
  pub soonest_earliest : (es : List (Entry X)) → rising 0 es ≡ true → soonest es ≡ earliest (waiting es)
  soonest_earliest es r = earliest_is (waiting es) (soonest es) (by (soonest es) refl) where
    by : (o : Option ℕ) → soonest es ≡ o → Earliest (waiting es) o
    by None n = λ m q l k. waiting_at es m q k ∙ held_none es (key_of m q) n
    by (Some t) n =
        let a = attained 0 t es r n in
        let k = a.0 in
        let small = a.2 in
        let low : k % 256 < 256 = omega arith in
        let back : key_of (k / 256) (k % 256) ≡ k = omega arith in (
          (k / 256, k % 256, omega arith, low, ap when (waiting_at es (k / 256) (k % 256) low ∙ ap (held_under es) back) ∙ a.3),
          λ m q l j. subst (λ o. Above t (when o)) (sym (waiting_at es m q j)) (above_held t es (key_of m q) (subst (Above t) (sym n) (omega arith))),
        )
