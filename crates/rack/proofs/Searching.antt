-- Where a key stands among records in rising order, and what is found there.
use Rattle.std.proofs.Common.{◌≡◌, ℕ, ◌+◌, ◌^◌, ◌<◌, ◌≤◌, Bool, true, false, cond, ◌&&◌, ◌||◌, eqb, List, [], ◌∷◌, ◌++◌, length, get_or, take, drop, Some, None, sym, refl, ap, ◌∙◌, ⊎_elim, one-add, arith}
use Rattle.std.specs.List.{prefix_len}
use Rattle.std.proofs.lemmas.List.{drop_more, drop_all, take-append-drop}
use Rattle.std.proofs.lemmas.List.Sums.{prefix_len_passes, prefix_len_stops}
use Rattle.std.proofs.lemmas.Bool.{or_from, ltb-true, ltb-false, eq-eqb, ne_eqb, cases_Bool, cases_eq, cases_lt}
use Rattle.rack.specs.declared.entry.Entry.{Entry}
use Rattle.rack.specs.Entries.{held_under, rising, before, keyed}
use Rattle.rack.proofs.Order.{rising_parts, rising_sorted, rising_at, held_at, held_below}

-- in order, whether the record at a place is before a key says on which side of it the key stands
module _ {X : Type 0} (es : List (Entry X)) (order : rising 0 es ≡ true) (k i : ℕ) (x : Entry X) (h : i < length es) (g : x ≡ get_or es i x) where
  pub seek_past : x.key < k → i + 1 ≤ prefix_len (before k) es
  seek_past l = ⊎_elim (λ past. omega arith) (λ not. absurd (by not)) (cases_lt i (prefix_len (before k) es)) where
    by : prefix_len (before k) es ≤ i → ⊥
    by not =
        let n = prefix_len (before k) es in
        let stops = ltb-false (get_or es n x).key k (prefix_len_stops (before k) es x (omega arith)) in
        omega (arith, l, stops, rising_sorted 0 es order n i x not h, ap (λ (e : Entry X). e.key) g)

  pub seek_not : k ≤ x.key → prefix_len (before k) es ≤ i
  seek_not l = ⊎_elim (λ past. absurd (by past)) (λ not. not) (cases_lt i (prefix_len (before k) es)) where
    by : i < prefix_len (before k) es → ⊥
    by past = omega (arith, l, ltb-true (get_or es i x).key k (prefix_len_passes (before k) es i x past), ap (λ (e : Entry X). e.key) g)

pub same_test : (a b : ℕ) → eqb a b ≡ eqb b a
same_test a b = ⊎_elim (λ q. eq-eqb a b q ∙ sym (eq-eqb b a (sym q))) (λ n. ne_eqb a b n ∙ sym (ne_eqb b a (λ q. n (sym q)))) (cases_eq a b)

keyed_at : {X : Type 0} (k : ℕ) (es : List (Entry X)) → keyed k es ≡ keyed k (drop (prefix_len (before k) es) es)
keyed_at k [] = refl
keyed_at k (y ∷ es) =
    ⊎_elim
    (λ t. rw t (rw one-add (ap (λ (b : Bool). b || keyed k es) (ne_eqb k y.key (λ q. omega (arith, q, ltb-true _ k t))) ∙ keyed_at k es)))
    (λ f. rw f)
    (cases_Bool (before k y))

keyed_below : {X : Type 0} (b k : ℕ) (es : List (Entry X)) → rising b es ≡ true → k < b → keyed k es ≡ false
keyed_below b k [] r h = refl
keyed_below b k (e ∷ es) r h =
    let p = rising_parts b e es r in
    or_from _ _ (ne_eqb k e.key (λ q. omega (arith, q, p.0))) (keyed_below (e.key + 1) k es p.1 (omega (arith, p.0)))

module _ {X : Type 0} (es : List (Entry X)) where
  -- the records from a place on
  pub from_place : (i : ℕ) (x : Entry X) → i < length es → x ≡ get_or es i x → drop i es ≡ x ∷ drop (i + 1) es
  from_place i x h g = drop_more es i x h ∙ ap (λ z. z ∷ drop (i + 1) es) (sym g)

  -- the records before a place, the one there, and those after it
  pub around : (i : ℕ) (x : Entry X) → i < length es → x ≡ get_or es i x → es ≡ take i es ++ x ∷ drop (i + 1) es
  around i x h g = sym (take-append-drop i es) ∙ ap (λ z. take i es ++ z) (from_place i x h g)

  module _ (order : rising 0 es ≡ true) (k i : ℕ) (is : i ≡ prefix_len (before k) es) where
    held_from : held_under es k ≡ held_under (drop i es) k
    held_from = held_at 0 k es ∙ ap (λ (j : ℕ). held_under (drop j es) k) (sym is)

    keyed_from : keyed k es ≡ keyed k (drop i es)
    keyed_from = keyed_at k es ∙ ap (λ (j : ℕ). keyed k (drop j es)) (sym is)

    pub look_past : length es ≤ i → held_under es k ≡ None
    look_past h = held_from ∙ ap (λ l. held_under l k) (drop_all i es h)

    pub keyed_past : length es ≤ i → keyed k es ≡ false
    keyed_past h = keyed_from ∙ ap (keyed k) (drop_all i es h)

    -- the record there, and what rises after it
    module _ (x : Entry X) (h : i < length es) (g : x ≡ get_or es i x) (small : k < 2 ^ 40) where
      abbrev rest : List (Entry X)
      rest = drop (i + 1) es

      after : (k ≤ x.key) × (rising (x.key + 1) rest ≡ true)
      after = rising_parts k x rest (ap (rising k) (sym (from_place i x h g) ∙ ap (λ (j : ℕ). drop j es) is) ∙ rising_at 0 k es order (omega arith))

      pub look_here : held_under es k ≡ cond (x.live && eqb k x.key) (Some x.held) None
      look_here =
          held_from ∙ ap (λ l. held_under l k) (from_place i x h g)
          ∙ ap (λ o. cond (x.live && eqb k x.key) (Some x.held) o) (held_below (x.key + 1) k rest after.1 (omega (arith, after.0)))

      pub keyed_here : keyed k es ≡ eqb x.key k
      keyed_here =
          keyed_from ∙ ap (keyed k) (from_place i x h g)
          ∙ ap (λ (b : Bool). eqb k x.key || b) (keyed_below (x.key + 1) k rest after.1 (omega (arith, after.0)))
          ∙ or_none (eqb k x.key) ∙ same_test k x.key where
            or_none : (b : Bool) → (b || false) ≡ b
            or_none true = refl
            or_none false = refl
