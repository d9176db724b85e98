-- Records in rising order: where a key stands, and what is held under it.
use Rattle.std.proofs.Common.{◌≡◌, ℕ, zero, suc, ◌+◌, ◌^◌, ◌<◌, ◌≤◌, true, cond, ◌&&◌, eqb, leb, List, [], ◌∷◌, ◌++◌, length, get_or, drop, Some, None, Option, sym, refl, ap, ◌∙◌, ⊎_elim, one-add, arith}
use Rattle.std.specs.List.{prefix_len}
use Rattle.std.specs.List.Sorted.{IsNonDecreasingBy}
use Rattle.std.proofs.lemmas.Bool.{and_parts, and_from, and_right, leb-true, le-leb, ltb-true, ltb-false, ne_eqb, cond-false, cases_Bool, cases_eq}
use Rattle.carrier.specs.declared.message.Held.{Held}
use Rattle.rack.specs.declared.entry.Entry.{Entry}
use Rattle.rack.specs.Entries.{held_under, rising, before}

module _ {X : Type 0} where
  -- the parts of the order at the first record
  pub rising_parts : (b : ℕ) (e : Entry X) (es : List (Entry X)) → rising b (e ∷ es) ≡ true → (b ≤ e.key) × (rising (e.key + 1) es ≡ true)
  rising_parts b e es r = let h = and_parts (leb b e.key) _ r in (leb-true b _ h.0, h.1)

  pub rising_from : (b : ℕ) (e : Entry X) (es : List (Entry X)) → b ≤ e.key → rising (e.key + 1) es ≡ true → rising b (e ∷ es) ≡ true
  rising_from b e es h r = and_from _ _ (le-leb b _ h) r

  -- what rises from c on rises from any b before it
  pub rising_less : (b c : ℕ) (es : List (Entry X)) → b ≤ c → rising c es ≡ true → rising b es ≡ true
  rising_less b c [] h r = le-leb b _ (omega (arith, leb-true c (2 ^ 40) r))
  rising_less b c (e ∷ es) h r = let p = rising_parts c e es r in rising_from b e es (omega (arith, p.0)) p.1

  pub rising_bound : (b : ℕ) (es : List (Entry X)) → rising b es ≡ true → b ≤ 2 ^ 40
  rising_bound b [] r = leb-true b _ r
  rising_bound b (e ∷ es) r = let p = rising_parts b e es r in omega (arith, p.0, rising_bound (e.key + 1) es p.1)

  -- a record with another key does not matter
  pub held_other : (k : ℕ) (e : Entry X) (o : Option (Held X)) → (k ≡ e.key → ⊥) → cond (e.live && eqb k e.key) (Some e.held) o ≡ o
  held_other k e o h = cond-false _ _ _ (and_right e.live _ (ne_eqb k e.key h))

  -- nothing is held under a key before the first
  pub held_below : (b k : ℕ) (es : List (Entry X)) → rising b es ≡ true → k < b → held_under es k ≡ None
  held_below b k [] r h = refl
  held_below b k (e ∷ es) r h =
      let p = rising_parts b e es r in
      held_other k e _ (λ q. omega (arith, q, p.0)) ∙ held_below (e.key + 1) k es p.1 (omega (arith, p.0))

  -- from the first record on that is not before the key, keys rise from the key on
  pub rising_at : (b k : ℕ) (es : List (Entry X)) → rising b es ≡ true → k ≤ 2 ^ 40 → rising k (drop (prefix_len (before k) es) es) ≡ true
  rising_at b k [] r h = le-leb k _ h
  rising_at b k (y ∷ es) r h =
      let p = rising_parts b y es r in
      ⊎_elim
      (λ t. rw t (rw one-add (rising_at (y.key + 1) k es p.1 h)))
      (λ f. rw f (rising_from k y es (ltb-false _ k f) p.1))
      (cases_Bool (before k y))

  -- what is held under the key stands from there on
  pub held_at : (b k : ℕ) (es : List (Entry X)) → held_under es k ≡ held_under (drop (prefix_len (before k) es) es) k
  held_at b k [] = refl
  held_at b k (y ∷ es) =
      ⊎_elim
      (λ t. rw t (rw one-add (held_other k y _ (λ q. omega (arith, q, ltb-true _ k t)) ∙ held_at b k es)))
      (λ f. rw f)
      (cases_Bool (before k y))

  key_past : (b i : ℕ) (es : List (Entry X)) (d : Entry X) → rising b es ≡ true → i < length es → b ≤ (get_or es i d).key
  key_past b i [] d r l = absurd (omega arith)
  key_past b zero (y ∷ es) d r l = (rising_parts b y es r).0
  key_past b (suc i) (y ∷ es) d r l =
      let p = rising_parts b y es r in omega (arith, p.0, key_past (y.key + 1) i es d p.1 (omega arith))

  -- keys never fall
  pub rising_sorted : (b : ℕ) (es : List (Entry X)) → rising b es ≡ true → IsNonDecreasingBy (λ (e : Entry X). e.key) es
  rising_sorted b [] r i j d le lt = absurd (omega arith)
  rising_sorted b (y ∷ es) r zero zero d le lt = omega arith
  rising_sorted b (y ∷ es) r zero (suc j) d le lt = omega (arith, key_past (y.key + 1) j es d (rising_parts b y es r).1 (omega arith))
  rising_sorted b (y ∷ es) r (suc i) zero d le lt = absurd (omega arith)
  rising_sorted b (y ∷ es) r (suc i) (suc j) d le lt = rising_sorted (y.key + 1) es (rising_parts b y es r).1 i j d (omega arith) (omega arith)

  mid_past : (b : ℕ) (ls : List (Entry X)) (x : Entry X) (ds : List (Entry X)) → rising b (ls ++ x ∷ ds) ≡ true → b ≤ x.key
  mid_past b [] x ds r = (rising_parts b x ds r).0
  mid_past b (a ∷ ls) x ds r =
      let p = rising_parts b a (ls ++ x ∷ ds) r in omega (arith, p.0, mid_past (a.key + 1) ls x ds p.1)

  -- a record in the middle, beside the others
  pub held_mid : (j : ℕ) (ls : List (Entry X)) (x : Entry X) (ds : List (Entry X)) (b : ℕ) → rising b (ls ++ x ∷ ds) ≡ true
      → held_under (ls ++ x ∷ ds) j ≡ cond (x.live && eqb j x.key) (Some x.held) (held_under (ls ++ ds) j)
  held_mid j [] x ds b r = refl
  held_mid j (a ∷ ls) x ds b r =
      let p = rising_parts b a (ls ++ x ∷ ds) r in
      ⊎_elim
      (λ e.
      held_other j a _ (λ q. omega (arith, q, e, mid_past (a.key + 1) ls x ds p.1)) ∙ held_mid j ls x ds (a.key + 1) p.1
      ∙ ap (λ o. cond (x.live && eqb j x.key) (Some x.held) o) (sym (held_other j a _ (λ q. omega (arith, q, e, mid_past (a.key + 1) ls x ds p.1)))))
      (λ ne.
      ap (λ o. cond (a.live && eqb j a.key) (Some a.held) o) (held_mid j ls x ds (a.key + 1) p.1 ∙ held_other j x _ ne) ∙ sym (held_other j x _ ne))
      (cases_eq j x.key)

  -- no other record has its key
  pub gone_mid : (ls : List (Entry X)) (x : Entry X) (ds : List (Entry X)) (b : ℕ) → rising b (ls ++ x ∷ ds) ≡ true → held_under (ls ++ ds) x.key ≡ None
  gone_mid [] x ds b r = held_below (x.key + 1) x.key ds (rising_parts b x ds r).1 (omega arith)
  gone_mid (a ∷ ls) x ds b r =
      let p = rising_parts b a (ls ++ x ∷ ds) r in
      held_other x.key a _ (λ q. omega (arith, q, mid_past (a.key + 1) ls x ds p.1)) ∙ gone_mid ls x ds (a.key + 1) p.1
