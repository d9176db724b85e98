-- What one record changed or put between others does to the order, the counts and the ticks.
use Rattle.std.proofs.Common.{◌≡◌, ℕ, zero, suc, ◌+◌, ◌^◌, ◌<◌, ◌≤◌, min, Bool, true, false, cond, ◌&&◌, eqb, leb, List, [], ◌∷◌, ◌++◌, length, get_or, take, drop, Some, None, Option, sym, refl, ap, ◌∙◌, ⊎_elim, one-add, arith}
use Rattle.std.specs.List.{prefix_len}
use Rattle.std.proofs.lemmas.Bool.{and_parts, and_from, leb-true, le-leb, ltb-true, eqb-false, eq-eqb, ne_eqb, or_parts, cases_Bool, cases_eq}
use Rattle.carrier.specs.declared.message.Held.{Held}
use Rattle.rack.specs.declared.entry.Entry.{Entry}
use Rattle.rack.specs.Entries.{held_under, rising, lives, steady, before, keyed, last_sent}
use Rattle.rack.proofs.Order.{rising_parts, rising_from, rising_at, held_mid, gone_mid}

module _ {X : Type 0} where
  pub rising_swap : (ls : List (Entry X)) (x y : Entry X) (ds : List (Entry X)) (b : ℕ) → y.key ≡ x.key
      → rising b (ls ++ x ∷ ds) ≡ true → rising b (ls ++ y ∷ ds) ≡ true
  rising_swap [] x y ds b e r = ap (λ (k : ℕ). leb b k && rising (k + 1) ds) e ∙ r
  rising_swap (a ∷ ls) x y ds b e r =
      let p = rising_parts b a (ls ++ x ∷ ds) r in rising_from b a (ls ++ y ∷ ds) p.0 (rising_swap ls x y ds (a.key + 1) e p.1)

  -- the same key holds something else
  pub held_swap : (j : ℕ) (ls : List (Entry X)) (x y : Entry X) (ds : List (Entry X)) (b : ℕ) → y.key ≡ x.key → rising b (ls ++ x ∷ ds) ≡ true
      → held_under (ls ++ y ∷ ds) j ≡ cond (eqb j x.key) (cond y.live (Some y.held) None) (held_under (ls ++ x ∷ ds) j)
  held_swap j ls x y ds b e r =
      held_mid j ls y ds b (rising_swap ls x y ds b e r)
      ∙ by j x.key y.key x.live y.live y.held x.held (held_under (ls ++ ds) j) e (λ q. ap (held_under (ls ++ ds)) q ∙ gone_mid ls x ds b r)
      ∙ ap (λ o. cond (eqb j x.key) (cond y.live (Some y.held) None) o) (sym (held_mid j ls x ds b r)) where
        by : (j k l : ℕ) (s t : Bool) (h g : Held X) (o : Option (Held X)) → l ≡ k → (j ≡ k → o ≡ None)
            → cond (t && eqb j l) (Some h) o ≡ cond (eqb j k) (cond t (Some h) None) (cond (s && eqb j k) (Some g) o)
        by j k l s t h g o same n =
            ap (λ (m : ℕ). cond (t && eqb j m) (Some h) o) same
            ∙ ⊎_elim
            (λ q. rw (eq-eqb j k q) (yes_key t h o (n q)))
            (λ q. rw (ne_eqb j k q) (no_key t s h g o))
            (cases_eq j k) where
              yes_key : (t : Bool) (h : Held X) (o : Option (Held X)) → o ≡ None → cond (t && true) (Some h) o ≡ cond t (Some h) None
              yes_key true h o e = refl
              yes_key false h o e = e

              no_key : (t s : Bool) (h g : Held X) (o : Option (Held X)) → cond (t && false) (Some h) o ≡ cond (s && false) (Some g) o
              no_key true true h g o = refl
              no_key true false h g o = refl
              no_key false true h g o = refl
              no_key false false h g o = refl

  -- a key that no record has
  pub rising_next : (k : ℕ) (ds : List (Entry X)) → k < 2 ^ 40 → rising k ds ≡ true → keyed k ds ≡ false → rising (k + 1) ds ≡ true
  rising_next k [] h r n = le-leb (k + 1) (2 ^ 40) (omega arith)
  rising_next k (e ∷ ds) h r n =
      let p = rising_parts k e ds r in
      let ne = eqb-false k e.key (or_parts (eqb k e.key) _ n).0 in
      rising_from (k + 1) e ds (above k e.key p.0 ne) p.1 where
        above : (a b : ℕ) → a ≤ b → (a ≡ b → ⊥) → a + 1 ≤ b
        above a b l ne = ⊎_elim (λ q. absurd (ne q)) (λ q. omega arith) (cases_eq a b)

  -- a record put before the first that is not before its key
  pub rising_insert : (b : ℕ) (es : List (Entry X)) (x : Entry X) → rising b es ≡ true → b ≤ x.key → x.key < 2 ^ 40 → keyed x.key es ≡ false
      → rising b (take (prefix_len (before x.key) es) es ++ x ∷ drop (prefix_len (before x.key) es) es) ≡ true
  rising_insert b [] x r h l n = rising_from b x [] h (le-leb (x.key + 1) (2 ^ 40) (omega arith))
  rising_insert b (y ∷ es) x r h l n =
      let p = rising_parts b y es r in
      ⊎_elim
      (λ t.
      rw t (rw one-add (rising_from b y _ p.0
      (rising_insert (y.key + 1) es x p.1 (omega (arith, ltb-true _ _ t)) l (or_parts (eqb x.key y.key) _ n).1))))
      (λ f.
      let k = x.key in
      let same : drop (prefix_len (before k) (y ∷ es)) (y ∷ es) ≡ y ∷ es = rw f in
      rw f (rising_from b x (y ∷ es) h (rising_next k (y ∷ es) l (ap (rising k) (sym same) ∙ rising_at b k (y ∷ es) r (omega arith)) n)))
      (cases_Bool (before x.key y))

  pub lives_append : (ls ds : List (Entry X)) → lives (ls ++ ds) ≡ lives ls + lives ds
  lives_append [] ds = omega arith
  lives_append (a ∷ ls) ds = omega (arith, lives_append ls ds)

  pub lives_mid : (ls : List (Entry X)) (x : Entry X) (ds : List (Entry X)) → lives (ls ++ x ∷ ds) ≡ lives (ls ++ ds) + cond x.live 1 0
  lives_mid ls x ds = omega (arith, lives_append ls (x ∷ ds), lives_append ls ds)

  -- how many are passed over from the front on
  pub leading_skip : (p : Entry X → Bool) (es : List (Entry X)) (i : ℕ) → i ≤ prefix_len p es → prefix_len p es ≡ i + prefix_len p (drop i es)
  leading_skip p es zero h = omega arith
  leading_skip p [] (suc i) h = absurd (omega arith)
  leading_skip p (e ∷ es) (suc i) h =
      ⊎_elim
      (λ t. rw t (omega (arith, leading_skip p es i (omega (arith, rw t at h)))))
      (λ f. absurd (omega (arith, rw f at h)))
      (cases_Bool (p e))

  pub leading_grows : (p : Entry X → Bool) (ls : List (Entry X)) (x y : Entry X) (ds : List (Entry X)) → p y ≡ true
      → prefix_len p (ls ++ x ∷ ds) ≤ prefix_len p (ls ++ y ∷ ds)
  leading_grows p [] x y ds t = rw t (⊎_elim (λ u. rw u (omega arith)) (λ u. rw u (omega arith)) (cases_Bool (p x)))
  leading_grows p (a ∷ ls) x y ds t =
      let more = leading_grows p ls x y ds t in
      ⊎_elim (λ u. rw u (omega (arith, more))) (λ u. rw u (omega arith)) (cases_Bool (p a))

  pub leading_swap : (p : Entry X → Bool) (ls : List (Entry X)) (x y : Entry X) (ds : List (Entry X)) → p y ≡ p x
      → prefix_len p (ls ++ y ∷ ds) ≡ prefix_len p (ls ++ x ∷ ds)
  leading_swap p [] x y ds e = ap (λ (t : Bool). cond {A = ℕ} t (1 + prefix_len p ds) 0) e
  leading_swap p (a ∷ ls) x y ds e = ap (λ (n : ℕ). cond (p a) (1 + n) 0) (leading_swap p ls x y ds e)

  pub leading_insert : (p : Entry X → Bool) (ls : List (Entry X)) (x : Entry X) (ds : List (Entry X)) → p x ≡ false
      → prefix_len p (ls ++ x ∷ ds) ≡ min (length ls) (prefix_len p (ls ++ ds))
  leading_insert p [] x ds f = rw f (omega arith)
  leading_insert p (a ∷ ls) x ds f =
      let more = leading_insert p ls x ds f in
      ⊎_elim (λ u. rw u (omega (arith, more))) (λ u. rw u (omega arith)) (cases_Bool (p a))

  pub steady_swap : (ls : List (Entry X)) (x y : Entry X) (ds : List (Entry X)) (b : ℕ) → y.held.sent ≡ x.held.sent
      → steady b (ls ++ y ∷ ds) ≡ steady b (ls ++ x ∷ ds)
  steady_swap [] x y ds b e = ap (λ (k : ℕ). leb b k && steady k ds) e
  steady_swap (a ∷ ls) x y ds b e = ap (λ (t : Bool). leb b a.held.sent && t) (steady_swap ls x y ds a.held.sent e)

  pub last_read : (b i : ℕ) (es : List (Entry X)) (z : Entry X) → length es ≡ suc i → z ≡ get_or es i z → last_sent b es ≡ z.held.sent
  last_read b i [] z l g = absurd (omega arith)
  last_read b zero (e ∷ []) z l g = ap (λ (y : Entry X). y.held.sent) (sym g)
  last_read b zero (e ∷ f ∷ es) z l g = absurd (omega arith)
  last_read b (suc i) (e ∷ es) z l g = last_read e.held.sent i es z (omega arith) g

  pub steady_push : (b : ℕ) (es : List (Entry X)) (x : Entry X) → steady b es ≡ true → last_sent b es ≤ x.held.sent → steady b (es ++ x ∷ []) ≡ true
  steady_push b [] x s h = and_from _ _ (le-leb b _ h) refl
  steady_push b (e ∷ es) x s h =
      let p = and_parts (leb b e.held.sent) _ s in and_from _ _ p.0 (steady_push e.held.sent es x p.1 h)

  pub steady_parts : (b : ℕ) (e : Entry X) (es : List (Entry X)) → steady b (e ∷ es) ≡ true → (b ≤ e.held.sent) × (steady e.held.sent es ≡ true)
  steady_parts b e es s = let p = and_parts (leb b e.held.sent) _ s in (leb-true b _ p.0, p.1)

  pub steady_from : (b : ℕ) (e : Entry X) (es : List (Entry X)) → b ≤ e.held.sent → steady e.held.sent es ≡ true → steady b (e ∷ es) ≡ true
  steady_from b e es h s = and_from _ _ (le-leb b _ h) s

  pub steady_less : (b c : ℕ) (es : List (Entry X)) → b ≤ c → steady c es ≡ true → steady b es ≡ true
  steady_less b c [] h s = refl
  steady_less b c (e ∷ es) h s = let p = steady_parts c e es s in steady_from b e es (omega (arith, p.0)) p.1
