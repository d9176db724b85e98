-- Sorting of numbers under a strict order that is a test: insertion, that a sorted list has what was inserted and nothing else,
-- that none stands in it twice, and that of two in it the one before the other stands ahead. Rests on lists alone.
use Rattle.std.proofs.Common.{◌≡◌, ℕ, zero, suc, ◌<◌, Bool, true, false, cond, ◌⊎◌, List, [], ◌∷◌, Some, sym, refl, ap, ◌∙◌, subst, inl, inr, arith, slice_get}
use Rattle.std.proofs.lemmas.Bool.{both_ways, cases_lt}
use Rattle.network.specs.Promises.{In, Ahead, Distinct}
use Rattle.runs.proofs.Accepted.{some_is_not_none}
use Rattle.runs.proofs.Mails.{Among}

module _ {A : Type 0} where
  -- who is among the elements stands at some place
  pub among_in : (x : A) (xs : List A) → Among x xs → In x xs
  among_in x [] a = absurd a
  among_in x (y ∷ ys) (inl e) = (0, ap Some (sym e))
  among_in x (y ∷ ys) (inr a) = let p = among_in x ys a in (suc p.0, p.1)

  pub at_among : (x : A) (xs : List A) (i : ℕ) → slice_get xs i ≡ Some x → Among x xs
  at_among x [] i e = absurd (some_is_not_none x (sym e))
  at_among x (y ∷ ys) zero e = inl cc
  at_among x (y ∷ ys) (suc i) e = inr (at_among x ys i e)

-- a strict order of all numbers, as a test
pub record StrictOrder (before : ℕ → ℕ → Bool) : Type 0 where
  pub one_way : (x y : ℕ) → before x y ≡ true → before y x ≡ false
  pub onward : (x y w : ℕ) → before x y ≡ true → before y w ≡ true → before x w ≡ true
  pub some_way : (x y : ℕ) → (x ≡ y → ⊥) → before x y ≡ false → before y x ≡ true

module _ (before : ℕ → ℕ → Bool) where
  -- x put ahead of the first that it is before
  unfoldable pub insert : ℕ → List ℕ → List ℕ
  insert x [] = x ∷ []
  insert x (y ∷ ys) = cond (before x y) (x ∷ y ∷ ys) (y ∷ insert x ys)

  -- the numbers below n that pass the test, in order
  unfoldable pub sorted : (ℕ → Bool) → ℕ → List ℕ
  sorted inside zero = []
  sorted inside (suc n) = cond (inside n) (insert n (sorted inside n)) (sorted inside n)

  -- each is before all that follow
  abbrev pub Rising : List ℕ → Type 0
  Rising [] = Unit {0}
  Rising (x ∷ xs) = ((y : ℕ) → Among y xs → before x y ≡ true) × Rising xs

  insert_only : (x w : ℕ) (xs : List ℕ) → Among w (insert x xs) → (w ≡ x) ⊎ Among w xs
  unfolding insert
  insert_only x w [] a = a
  insert_only x w (y ∷ ys) a = by (before x y) a (insert_only x w ys)
    where
      by : (b : Bool) → Among w (cond b (x ∷ y ∷ ys) (y ∷ insert x ys)) → (Among w (insert x ys) → (w ≡ x) ⊎ Among w ys) → (w ≡ x) ⊎ Among w (y ∷ ys)
      by true a f = a
      by false (inl e) f = inr (inl e)
      by false (inr a) f = elim (f a) [ inl e ↦ inl e | inr h ↦ inr (inr h) ]

  insert_has : (x w : ℕ) (xs : List ℕ) → (w ≡ x) ⊎ Among w xs → Among w (insert x xs)
  unfolding insert
  insert_has x w [] a = a
  insert_has x w (y ∷ ys) a = by (before x y) a (insert_has x w ys)
    where
      by : (b : Bool) → (w ≡ x) ⊎ Among w (y ∷ ys) → ((w ≡ x) ⊎ Among w ys → Among w (insert x ys)) → Among w (cond b (x ∷ y ∷ ys) (y ∷ insert x ys))
      by true a f = a
      by false (inl e) f = inr (f (inl e))
      by false (inr (inl e)) f = inl e
      by false (inr (inr a)) f = inr (f (inr a))

  -- a number below n that passes is in, and no other
  pub sorted_has : (inside : ℕ → Bool) (n x : ℕ) → x < n → inside x ≡ true → Among x (sorted inside n)
  unfolding sorted
  sorted_has inside zero x l h = absurd (omega arith)
  sorted_has inside (suc n) x l h = by (inside n) refl (elim (cases_lt x n) [ inl k ↦ inr (sorted_has inside n x k h) | inr k ↦ inl (omega arith) ])
    where
      by : (b : Bool) → inside n ≡ b → (x ≡ n) ⊎ Among x (sorted inside n) → Among x (cond b (insert n (sorted inside n)) (sorted inside n))
      by true e a = insert_has n x (sorted inside n) a
      by false e (inl k) = absurd (both_ways _ e (sym (ap inside k) ∙ h))
      by false e (inr a) = a

  pub sorted_only : (inside : ℕ → Bool) (n x : ℕ) → Among x (sorted inside n) → (x < n) × (inside x ≡ true)
  unfolding sorted
  sorted_only inside zero x a = absurd a
  sorted_only inside (suc n) x a = by (inside n) refl a (λ h. let p = sorted_only inside n x h in (omega (arith, p.0), p.1))
    where
      by : (b : Bool) → inside n ≡ b → Among x (cond b (insert n (sorted inside n)) (sorted inside n)) → (Among x (sorted inside n) → (x < suc n) × (inside x ≡ true)) → (x < suc n) × (inside x ≡ true)
      by true e a old = elim (insert_only n x (sorted inside n) a) [ inl k ↦ (omega arith, ap inside k ∙ e) | inr h ↦ old h ]
      by false e a old = old a

  module _ (o : StrictOrder before) where
    not_itself : (x : ℕ) → before x x ≡ true → ⊥
    not_itself x h = both_ways _ (o.one_way x x h) h

    insert_rising : (x : ℕ) (xs : List ℕ) → Rising xs → (Among x xs → ⊥) → Rising (insert x xs)
    unfolding insert
    insert_rising x [] h new = (λ y a. absurd a, tt)
    insert_rising x (y ∷ ys) h new = by (before x y) refl (insert_rising x ys h.1 (λ a. new (inr a)))
      where
        after_y : before x y ≡ false → (w : ℕ) → (w ≡ x) ⊎ Among w ys → before y w ≡ true
        after_y e w (inl k) = subst (λ v. before y v ≡ true) (sym k) (o.some_way x y (λ j. new (inl j)) e)
        after_y e w (inr a) = h.0 w a

        after_x : before x y ≡ true → (w : ℕ) → Among w (y ∷ ys) → before x w ≡ true
        after_x e w (inl k) = subst (λ v. before x v ≡ true) (sym k) e
        after_x e w (inr a) = o.onward x y w e (h.0 w a)

        by : (b : Bool) → before x y ≡ b → Rising (insert x ys) → Rising (cond b (x ∷ y ∷ ys) (y ∷ insert x ys))
        by true e more = (after_x e, h)
        by false e more = (λ w a. after_y e w (insert_only x w ys a), more)

    pub sorted_rising : (inside : ℕ → Bool) (n : ℕ) → Rising (sorted inside n)
    unfolding sorted
    sorted_rising inside zero = tt
    sorted_rising inside (suc n) = by (inside n) (sorted_rising inside n)
      where
        by : (b : Bool) → Rising (sorted inside n) → Rising (cond b (insert n (sorted inside n)) (sorted inside n))
        by true h = insert_rising n (sorted inside n) h (λ a. let l : n < n = (sorted_only inside n n a).0 in omega arith)
        by false h = h

    -- none stands in it twice
    pub rising_distinct : (xs : List ℕ) → Rising xs → Distinct xs
    rising_distinct [] h i j x e f = absurd (some_is_not_none x (sym e))
    rising_distinct (y ∷ ys) h zero zero x e f = refl
    rising_distinct (y ∷ ys) h zero (suc j) x e f = let k : y ≡ x = cc in absurd (not_itself y (subst (λ v. before y v ≡ true) (sym k) (h.0 x (at_among x ys j f))))
    rising_distinct (y ∷ ys) h (suc i) zero x e f = let k : y ≡ x = cc in absurd (not_itself y (subst (λ v. before y v ≡ true) (sym k) (h.0 x (at_among x ys i e))))
    rising_distinct (y ∷ ys) h (suc i) (suc j) x e f = ap suc (rising_distinct ys h.1 i j x e f)

    -- who is before another stands ahead of it
    pub rising_ahead : (x y : ℕ) (xs : List ℕ) → Rising xs → Among x xs → Among y xs → before x y ≡ true → Ahead x y xs
    rising_ahead x y [] h a b l = absurd a
    rising_ahead x y (w ∷ ws) h (inl e) (inl f) l = absurd (not_itself x (subst (λ v. before x v ≡ true) (f ∙ sym e) l))
    rising_ahead x y (w ∷ ws) h (inl e) (inr b) l = let p = among_in y ws b in (0, suc p.0, omega arith, ap Some (sym e), p.1)
    rising_ahead x y (w ∷ ws) h (inr a) (inl f) l = absurd (both_ways _ (o.one_way x y l) (subst (λ v. before v x ≡ true) (sym f) (h.0 x a)))
    rising_ahead x y (w ∷ ws) h (inr a) (inr b) l = let p = rising_ahead x y ws h.1 a b l in (suc p.0, suc p.1, omega (arith, p.2), p.3, p.4)
