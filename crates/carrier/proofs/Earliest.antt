-- The earliest tick sent, by what it is: it waits, and none that waits is earlier.
use Rattle.std.proofs.Common.{◌≡◌, ℕ, zero, suc, ◌^◌, ◌<◌, ◌≤◌, Some, None, Option, sym, refl, ap, ◌∙◌, ⊎_elim, arith}
use Rattle.std.proofs.lemmas.Bool.{cases_eq}
use Rattle.carrier.specs.Waits.{Waits}
use Rattle.carrier.specs.Counts.{earlier, least, when, earliest}
use Rattle.carrier.specs.declared.message.Held.{Held}

-- o has no value below t
abbrev pub Above : ℕ → Option ℕ → Type 0
Above t None = Unit {0}
Above t (Some u) = t ≤ u

-- the least of the values, by what it is
abbrev pub Least : (ℕ → Option ℕ) → ℕ → Option ℕ → Type 0
Least f n None = (k : ℕ) → k < n → f k ≡ None
Least f n (Some t) = ((k : ℕ) × (k < n) × (f k ≡ Some t)) × ((k : ℕ) → k < n → Above t (f k))

pub above_less : (t u : ℕ) (o : Option ℕ) → t ≤ u → Above u o → Above t o
above_less t u None h a = tt
above_less t u (Some v) h a = omega arith

least_none : (f : ℕ → Option ℕ) (n : ℕ) → ((k : ℕ) → k < n → f k ≡ None) → least f n ≡ None
unfolding least
least_none f zero h = refl
least_none f (suc n) h = let a = least_none f n (λ k l. h k (omega arith)) in let b = h n (omega arith) in rw (a, b)

-- nothing is below the least
above_least : (f : ℕ → Option ℕ) (n t : ℕ) → ((k : ℕ) → k < n → Above t (f k)) → Above t (least f n)
unfolding least
above_least f zero t h = tt
above_least f (suc n) t h = by (least f n) (f n) (above_least f n t (λ k l. h k (omega arith))) (h n (omega arith)) where
  by : (a b : Option ℕ) → Above t a → Above t b → Above t (earlier a b)
  by None b x y = y
  by (Some a) None x y = x
  by (Some a) (Some b) x y = omega arith

earlier_right : (t : ℕ) (a : Option ℕ) → Above t a → earlier a (Some t) ≡ Some t
earlier_right t None h = refl
earlier_right t (Some a) h = ap Some (omega arith)

pub earlier_left : (t : ℕ) (b : Option ℕ) → Above t b → earlier (Some t) b ≡ Some t
earlier_left t None h = refl
earlier_left t (Some b) h = ap Some (omega arith)

least_some : (f : ℕ → Option ℕ) (n t k : ℕ) → k < n → f k ≡ Some t → ((j : ℕ) → j < n → Above t (f j)) → least f n ≡ Some t
unfolding least
least_some f zero t k l e h = absurd (omega arith)
least_some f (suc n) t k l e h =
    ⊎_elim
    (λ same.
    ap (λ o. earlier (least f n) o) (ap f (sym same) ∙ e)
    ∙ earlier_right t (least f n) (above_least f n t (λ j m. h j (omega arith))))
    (λ ne.
    ap (λ o. earlier o (f n)) (least_some f n t k (omega arith) e (λ j m. h j (omega arith)))
    ∙ earlier_left t (f n) (h n (omega arith)))
    (cases_eq k n)

pub least_is : (f : ℕ → Option ℕ) (n : ℕ) (r : Option ℕ) → Least f n r → r ≡ least f n
least_is f n None h = sym (least_none f n h)
least_is f n (Some t) h = sym (least_some f n t h.0.0 h.0.1 h.0.2 h.1)

-- the earliest of what waits, by what it is
abbrev pub Earliest : {X : Type 0} → Waits (Held X) → Option ℕ → Type 0
Earliest w None = (n q : ℕ) → n < 2 ^ 32 → q < 256 → w n q ≡ None
Earliest w (Some t) =
    ((n : ℕ) × (q : ℕ) × (n < 2 ^ 32) × (q < 256) × (when (w n q) ≡ Some t))
    × ((n q : ℕ) → n < 2 ^ 32 → q < 256 → Above t (when (w n q)))

pub earliest_is : {X : Type 0} (w : Waits (Held X)) (r : Option ℕ) → Earliest w r → r ≡ earliest w
unfolding earliest
earliest_is w None h = sym (least_none _ (2 ^ 32) (λ n l. least_none _ 256 (λ q m. ap when (h n q l m))))
earliest_is w (Some t) h =
    let n = h.0.0 in
    let q = h.0.1 in
    let row = λ (m : ℕ). least (λ p. when (w m p)) 256 in
    sym (least_some row (2 ^ 32) t n h.0.2
    (least_some (λ p. when (w n p)) 256 t q h.0.3 h.0.4 (λ p l. h.1 n p h.0.2 l))
    (λ m l. above_least (λ p. when (w m p)) 256 t (λ p k. h.1 m p l k)))
