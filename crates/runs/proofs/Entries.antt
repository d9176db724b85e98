-- Lists by places, apart from runs: an element of a list that grows at its end, or in which one element changes; and what
-- hearing a message does to a log entry. Rests on the definitions alone.
use Rattle.std.proofs.Common.{◌≡◌, ℕ, zero, suc, true, false, List, [], ◌∷◌, ◌++◌, length, Some, sym, refl, ap, ◌∙◌, arith, slice_get}
use Rattle.std.proofs.lemmas.Bool.Decides.{nat_tests}
use Rattle.settings.specs.declared.choice.Choice.{Choice}
use Rattle.network.specs.declared.content.Content.{Content}
use Rattle.network.specs.declared.entry.Entry.{Entry}
use Rattle.network.specs.declared.station.Station.{Station}
use Rattle.network.specs.Changes.{log_heard}
use Rattle.network.specs.Hearing.{hear}
use Rattle.network.specs.Keeping.{under_way}
use Rattle.network.specs.Knowing.{Set}
use Rattle.network.specs.Logs.{changed_at}
use Rattle.runs.proofs.Accepted.{some_is_not_none}

module _ {A : Type 0} where
  -- one more at the end
  pub element_old : (xs ys : List A) (i : ℕ) (a : A) → slice_get xs i ≡ Some a → slice_get (xs ++ ys) i ≡ Some a
  element_old [] ys i a e = absurd (some_is_not_none a (sym e))
  element_old (x ∷ xs) ys zero a e = e
  element_old (x ∷ xs) ys (suc i) a e = element_old xs ys i a e

  pub element_new : (xs : List A) (a : A) → slice_get (xs ++ (a ∷ [])) (length xs) ≡ Some a
  element_new [] a = refl
  element_new (x ∷ xs) a = element_new xs a

  -- one element changed
  pub length_changed : (i : ℕ) (f : A → A) (xs : List A) → length (changed_at i f xs) ≡ length xs
  unfolding changed_at
  length_changed i f [] = refl
  length_changed zero f (x ∷ xs) = refl
  length_changed (suc i) f (x ∷ xs) = omega (arith, length_changed i f xs)

  pub changed_here : (i : ℕ) (f : A → A) (xs : List A) (a : A) → slice_get xs i ≡ Some a → slice_get (changed_at i f xs) i ≡ Some (f a)
  unfolding changed_at
  changed_here i f [] a e = absurd (some_is_not_none a (sym e))
  changed_here zero f (x ∷ xs) a e = let g : x ≡ a = cc in ap (λ y. Some (f y)) g
  changed_here (suc i) f (x ∷ xs) a e = changed_here i f xs a e

  pub changed_elsewhere : (i k : ℕ) (f : A → A) (xs : List A) → (k ≡ i → ⊥) → slice_get (changed_at i f xs) k ≡ slice_get xs k
  unfolding changed_at
  changed_elsewhere i k f [] ne = refl
  changed_elsewhere zero zero f (x ∷ xs) ne = absurd (ne refl)
  changed_elsewhere zero (suc k) f (x ∷ xs) ne = refl
  changed_elsewhere (suc i) zero f (x ∷ xs) ne = refl
  changed_elsewhere (suc i) (suc k) f (x ∷ xs) ne = changed_elsewhere i k f xs (λ e. ne (ap suc e))

module _ {R : Type 0} where
  -- what stays of an entry whatever happens
  pub record SameOperation (e f : Entry R) : Type 0 where
    pub station : f.station ≡ e.station
    pub kind : f.kind ≡ e.kind
    pub begin : f.begin ≡ e.begin

  pub same_itself : (e : Entry R) → SameOperation e e
  same_itself e = record { station = refl; kind = refl; begin = refl }

  pub same_twice : (e f g : Entry R) → SameOperation e f → SameOperation f g → SameOperation e g
  same_twice e f g a b = record { station = b.station ∙ a.station; kind = b.kind ∙ a.kind; begin = b.begin ∙ a.begin }

  pub heard_same : (clock : ℕ) (m : Content R Set) (x y : Station R Set) (e : Entry R) → SameOperation e (log_heard clock m x y e)
  unfolding log_heard
  heard_same clock m x y e = record { station = grind arith; kind = grind arith; begin = grind arith }

  -- the entry of one who is idle does not change
  pub idle_entry : (clock : ℕ) (m : Content R Set) (x y : Station R Set) (e : Entry R) → under_way x.operation ≡ false → log_heard clock m x y e ≡ e
  unfolding log_heard
  idle_entry clock m x y e h = grind arith

  -- an operation that is still under way has not ended
  pub open_stays : (c : Choice) (clock q : ℕ) (m : Content R Set) (x : Station R Set) (e : Entry R) → under_way (hear c q m x).operation ≡ true → (log_heard clock m x (hear c q m x) e).end ≡ e.end
  unfolding log_heard hear
  open_stays c clock q m x e h = grind (arith, nat_tests)

  -- hearing begins no operation
  pub heard_under_way : (c : Choice) (q : ℕ) (m : Content R Set) (x : Station R Set) → under_way (hear c q m x).operation ≡ true → under_way x.operation ≡ true
  unfolding hear
  heard_under_way c q m x h = grind (arith, nat_tests)
