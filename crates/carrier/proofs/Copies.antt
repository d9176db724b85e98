-- What a change of the waiting copies does to their counts.
use Rattle.std.proofs.Common.{◌≡◌, ℕ, zero, suc, ◌+◌, ◌<◌, ◌≤◌, Bool, true, false, cond, ◌&&◌, ◌||◌, eqb, is_some, Some, None, Option, sym, refl, ap, ◌∙◌, ⊎_elim, arith}
use mathlib.Core.Path.{fun_ext}
use Rattle.std.proofs.lemmas.Bool.{and_left, and_right, and_parts, eqb-true, ne_eqb, cond-true, cond-false, cases_Bool, cases_lt}
use Rattle.stations.specs.Members.{member, how_many}
use Rattle.stations.proofs.Counting.{how_many_mono, how_many_none, how_many_zero, how_many_same}
use Rattle.stations.proofs.Words.{member_past}
use Rattle.carrier.specs.Waits.{Waits, Within, nothing, same, at, sent_to, posted}
use Rattle.carrier.specs.Counts.{under, receivers}
use Rattle.carrier.specs.declared.message.Held.{Held}
use Rattle.carrier.specs.declared.message.Post.{Post}

pub none_of : {X : Type 0} (o : Option X) → is_some o ≡ false → o ≡ None
none_of None e = refl
none_of (Some x) e = cc

some_kept : {X : Type 0} (o r : Option X) → ((x : X) → o ≡ Some x → r ≡ Some x) → is_some o ≡ true → is_some r ≡ true
some_kept None r h e = cc
some_kept (Some x) r h e = ap is_some (h x refl)

module _ {X : Type 0} (v w : Waits X) (within : Within v w) where
  pub under_le : (n : ℕ) → under v n ≤ under w n
  unfolding under
  under_le n = how_many_mono _ _ 256 (λ q l. some_kept (v n q) (w n q) (within n q))

pub under_nothing : (X : Type 0) (n : ℕ) → under (nothing {X = X}) n ≡ 0
unfolding under
under_nothing X n = how_many_none _ 256 (λ q l. refl)

-- where no copy is counted under a number, none waits
pub none_under : {X : Type 0} (w : Waits X) (n q : ℕ) → under w n ≡ 0 → q < 256 → w n q ≡ None
unfolding under
none_under w n q z l = none_of (w n q) (how_many_zero (λ p. is_some (w n p)) 256 q z l)

pub under_same : {X Y : Type 0} (v : Waits X) (w : Waits Y) (n : ℕ) → ((q : ℕ) → q < 256 → is_some (v n q) ≡ is_some (w n q)) → under v n ≡ under w n
unfolding under
under_same v w n h = how_many_same _ _ 256 h

either_one : (a b : Bool) → cond {A = ℕ} (a || b) 1 0 ≤ cond {A = ℕ} a 1 0 + cond {A = ℕ} b 1 0
either_one true b = omega arith
either_one false b = omega arith

both_count : (f g : ℕ → Bool) (n : ℕ) → how_many (λ q. f q || g q) n ≤ how_many f n + how_many g n
unfolding how_many
both_count f g zero = omega arith
both_count f g (suc n) = omega (arith, both_count f g n, either_one (f n) (g n))

module _ {X : Type 0} (f : ℕ → Bool) (n : ℕ) (x : X) (w : Waits X) where
  pub sent_off : (m q : ℕ) → (m ≡ n → ⊥) → sent_to f n x w m q ≡ w m q
  unfolding sent_to
  sent_off m q ne = cond-false _ _ _ (and_left _ _ (ne_eqb m n ne))

  sent_one : (a b : Bool) (o : Option X) → is_some (cond (a && b) (Some x) o) ≡ true → (is_some o || b) ≡ true
  sent_one true true None e = refl
  sent_one true true (Some y) e = refl
  sent_one true false None e = e
  sent_one true false (Some y) e = refl
  sent_one false b None e = cc
  sent_one false b (Some y) e = refl

  -- at most one copy more for each station that passes
  pub under_rise : under (sent_to f n x w) n ≤ under w n + how_many f 256
  unfolding under sent_to
  under_rise =
      let all = how_many_mono (λ q. is_some (sent_to f n x w n q)) (λ q. is_some (w n q) || f q) 256 (λ q l. sent_one (eqb n n) (f q) (w n q)) in
      omega (arith, all, both_count (λ q. is_some (w n q)) f 256)

  pub under_off : (m : ℕ) → (m ≡ n → ⊥) → under (sent_to f n x w) m ≡ under w m
  under_off m ne = under_same (sent_to f n x w) w m (λ q l. ap is_some (sent_off m q ne))

  -- where no station passes, nothing is added
  pub sent_none : ((q : ℕ) → f q ≡ false) → sent_to f n x w ≡ w
  unfolding sent_to
  sent_none h = fun_ext (λ m. fun_ext (λ q. cond-false _ _ _ (and_right (eqb m n) (f q) (h q))))

pub nobody_in : {X : Type 0} (p : Post X) → receivers p ≡ 0 → (q : ℕ) → member p.to q ≡ false
unfolding receivers
nobody_in p z q = ⊎_elim (λ l. how_many_zero (member p.to) 256 q z l) (λ l. member_past p.to q l) (cases_lt q 256)

-- a message without a receiver adds nothing
pub posted_none : {X : Type 0} (p : Post X) (w : Waits (Held X)) → receivers p ≡ 0 → posted p w ≡ w
posted_none p w z = sent_none (member p.to) p.number p.held w (nobody_in p z)

-- a copy put in its own place
pub at_same : {X : Type 0} (w : Waits X) (n q : ℕ) (o : Option X) → w n q ≡ o → w ≡ at n q o w
unfolding at
at_same w n q o e = fun_ext (λ m. fun_ext (λ p. ⊎_elim
    (λ t.
    let h = and_parts (eqb m n) (eqb p q) t in
    ap (λ (y : ℕ). w y p) (eqb-true m n h.0) ∙ ap (w n) (eqb-true p q h.1) ∙ e ∙ sym (cond-true _ _ _ t))
    (λ f. sym (cond-false _ _ _ f))
    (cases_Bool (same m p n q))))
