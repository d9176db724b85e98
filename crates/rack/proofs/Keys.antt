-- From keys to numbers and stations.
use Rattle.std.proofs.Common.{◌≡◌, ℕ, ◌%◌, ◌<◌, ◌≤◌, Bool, true, cond, eqb, List, [], None, Option, sym, ap, ◌∙◌, ⊎_elim, arith}
use mathlib.Core.Path.{fun_ext}
use Rattle.std.proofs.lemmas.Bool.{lt-ltb, le-ltb, and_right, ne_eqb, cond-true, cond-false, cases_lt}
use Rattle.std.proofs.lemmas.Bool.Decides.{nat_tests}
use Rattle.carrier.specs.Waits.{at, same, nothing}
use Rattle.carrier.specs.declared.message.Held.{Held}
use Rattle.rack.specs.declared.entry.Entry.{Entry}
use Rattle.rack.specs.Entries.{key_of, held_under, waiting, changed, trimmed_held, sifted, rising}
use Rattle.rack.specs.declared.rack.Rack.{Rack}
use Rattle.rack.specs.Racks.{kept, stored}
use Rattle.rack.proofs.Sifting.{sifted_held}

same_key : (n p m q : ℕ) → p < 256 → q < 256 → eqb (key_of n p) (key_of m q) ≡ same n p m q
same_key n p m q h l = grind (arith, nat_tests)

module _ {X : Type 0} where
  pub waiting_at : (es : List (Entry X)) (n q : ℕ) → q < 256 → waiting es n q ≡ held_under es (key_of n q)
  unfolding waiting
  waiting_at es n q l = cond-true _ _ _ (lt-ltb q 256 l)

  pub waiting_past : (es : List (Entry X)) (n q : ℕ) → 256 ≤ q → waiting es n q ≡ None
  unfolding waiting
  waiting_past es n q l = cond-false _ _ _ (le-ltb q 256 l)

  -- one key changed is one copy changed
  pub waiting_changed : (es ds : List (Entry X)) (n q : ℕ) (o : Option (Held X)) → q < 256
      → ((j : ℕ) → held_under ds j ≡ cond (eqb j (key_of n q)) o (held_under es j)) → waiting ds ≡ at n q o (waiting es)
  unfolding at
  waiting_changed es ds n q o l h = fun_ext (λ m. fun_ext (λ p. ⊎_elim
      (λ k.
      waiting_at ds m p k ∙ h (key_of m p) ∙ ap (λ (t : Bool). cond t o (held_under es (key_of m p))) (same_key m p n q k l)
      ∙ ap (λ r. cond (same m p n q) o r) (sym (waiting_at es m p k)))
      (λ k.
      waiting_past ds m p k
      ∙ sym (cond-false (same m p n q) o (waiting es m p) (and_right _ _ (ne_eqb p q (λ e. omega (arith, e, k, l)))) ∙ waiting_past es m p k))
      (cases_lt p 256)))

  -- what waits after a rule went over it
  pub waiting_sifted : (f : ℕ → X → Option X) (es : List (Entry X)) → rising 0 es ≡ true → waiting (sifted f es) ≡ (λ n q. trimmed_held f q (waiting es n q))
  waiting_sifted f es r = fun_ext (λ n. fun_ext (λ q. ⊎_elim
      (λ k.
      let low : key_of n q % 256 ≡ q = omega arith in
      waiting_at (sifted f es) n q k ∙ sifted_held f 0 (key_of n q) es r ∙ ap (λ (p : ℕ). trimmed_held f p (held_under es (key_of n q))) low
      ∙ ap (trimmed_held f q) (sym (waiting_at es n q k)))
      (λ k. waiting_past (sifted f es) n q k ∙ ap (trimmed_held f q) (sym (waiting_past es n q k)))
      (cases_lt q 256)))

  nowhere : (n q : ℕ) → waiting {X = X} [] n q ≡ None
  unfolding waiting
  nowhere n q = ⊎_elim (λ k. cond-true _ _ _ (lt-ltb q 256 k)) (λ k. cond-false _ _ _ (le-ltb q 256 k)) (cases_lt q 256)

  pub waiting_none : waiting {X = X} [] ≡ nothing
  waiting_none = fun_ext (λ n. fun_ext (nowhere n))

-- what a rack holds is held under its key
pub stored_under : {X : Type 0} (r : Rack X) (n q : ℕ) → q < 256 → stored r n q ≡ held_under (kept r) (key_of n q)
unfolding stored
stored_under r n q l = waiting_at (kept r) n q l

-- one copy changed under its key
pub changed_at : {X : Type 0} (r : Rack X) (es : List (Entry X)) (k n q : ℕ) (c : Option X) → q < 256 → k ≡ key_of n q
    → ((j : ℕ) → held_under es j ≡ cond (eqb j k) (changed c (held_under (kept r) k)) (held_under (kept r) j))
    → waiting es ≡ at n q (changed c (stored r n q)) (stored r)
unfolding stored
changed_at r es k n q c l e h =
    waiting_changed (kept r) es n q _ l (λ j.
    h j
    ∙ ap (λ (m : ℕ). cond (eqb j m) (changed c (held_under (kept r) m)) (held_under (kept r) j)) e
    ∙ ap (λ o. cond (eqb j (key_of n q)) (changed c o) (held_under (kept r) j)) (sym (stored_under r n q l)))
