-- A message posted copy by copy, in the order of the stations.
use Rattle.std.proofs.Common.{◌≡◌, ℕ, ◌+◌, ◌<◌, ◌≤◌, Bool, true, false, cond, ◌&&◌, eqb, ltb, is_some, Some, Option, sym, refl, ap, ◌∙◌, ⊎_elim, arith}
use mathlib.Core.Path.{fun_ext}
use Rattle.std.proofs.lemmas.Bool.{and_parts, and_from, and_left, and_right, lt-ltb, le-ltb, cond-false, eq-eqb, ne_eqb, cases_eq, cases_lt}
use Rattle.std.proofs.lemmas.Bool.Decides.{nat_tests}
use Rattle.stations.specs.Members.{how_many}
use Rattle.stations.proofs.Counting.{how_many_mono, how_many_more}
use Rattle.carrier.specs.Waits.{Waits, at, sent_to}
use Rattle.carrier.specs.Counts.{under, copies, by_copy}
use Rattle.carrier.proofs.Copies.{none_under, sent_none}
use Rattle.carrier.proofs.Rooms.{copy_cost, load_sent}

-- the stations that pass, of those below q
abbrev pub upto : (ℕ → Bool) → ℕ → ℕ → Bool
upto f q p = ltb p q && f p

upto_here : (f : ℕ → Bool) (q p : ℕ) → f q ≡ false → upto f (q + 1) p ≡ upto f q p
upto_here f q p no' =
    ⊎_elim
    (λ (e : p ≡ q). and_right _ _ (ap f e ∙ no') ∙ sym (and_right _ _ (ap f e ∙ no')))
    (λ ne. let t : ltb p (q + 1) ≡ ltb p q = grind (arith, nat_tests) in ap (λ (z : Bool). z && f p) t)
    (cases_eq p q)

module _ {X : Type 0} (f : ℕ → Bool) (n : ℕ) (x : X) (w : Waits X) where
  -- so far copies wait for the stations below q
  abbrev pub part : ℕ → Waits X
  part q = sent_to (upto f q) n x w

  pub part_none : part 0 ≡ w
  part_none = sent_none (upto f 0) n x w (λ q. and_left _ _ (le-ltb q 0 (omega arith)))

  pub part_skip : (q : ℕ) → f q ≡ false → part (q + 1) ≡ part q
  part_skip q no' = ap (λ g. sent_to g n x w) (fun_ext (λ p. upto_here f q p no'))

  one_more : (m p q : ℕ) (b : Bool) (o : Option X) → f q ≡ true → (p ≡ q → b ≡ true)
      → cond (eqb m n && (ltb p (q + 1) && b)) (Some x) o ≡ cond (eqb m n && eqb p q) (Some x) (cond (eqb m n && (ltb p q && b)) (Some x) o)
  one_more m p q b o yes' same =
      ⊎_elim
      (λ e.
      let t : ltb p (q + 1) ≡ true = grind (arith, nat_tests) in
      let k : eqb p q ≡ true = eq-eqb p q e in
      let l : ltb p q ≡ false = le-ltb p q (omega arith) in
      let y = same e in
      rw (t, k, l, y) (by (eqb m n)))
      (λ ne.
      let t : ltb p (q + 1) ≡ ltb p q = grind (arith, nat_tests) in
      let k : eqb p q ≡ false = ne_eqb p q ne in
      rw (t, k) (by' (eqb m n) (ltb p q && b)))
      (cases_eq p q) where
        by : (c : Bool) → cond (c && (true && true)) (Some x) o ≡ cond (c && true) (Some x) (cond (c && (false && true)) (Some x) o)
        by true = refl
        by false = refl

        by' : (c d : Bool) → cond (c && d) (Some x) o ≡ cond (c && false) (Some x) (cond (c && d) (Some x) o)
        by' true d = refl
        by' false d = refl

  pub part_more : (q : ℕ) → f q ≡ true → part (q + 1) ≡ at n q (Some x) (part q)
  unfolding at sent_to
  part_more q yes' = fun_ext (λ m. fun_ext (λ p. one_more m p q (f p) (w m p) yes' (λ e. ap f e ∙ yes')))

  pub part_all : ((q : ℕ) → 256 ≤ q → f q ≡ false) → part 256 ≡ sent_to f n x w
  part_all past = ap (λ g. sent_to g n x w) (fun_ext (λ p. ⊎_elim
      (λ l. ap (λ (z : Bool). z && f p) (lt-ltb p 256 l))
      (λ l. and_right _ _ (past p l) ∙ sym (past p l))
      (cases_lt p 256)))

  -- the next copy does not wait yet
  pub part_gone : (q : ℕ) → q < 256 → under w n ≡ 0 → is_some (part q n q) ≡ false
  unfolding sent_to
  part_gone q l z =
      ap is_some (cond-false (eqb n n && upto f q q) (Some x) (w n q) (and_right _ _ (and_left _ _ (le-ltb q q (omega arith)))) ∙ none_under w n q z l)

  -- and there is room for it
  pub part_room : (q k : ℕ) → q < 256 → f q ≡ true → copies w + how_many f 256 ≤ k → copies (part q) < k
  part_room q k l yes' h =
      let so_far = load_sent by_copy copy_cost (upto f q) n x w in
      let next = how_many_more (upto f (q + 1)) (upto f q) 256 q l
      (and_from _ _ (lt-ltb q (q + 1) (omega arith)) yes') (and_left _ _ (le-ltb q q (omega arith)))
      (λ j ne. let t : ltb j (q + 1) ≡ ltb j q = grind (arith, nat_tests) in ap (λ (z : Bool). z && f j) t) in
      let all = how_many_mono (upto f (q + 1)) f 256 (λ i m t. (and_parts (ltb i (q + 1)) (f i) t).1) in
      omega (arith, so_far, next, all, h)
