-- The live records with what a rule leaves of each, and the loop that keeps them in place.
use Rattle.std.proofs.Common.{◌≡◌, ℕ, ◌+◌, ◌%◌, ◌<◌, ◌≤◌, Bool, true, false, cond, eqb, List, [], ◌∷◌, ◌++◌, length, get_or, take, drop, set, Some, None, Option, sym, refl, ap, ◌∙◌, ⊎_elim, arith}
use Rattle.std.specs.List.{prefix_len}
use Rattle.std.proofs.lemmas.List.{length-set, take_more, take_more_set, drop-set-lt, drop_more, append-nil}
use Rattle.std.proofs.lemmas.Bool.{and_from, and_right, le-leb, eq-eqb, ne_eqb, cond-true, cond-false, cases_Bool, cases_eq}
use Rattle.carrier.specs.declared.message.Held.{Held}
use Rattle.rack.specs.declared.entry.Entry.{Entry}
use Rattle.rack.specs.Entries.{held_under, rising, lives, steady, dead, keyed, left_of, trimmed_held, onto, sifted, entry_left, rest_of}
use Rattle.rack.proofs.Order.{rising_parts, rising_less, held_other, held_below}
use Rattle.rack.proofs.Changes.{steady_parts, steady_less}

pub lives_le : {X : Type 0} (es : List (Entry X)) → lives es ≤ length es
lives_le [] = omega arith
lives_le (e ∷ es) = omega (arith, lives_le es, bit_le e.live) where
  bit_le : (t : Bool) → cond {A = ℕ} t 1 0 ≤ 1
  bit_le true = omega arith
  bit_le false = omega arith

module _ {X : Type 0} (f : ℕ → X → Option X) where
  -- the record in front, where it is live
  front : (e : Entry X) (es : List (Entry X)) → e.live ≡ true → sifted f (e ∷ es) ≡ onto e (f (e.key % 256) e.held.content) (sifted f es)
  front e es t = cond-true _ _ _ t

  behind : (e : Entry X) (es : List (Entry X)) → e.live ≡ false → sifted f (e ∷ es) ≡ sifted f es
  behind e es t = cond-false _ _ _ t

  onto_append : (e : Entry X) (o : Option X) (xs ys : List (Entry X)) → onto e o (xs ++ ys) ≡ onto e o xs ++ ys
  onto_append e None xs ys = refl
  onto_append e (Some v) xs ys = refl

  pub sifted_append : (xs ys : List (Entry X)) → sifted f (xs ++ ys) ≡ sifted f xs ++ sifted f ys
  sifted_append [] ys = refl
  sifted_append (e ∷ xs) ys =
      ⊎_elim
      (λ t. front e (xs ++ ys) t ∙ ap (onto e _) (sifted_append xs ys) ∙ onto_append e _ (sifted f xs) (sifted f ys) ∙ ap (λ l. l ++ sifted f ys) (sym (front e xs t)))
      (λ t. behind e (xs ++ ys) t ∙ sifted_append xs ys ∙ ap (λ l. l ++ sifted f ys) (sym (behind e xs t)))
      (cases_Bool e.live)

  onto_rising : (b : ℕ) (e : Entry X) (o : Option X) (es : List (Entry X)) → b ≤ e.key → rising (e.key + 1) es ≡ true → rising b (onto e o es) ≡ true
  onto_rising b e None es h r = rising_less b (e.key + 1) es (omega arith) r
  onto_rising b e (Some v) es h r = and_from _ _ (le-leb b e.key h) r

  pub sifted_rising : (b : ℕ) (es : List (Entry X)) → rising b es ≡ true → rising b (sifted f es) ≡ true
  sifted_rising b [] r = r
  sifted_rising b (e ∷ es) r =
      let p = rising_parts b e es r in
      let rest = sifted_rising (e.key + 1) es p.1 in
      ⊎_elim
      (λ t. ap (rising b) (front e es t) ∙ onto_rising b e _ (sifted f es) p.0 rest)
      (λ t. ap (rising b) (behind e es t) ∙ rising_less b (e.key + 1) (sifted f es) (omega (arith, p.0)) rest)
      (cases_Bool e.live)

  onto_steady : (b : ℕ) (e : Entry X) (o : Option X) (es : List (Entry X)) → b ≤ e.held.sent → steady e.held.sent es ≡ true → steady b (onto e o es) ≡ true
  onto_steady b e None es h r = steady_less b e.held.sent es h r
  onto_steady b e (Some v) es h r = and_from _ _ (le-leb b e.held.sent h) r

  pub sifted_steady : (b : ℕ) (es : List (Entry X)) → steady b es ≡ true → steady b (sifted f es) ≡ true
  sifted_steady b [] s = refl
  sifted_steady b (e ∷ es) s =
      let p = steady_parts b e es s in
      let rest = sifted_steady e.held.sent es p.1 in
      ⊎_elim
      (λ t. ap (steady b) (front e es t) ∙ onto_steady b e _ (sifted f es) p.0 rest)
      (λ t. ap (steady b) (behind e es t) ∙ steady_less b e.held.sent (sifted f es) p.0 rest)
      (cases_Bool e.live)

  onto_lives : (e : Entry X) (o : Option X) (es : List (Entry X)) → lives es ≡ length es → lives (onto e o es) ≡ length (onto e o es)
  onto_lives e None es h = h
  onto_lives e (Some v) es h = omega arith

  -- every record that is left is live
  pub sifted_lives : (es : List (Entry X)) → lives (sifted f es) ≡ length (sifted f es)
  sifted_lives [] = refl
  sifted_lives (e ∷ es) =
      let rest = sifted_lives es in
      ⊎_elim
      (λ t. ap lives (front e es t) ∙ onto_lives e _ (sifted f es) rest ∙ ap length (sym (front e es t)))
      (λ t. ap lives (behind e es t) ∙ rest ∙ ap length (sym (behind e es t)))
      (cases_Bool e.live)

  onto_found : (k : ℕ) (e : Entry X) (o : Option X) (es : List (Entry X)) → k ≡ e.key → held_under es k ≡ None → held_under (onto e o es) k ≡ left_of e.held o
  onto_found k e None es q n = n
  onto_found k e (Some v) es q n = cond-true _ _ _ (eq-eqb k e.key q)

  onto_other : (k : ℕ) (e : Entry X) (o : Option X) (es : List (Entry X)) → (k ≡ e.key → ⊥) → held_under (onto e o es) k ≡ held_under es k
  onto_other k e None es q = refl
  onto_other k e (Some v) es q = cond-false _ _ _ (ne_eqb k e.key q)

  -- what is held is what the rule leaves of it
  pub sifted_held : (b k : ℕ) (es : List (Entry X)) → rising b es ≡ true → held_under (sifted f es) k ≡ trimmed_held f (k % 256) (held_under es k)
  sifted_held b k [] r = refl
  sifted_held b k (e ∷ es) r =
      let p = rising_parts b e es r in
      let c = e.key + 1 in
      let rest = sifted_held c k es p.1 in
      ⊎_elim
      (λ t.
      ⊎_elim
      (λ q.
      ap (λ l. held_under l k) (front e es t)
      ∙ onto_found k e _ (sifted f es) q (held_below c k (sifted f es) (sifted_rising c es p.1) (omega arith))
      ∙ ap (λ (j : ℕ). left_of e.held (f (j % 256) e.held.content)) (sym q)
      ∙ ap (trimmed_held f (k % 256)) (sym (here t q)))
      (λ q.
      ap (λ l. held_under l k) (front e es t) ∙ onto_other k e _ (sifted f es) q ∙ rest
      ∙ ap (trimmed_held f (k % 256)) (sym (held_other k e (held_under es k) q)))
      (cases_eq k e.key))
      (λ t.
      ap (λ l. held_under l k) (behind e es t) ∙ rest
      ∙ ap (trimmed_held f (k % 256)) (sym (off t)))
      (cases_Bool e.live) where
        here : e.live ≡ true → k ≡ e.key → held_under (e ∷ es) k ≡ Some e.held
        here t q = rw (t, eq-eqb k e.key q)

        off : e.live ≡ false → held_under (e ∷ es) k ≡ held_under es k
        off t = rw t

  onto_first : (e : Entry X) (o : Option X) (es : List (Entry X)) → prefix_len dead es ≡ 0 → prefix_len dead (onto e o es) ≡ 0
  onto_first e None es h = h
  onto_first e (Some v) es h = refl

  pub sifted_first : (es : List (Entry X)) → prefix_len dead (sifted f es) ≡ 0
  sifted_first [] = refl
  sifted_first (e ∷ es) =
      ⊎_elim
      (λ t. ap (prefix_len dead) (front e es t) ∙ onto_first e _ (sifted f es) (sifted_first es))
      (λ t. ap (prefix_len dead) (behind e es t) ∙ sifted_first es)
      (cases_Bool e.live)

  -- the rule leaves nothing of a record, or another one
  pub sifted_drops : (e : Entry X) → rest_of f e ≡ None → sifted f (e ∷ []) ≡ []
  sifted_drops e n = ⊎_elim (λ t. front e [] t ∙ by (f (e.key % 256) e.held.content) (sym (cond-true _ _ _ t) ∙ n)) (behind e []) (cases_Bool e.live) where
    by : (o : Option X) → entry_left e o ≡ None → onto e o [] ≡ []
    by None h = refl
    by (Some v) h = cc

  pub sifted_keeps : (e z : Entry X) → rest_of f e ≡ Some z → sifted f (e ∷ []) ≡ z ∷ []
  sifted_keeps e z n =
      ⊎_elim
      (λ t. front e [] t ∙ by (f (e.key % 256) e.held.content) (sym (cond-true _ _ _ t) ∙ n))
      (λ t. absurd (never (sym (cond-false _ _ _ t) ∙ n)))
      (cases_Bool e.live) where
        by : (o : Option X) → entry_left e o ≡ Some z → onto e o [] ≡ z ∷ []
        by None h = cc
        by (Some v) h = cc

        never : ◌≡◌ {A = Option (Entry X)} None (Some z) → ⊥
        never h = let w : ◌≡◌ {A = ℕ} 0 1 = cc in omega arith

  -- from the records xs, the first k of ys are what is left of the first i, and from i on nothing has changed
  pub record Sifting (xs ys : List (Entry X)) (k i : ℕ) : Type 0 where
    pub done : take k ys ≡ sifted f (take i xs)
    pub rest : drop i ys ≡ drop i xs
    pub behind_i : k ≤ i
    pub long : length ys ≡ length xs

  module _ (xs ys : List (Entry X)) (k i : ℕ) (s : Sifting xs ys k i) (x : Entry X) (l : i < length xs) (g : x ≡ get_or ys i x) where
    split_xs : drop i xs ≡ get_or xs i x ∷ drop (i + 1) xs
    split_xs = drop_more xs i x l

    split_ys : drop i ys ≡ x ∷ drop (i + 1) ys
    split_ys = drop_more ys i x (omega (arith, s.long)) ∙ ap (λ z. z ∷ drop (i + 1) ys) (sym g)

    read : x ≡ get_or xs i x
    read = let a = split_xs in let b = split_ys in let c = s.rest in cc

    after : drop (i + 1) ys ≡ drop (i + 1) xs
    after = let a = split_xs in let b = split_ys in let c = s.rest in cc

    more : sifted f (take (i + 1) xs) ≡ sifted f (take i xs) ++ sifted f (x ∷ [])
    more = ap (sifted f) (take_more xs i x l) ∙ sifted_append (take i xs) _ ∙ ap (λ z. sifted f (take i xs) ++ sifted f (z ∷ [])) (sym read)

    pub sifting_drops : sifted f (x ∷ []) ≡ [] → Sifting xs ys k (i + 1)
    sifting_drops e = record {
      done = s.done ∙ sym (append-nil _) ∙ ap (λ z. sifted f (take i xs) ++ z) (sym e) ∙ sym more;
      rest = after;
      behind_i = omega (arith, s.behind_i);
      long = s.long;
    }

    pub sifting_keeps : (z : Entry X) → sifted f (x ∷ []) ≡ z ∷ [] → Sifting xs (set ys k z) (k + 1) (i + 1)
    sifting_keeps z e = record {
      done = take_more_set ys k z (omega (arith, s.behind_i, s.long)) ∙ ap (λ w. w ++ z ∷ []) s.done ∙ ap (λ w. sifted f (take i xs) ++ w) (sym e) ∙ sym more;
      rest = drop-set-lt (i + 1) ys k z (omega (arith, s.behind_i)) ∙ after;
      behind_i = omega (arith, s.behind_i);
      long = length-set ys k z ∙ s.long;
    }

-- a rule that leaves everything as it is
pub trimmed_all : {X : Type 0} (q : ℕ) (o : Option (Held X)) → trimmed_held (λ p v. Some v) q o ≡ o
trimmed_all q None = refl
trimmed_all q (Some h) = refl

-- squeezing makes no record live
pub squeezed_le : {X : Type 0} (es : List (Entry X)) → lives (sifted (λ p v. Some v) es) ≤ lives es
squeezed_le [] = omega arith
squeezed_le (e ∷ es) =
    let rest = squeezed_le es in
    ⊎_elim (λ t. rw t (omega (arith, rest))) (λ t. rw t (omega (arith, rest))) (cases_Bool e.live)

-- where every record is live, one that has a key holds something under it
pub keyed_lives : {X : Type 0} (k : ℕ) (es : List (Entry X)) → lives es ≡ length es → held_under es k ≡ None → keyed k es ≡ false
keyed_lives k [] l n = refl
keyed_lives k (e ∷ es) l n =
    ⊎_elim
    (λ t.
    ⊎_elim
    (λ q. absurd (never e.held (sym (cond-true _ _ _ (and_from _ _ t q)) ∙ n)))
    (λ q. rw q (keyed_lives k es (omega (arith, rw t at l)) (sym (cond-false _ _ _ (and_right e.live _ q)) ∙ n)))
    (cases_Bool (eqb k e.key)))
    (λ t. absurd (omega (arith, rw t at l, lives_le es)))
    (cases_Bool e.live) where
      never : {X : Type 0} (h : Held X) → ◌≡◌ {A = Option (Held X)} (Some h) None → ⊥
      never h e = let w : ◌≡◌ {A = ℕ} 0 1 = cc in omega arith
