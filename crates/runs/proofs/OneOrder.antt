-- The single order, apart from runs: operations that are sorted by stamp, writes before reads, then by place, stand in an order
-- as one register would give it. Rests on `Sorting` and the order of stamps.
use Rattle.std.proofs.Common.{◌≡◌, ℕ, ◌<◌, Bool, true, false, not, ◌&&◌, ◌||◌, ltb, ◌⊎◌, List, [], ◌∷◌, ◌++◌, length, Some, None, Option, sym, refl, ap, ◌∙◌, subst, inl, inr, arith, slice_get}
use Rattle.std.specs.Option.{option_to_list}
use Rattle.std.proofs.lemmas.Bool.{both_ways}
use Rattle.std.proofs.lemmas.Bool.Decides.{nat_tests}
use Rattle.std.proofs.lemmas.Option.{slice_get_within}
use Rattle.network.specs.declared.entry.Entry.{Entry}
use Rattle.network.specs.declared.operation.Kind.{Kind}
use Rattle.network.specs.declared.operation.Kind.TheVariants.{Read, Write}
use Rattle.network.specs.declared.stamp.Stamp.{Stamp}
use Rattle.network.specs.Promises.{In, Ahead, Distinct, picked, AsOneRegister}
use Rattle.network.specs.Stamps.{higher, first_stamp}
use Rattle.runs.proofs.Stamps.{UpTo, up_to_itself, up_to_trans, higher_not_below, higher_than_up_to, higher_from, neither_higher, first_up_to}
use Rattle.runs.proofs.Mails.{Among}
use Rattle.runs.proofs.Sorting.{StrictOrder, Rising, sorted, sorted_has, sorted_only, sorted_rising, rising_distinct, rising_ahead, among_in, at_among}

abbrev pub is_writing : Kind → Bool
is_writing Read = false
is_writing Write = true

abbrev of_write : {R : Type 0} → Option (Entry R) → Bool
of_write None = false
of_write (Some e) = is_writing e.kind

-- of two kinds and two places: the write comes first, then the earlier place
unfoldable sooner : Bool → Bool → ℕ → ℕ → Bool
sooner v w x y = (v && not w) || (not (not v && w) && ltb x y)

sooner_one_way : (v w : Bool) (x y : ℕ) → sooner v w x y ≡ true → sooner w v y x ≡ false
unfolding sooner
sooner_one_way v w x y h = grind (arith, nat_tests)

sooner_onward : (v w u : Bool) (x y z : ℕ) → sooner v w x y ≡ true → sooner w u y z ≡ true → sooner v u x z ≡ true
unfolding sooner
sooner_onward v w u x y z h k = grind (arith, nat_tests)

sooner_some_way : (v w : Bool) (x y : ℕ) → (x ≡ y → ⊥) → sooner v w x y ≡ false → sooner w v y x ≡ true
unfolding sooner
sooner_some_way v w x y n h = grind (arith, nat_tests)

-- the lower stamp comes first, then by kind and place
unfoldable comes_first : Stamp → Stamp → Bool → Bool → ℕ → ℕ → Bool
comes_first s t v w x y = higher t s || (not (higher s t) && sooner v w x y)

first_one_way : (s t : Stamp) (v w : Bool) (x y : ℕ) → comes_first s t v w x y ≡ true → comes_first t s w v y x ≡ false
unfolding comes_first
first_one_way s t v w x y h = grind (arith, higher_not_below s t, higher_not_below t s, sooner_one_way v w x y)

first_onward : (s t r : Stamp) (v w u : Bool) (x y z : ℕ) → comes_first s t v w x y ≡ true → comes_first t r w u y z ≡ true → comes_first s r v u x z ≡ true
unfolding comes_first
first_onward s t r v w u x y z h k =
    grind (arith, higher_not_below r t, higher_than_up_to t s r, higher_from r t s, up_to_trans s t r, sooner_onward v w u x y z)

first_some_way : (s t : Stamp) (v w : Bool) (x y : ℕ) → (x ≡ y → ⊥) → comes_first s t v w x y ≡ false → comes_first t s w v y x ≡ true
unfolding comes_first
first_some_way s t v w x y n h = grind (arith, sooner_some_way v w x y n)

-- of an earlier place, and of no higher stamp, which is lower where the other writes
first_by : (s t : Stamp) (v w : Bool) (x y : ℕ) → x < y → UpTo s t → (w ≡ true → higher t s ≡ true) → comes_first s t v w x y ≡ true
unfolding comes_first sooner
first_by s t v true x y l u h = grind (arith, nat_tests, h refl)
first_by s t v false x y l u h = grind (arith, nat_tests)

-- what comes first has no higher stamp
first_not_above : (s t : Stamp) (v w : Bool) (x y : ℕ) → comes_first s t v w x y ≡ true → UpTo s t
unfolding comes_first
first_not_above s t v w x y h = grind (arith, higher_not_below t s)

-- a read does not come ahead of a write of its stamp
read_not_first : (s t : Stamp) (v w : Bool) (x y : ℕ) → comes_first s t v w x y ≡ true → t ≡ s → v ≡ false → w ≡ true → ⊥
unfolding comes_first sooner
read_not_first s t v w x y h e f g = grind (arith, up_to_itself s, up_to_itself t)

pub writing_kind : (k : Kind) → is_writing k ≡ true → k ≡ Write
writing_kind Read h = absurd (both_ways _ refl h)
writing_kind Write h = refl

-- one operation more on a register that holds r
one_more : {R : Type 0} (r : R) (e : Entry R) (es : List (Entry R)) → (e.kind ≡ Read → (e.value ≡ r) × AsOneRegister r es) → (e.kind ≡ Write → AsOneRegister e.value es)
    → AsOneRegister r (e ∷ es)
one_more r e es f g = by e.kind f g
  where
    by : (k : Kind) → (k ≡ Read → (e.value ≡ r) × AsOneRegister r es) → (k ≡ Write → AsOneRegister e.value es) → elim k as (λ k. Type 0) [ Read ↦ (e.value ≡ r) × AsOneRegister r es | Write ↦ AsOneRegister e.value es ]
    by Read f g = f refl
    by Write f g = g refl

module _ {R : Type 0} (first : R) (log : List (Entry R)) where
  -- r is the record under the stamp t: the first one, or that of a write in the order
  abbrev pub UnderStamp : (ℕ → Bool) → (ℕ → Stamp) → Stamp → R → Type 0
  UnderStamp inside stamp t r = ((t ≡ first_stamp) × (r ≡ first)) ⊎ ((y : ℕ) × (f : Entry R) × (inside y ≡ true) × (slice_get log y ≡ Some f) × (f.kind ≡ Write) × (stamp y ≡ t) × (r ≡ f.value))

  -- which places of the log are in the order, and the stamp of each
  pub record Stamped : Type 0 where
    pub inside : ℕ → Bool
    pub stamp : ℕ → Stamp
    pub there : (x : ℕ) → inside x ≡ true → (e : Entry R) × (slice_get log x ≡ Some e)
    -- two writes have different stamps, which are higher than the first
    pub writes_apart : (x y : ℕ) (e f : Entry R) → inside x ≡ true → inside y ≡ true → slice_get log x ≡ Some e → slice_get log y ≡ Some f → e.kind ≡ Write → f.kind ≡ Write → stamp x ≡ stamp y → x ≡ y
    pub write_higher : (x : ℕ) (e : Entry R) → inside x ≡ true → slice_get log x ≡ Some e → e.kind ≡ Write → higher (stamp x) first_stamp ≡ true
    -- a read gives the record under its stamp
    pub read_gives : (x : ℕ) (e : Entry R) → inside x ≡ true → slice_get log x ≡ Some e → e.kind ≡ Read → UnderStamp inside stamp (stamp x) e.value

  module _ (s : Stamped) where
    before : ℕ → ℕ → Bool
    before x y = comes_first (s.stamp x) (s.stamp y) (of_write (slice_get log x)) (of_write (slice_get log y)) x y

    strict : StrictOrder before
    unfolding before
    strict =
        record {
          one_way = λ x y h. first_one_way _ _ _ _ x y h;
          onward = λ x y w h k. first_onward _ (s.stamp y) _ _ (of_write (slice_get log y)) _ x y w h k;
          some_way = λ x y n h. first_some_way _ _ _ _ x y n h;
        }

    -- the places in their order
    pub order : List ℕ
    order = sorted before s.inside (length log)

    order_rising : Rising before order
    unfolding order
    order_rising = sorted_rising before strict s.inside (length log)

    order_among : (x : ℕ) → s.inside x ≡ true → Among x order
    unfolding order
    order_among x h = let p = s.there x h in sorted_has before s.inside (length log) x (slice_get_within log x p.0 p.1) h

    among_inside : (x : ℕ) → Among x order → s.inside x ≡ true
    unfolding order
    among_inside x a = (sorted_only before s.inside (length log) x a).1

    pub order_distinct : Distinct order
    order_distinct = rising_distinct before strict order order_rising

    pub order_has : (x : ℕ) → s.inside x ≡ true → In x order
    order_has x h = among_in x order (order_among x h)

    pub order_only : (x : ℕ) → In x order → s.inside x ≡ true
    order_only x h = among_inside x (at_among x order h.0 h.1)

    -- x, of an earlier place, stands ahead of y if its stamp is not higher, and lower where y writes
    pub order_ahead : (x y : ℕ) (f : Entry R) → In x order → In y order → x < y → slice_get log y ≡ Some f → UpTo (s.stamp x) (s.stamp y) → (f.kind ≡ Write → higher (s.stamp y) (s.stamp x) ≡ true) → Ahead x y order
    unfolding before
    order_ahead x y f a b l e u w =
        rising_ahead before strict x y order order_rising (at_among x order a.0 a.1) (at_among y order b.0 b.1)
        (first_by _ _ (of_write (slice_get log x)) _ x y l u (λ h. w (writing_kind f.kind (sym (ap of_write e) ∙ h))))

    abbrev Current : Stamp → R → Type 0
    Current t r = UnderStamp s.inside s.stamp t r

    -- an operation that reads does not write
    not_both : (x : ℕ) (e f : Entry R) → slice_get log x ≡ Some e → e.kind ≡ Read → slice_get log x ≡ Some f → f.kind ≡ Write → ⊥
    not_both x e f a k b w = both_ways _ (ap of_write a ∙ ap is_writing k) (ap of_write b ∙ ap is_writing w)

    -- a write whose stamp is the current one made the current record
    current_write : (t : Stamp) (r : R) (y : ℕ) (f : Entry R) → Current t r → s.inside y ≡ true → slice_get log y ≡ Some f → f.kind ≡ Write → s.stamp y ≡ t → f.value ≡ r
    current_write t r y f (inl c) i e k h = absurd (both_ways _ (up_to_itself first_stamp) (subst (λ v. higher v first_stamp ≡ true) (h ∙ c.0) (s.write_higher y f i e k)))
    current_write t r y f (inr (y', f', i', e', k', h', v)) i e k h =
        let p = s.writes_apart y y' f f' i i' e e' k k' (h ∙ sym h') in
        let q : Some f ≡ Some f' = sym e ∙ ap (slice_get log) p ∙ e' in
        let g : f ≡ f' = cc in
        ap (λ (d : Entry R). d.value) g ∙ sym v

    -- what is left of the order, to be done on a register that holds r under t: no stamp in it is below t, and no write ahead of it is above t
    record LeftOver (t : Stamp) (r : R) (xs : List ℕ) : Type 0 where
      current : Current t r
      rising : Rising before xs
      insides : (x : ℕ) → Among x xs → s.inside x ≡ true
      not_below : (x : ℕ) → Among x xs → UpTo t (s.stamp x)
      writes_done : (y : ℕ) (f : Entry R) → s.inside y ≡ true → slice_get log y ≡ Some f → f.kind ≡ Write → UpTo (s.stamp y) t ⊎ Among y xs

    read_agrees : (t : Stamp) (r : R) (x : ℕ) (xs : List ℕ) (e : Entry R) → LeftOver t r (x ∷ xs) → slice_get log x ≡ Some e → e.kind ≡ Read → e.value ≡ r
    unfolding before comes_first
    read_agrees t r x xs e h a k = by (s.read_gives x e (h.insides x (inl refl)) a k) h.current
      where
        lowest : s.stamp x ≡ first_stamp → t ≡ first_stamp
        lowest e = neither_higher t first_stamp (subst (UpTo t) e (h.not_below x (inl refl))) (first_up_to t)

        by : Current (s.stamp x) e.value → Current t r → e.value ≡ r
        by (inl (p, v)) (inl c) = v ∙ sym c.1
        by (inl (p, v)) (inr (y, f, i, b, w, q, c)) = absurd (both_ways _ (up_to_itself first_stamp) (subst (λ v. higher v first_stamp ≡ true) (q ∙ lowest p) (s.write_higher y f i b w)))
        by (inr (y, f, i, b, w, q, v)) c = v ∙ current_write t r y f c i b w (same_stamp (h.writes_done y f i b w))
          where
            same_stamp : UpTo (s.stamp y) t ⊎ Among y (x ∷ xs) → s.stamp y ≡ t
            same_stamp (inl u) = neither_higher (s.stamp y) t u (subst (UpTo t) (sym q) (h.not_below x (inl refl)))
            same_stamp (inr (inl l)) = absurd (not_both x e f a k (ap (slice_get log) (sym l) ∙ b) w)
            same_stamp (inr (inr l)) = absurd (read_not_first _ _ _ _ x y (h.rising.0 y l) q (ap of_write a ∙ ap is_writing k) (ap of_write b ∙ ap is_writing w))

    after_read : (t : Stamp) (r : R) (x : ℕ) (xs : List ℕ) (e : Entry R) → LeftOver t r (x ∷ xs) → slice_get log x ≡ Some e → e.kind ≡ Read → LeftOver t r xs
    after_read t r x xs e h a k =
        record {
          current = h.current;
          rising = h.rising.1;
          insides = λ y l. h.insides y (inr l);
          not_below = λ y l. h.not_below y (inr l);
          writes_done = λ y f i b w. by y f b w (h.writes_done y f i b w);
        }
      where
        by : (y : ℕ) (f : Entry R) → slice_get log y ≡ Some f → f.kind ≡ Write → UpTo (s.stamp y) t ⊎ Among y (x ∷ xs) → UpTo (s.stamp y) t ⊎ Among y xs
        by y f b w (inl u) = inl u
        by y f b w (inr (inl l)) = absurd (not_both x e f a k (ap (slice_get log) (sym l) ∙ b) w)
        by y f b w (inr (inr l)) = inr l

    after_write : (t : Stamp) (r : R) (x : ℕ) (xs : List ℕ) (e : Entry R) → LeftOver t r (x ∷ xs) → slice_get log x ≡ Some e → e.kind ≡ Write → LeftOver (s.stamp x) e.value xs
    unfolding before comes_first
    after_write t r x xs e h a k =
        record {
          current = inr (x, e, h.insides x (inl refl), a, k, refl, refl);
          rising = h.rising.1;
          insides = λ y l. h.insides y (inr l);
          not_below = λ y l. first_not_above _ _ _ _ x y (h.rising.0 y l);
          writes_done = λ y f i b w. by y (h.writes_done y f i b w);
        }
      where
        by : (y : ℕ) → UpTo (s.stamp y) t ⊎ Among y (x ∷ xs) → UpTo (s.stamp y) (s.stamp x) ⊎ Among y xs
        by y (inl u) = inl (up_to_trans _ _ _ u (h.not_below x (inl refl)))
        by y (inr (inl l)) = inl (subst (λ v. UpTo (s.stamp y) (s.stamp v)) l (up_to_itself _))
        by y (inr (inr l)) = inr l

    left_as_one : (t : Stamp) (r : R) (xs : List ℕ) → LeftOver t r xs → AsOneRegister r (picked log xs)
    left_as_one t r [] h = tt
    left_as_one t r (x ∷ xs) h =
        let (e, a) = s.there x (h.insides x (inl refl)) in
        subst (λ o. AsOneRegister r (option_to_list o ++ picked log xs)) (sym a)
        (one_more r e (picked log xs) (λ k. (read_agrees t r x xs e h a k, left_as_one t r xs (after_read t r x xs e h a k))) (λ k. left_as_one (s.stamp x) e.value xs (after_write t r x xs e h a k)))

    pub order_as_one : AsOneRegister first (picked log order)
    order_as_one = left_as_one first_stamp first order
        (record {
          current = inl (refl, refl);
          rising = order_rising;
          insides = among_inside;
          not_below = λ x a. first_up_to (s.stamp x);
          writes_done = λ y f i e k. inr (order_among y i);
        })
