-- Whether a copy is held under a number, for any station, and how many copies a rack holds at most.
use Rattle.std.proofs.Common.{◌≡◌, ℕ, ◌+◌, ◌-◌, ◌^◌, ◌<◌, ◌≤◌, Bool, true, false, cond, not, ◌&&◌, ◌||◌, eqb, ltb, List, [], ◌∷◌, drop, is_some, Some, None, sym, refl, ap, ◌∙◌, ⊎_elim, one-add, arith}
use Rattle.std.specs.List.{prefix_len, list_any, take_while}
use Rattle.std.proofs.lemmas.List.{length-take-le}
use Rattle.std.proofs.lemmas.Bool.{and_parts, and_from, or_parts, ltb-true, ltb-false, eq-eqb, ne_eqb, not_from_true, not_from_false, cond-true, cases_Bool}
use Rattle.stations.specs.Members.{how_many}
use Rattle.stations.proofs.Counting.{how_many_none, how_many_some}
use Rattle.carrier.specs.Counts.{copies, under}
use Rattle.rack.specs.declared.entry.Entry.{Entry}
use Rattle.rack.specs.declared.rack.Rack.{Rack}
use Rattle.rack.specs.Entries.{key_of, held_under, waiting, rising, before, busy, live}
use Rattle.rack.specs.Racks.{kept, stored, capacity}
use Rattle.rack.proofs.Order.{rising_parts, rising_at, held_other, held_below}
use Rattle.rack.proofs.Keys.{waiting_at}
use Rattle.rack.proofs.Counts.{copies_lives}
use Rattle.rack.proofs.Sifting.{lives_le}

module _ {X : Type 0} where
  -- what is held under a key from b on stands after the records before b
  held_skip : (b k : ℕ) (es : List (Entry X)) → b ≤ k → held_under es k ≡ held_under (drop (prefix_len (before b) es) es) k
  held_skip b k [] h = refl
  held_skip b k (y ∷ es) h =
      ⊎_elim
      (λ t. rw t (rw one-add (held_other k y _ (λ q. omega (arith, q, ltb-true _ b t)) ∙ held_skip b k es h)))
      (λ f. rw f)
      (cases_Bool (before b y))

  busy_none : (b c k : ℕ) (es : List (Entry X)) → rising b es ≡ true → k < c → busy c es ≡ false → held_under es k ≡ None
  busy_none b c k [] r h n = refl
  busy_none b c k (e ∷ es) r h n =
      let p = rising_parts b e es r in
      ⊎_elim
      (λ t.
      let off = or_parts e.live (busy c es) (sym (ap (λ (z : Bool). z && (e.live || busy c es)) t) ∙ n) in
      ap (λ (z : Bool). cond (z && eqb k e.key) (Some e.held) (held_under es k)) off.0 ∙ busy_none (e.key + 1) c k es p.1 h off.1)
      (λ f. held_other k e _ (λ q. omega (arith, q, ltb-false _ c f)) ∙ held_below (e.key + 1) k es p.1 (omega (arith, ltb-false _ c f)))
      (cases_Bool (ltb e.key c))

  busy_some : (b c : ℕ) (es : List (Entry X)) → rising b es ≡ true → busy c es ≡ true → (k : ℕ) × (b ≤ k) × (k < c) × (is_some (held_under es k) ≡ true)
  busy_some b c [] r t = absurd (never t) where
    never : false ≡ true → ⊥
    never e = let z : ◌≡◌ {A = ℕ} 0 1 = cc in omega arith
  busy_some b c (e ∷ es) r t =
      let p = rising_parts b e es r in
      let low = and_parts (ltb e.key c) (e.live || busy c es) t in
      ⊎_elim
      (λ l. (e.key, p.0, ltb-true _ c low.0, ap is_some (cond-true _ _ _ (and_from _ _ l (eq-eqb e.key e.key refl)))))
      (λ l. skip e es b c p.0 (busy_some (e.key + 1) c es p.1 (sym (ap (λ (z : Bool). z || busy c es) l) ∙ low.1)))
      (cases_Bool e.live) where
        skip : (e : Entry X) (es : List (Entry X)) (b c : ℕ) → b ≤ e.key → ((k : ℕ) × (e.key + 1 ≤ k) × (k < c) × (is_some (held_under es k) ≡ true))
            → (k : ℕ) × (b ≤ k) × (k < c) × (is_some (held_under (e ∷ es) k) ≡ true)
        skip e es b c l a =
            let past = a.1 in
            (a.0, omega (arith, past), a.2, ap is_some (held_other a.0 e _ (λ q. omega (arith, q, past))) ∙ a.3)

  pub busy_under : (es : List (Entry X)) (n : ℕ) → rising 0 es ≡ true → n < 2 ^ 32
      → busy (key_of n 0 + 256) (drop (prefix_len (before (key_of n 0)) es) es) ≡ not (eqb (under (waiting es) n) 0)
  unfolding under
  busy_under es n r small =
      let b = key_of n 0 in
      let ds : List (Entry X) = drop (prefix_len (before b) es) es in
      let up : rising b ds ≡ true = rising_at 0 b es r (omega arith) in
      ⊎_elim
      (λ t.
      let a = busy_some b (b + 256) ds up t in
      let q = a.0 - b in
      let back : key_of n q ≡ a.0 = omega (arith, a.1) in
      let low : q < 256 = omega (arith, a.1, a.2) in
      let here : is_some (waiting es n q) ≡ true =
      ap is_some (waiting_at es n q low ∙ ap (held_under es) back ∙ held_skip b a.0 es a.1) ∙ a.3 in
      t ∙ sym (not_from_false _ (ne_eqb _ 0 (λ z. omega (arith, z, how_many_some (λ p. is_some (waiting es n p)) 256 q low here)))))
      (λ f.
      let none : how_many (λ p. is_some (waiting es n p)) 256 ≡ 0 =
      how_many_none _ 256 (λ p l. ap is_some (waiting_at es n p l ∙ held_skip b (key_of n p) es (omega arith) ∙ busy_none b (b + 256) (key_of n p) ds up (omega arith) f)) in
      f ∙ sym (not_from_true _ (eq-eqb _ 0 none)))
      (cases_Bool (busy (b + 256) ds))

-- among the records before the first whose key is c or above
pub busy_taken : {X : Type 0} (c : ℕ) (es : List (Entry X)) → busy c es ≡ list_any live (take_while (before c) es)
busy_taken c [] = refl
busy_taken c (e ∷ es) =
    ⊎_elim
    (λ t. rw t (rw one-add (ap (λ (z : Bool). e.live || z) (busy_taken c es))))
    (λ f. rw f)
    (cases_Bool (before c e))

-- a rack holds no more copies than it has records
pub stored_bound : {X : Type 0} (r : Rack X) → copies (stored r) ≤ capacity r
unfolding stored capacity
stored_bound r = omega (arith, copies_lives (kept r) r.order, lives_le (kept r), length-take-le r.len r.records.now r.within, r.within)
