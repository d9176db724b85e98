-- The room rule for one message and for two, as a make computes it.
use Rattle.std.proofs.Common.{◌≡◌, ℕ, zero, suc, ◌+◌, ◌<◌, ◌≤◌, Bool, true, false, cond, not, eqb, ltb, [], ◌∷◌, sym, refl, ap, ◌∙◌, ⊎_elim, arith}
use Rattle.std.proofs.lemmas.Bool.{and_parts, and_from, and_left, and_right, or_left, or_right, or_from, or_cases, le-ltb, lt-ltb, eq-eqb, ne_eqb, eqb-true, eqb-false, not-true, not-false, not_from_true, not_from_false, cond-false}
use Rattle.carrier.specs.Waits.{Waits}
use Rattle.carrier.specs.Counts.{under, receivers, load, given, fits, heard}
use Rattle.carrier.proofs.Rooms.{fits_parts, fits_from, fits_full, fits_stale, room_unheard}
use Rattle.carrier.specs.declared.message.Post.{Post}

module _ {X Y : Type 0} (cost : ℕ → ℕ) (free : cost 0 ≡ 0) (k : ℕ) (w : Waits X) where
  -- a message without a receiver
  module _ (p : Post Y) (z : receivers p ≡ 0) where
    mute : ltb 0 (receivers p) ≡ false
    mute = le-ltb 0 (receivers p) (omega (arith, z))

    pub silent_one : load cost w ≤ k → fits cost k w (p ∷ []) ≡ true
    silent_one h =
        room_unheard cost free k w (p ∷ []) ∙ ap (fits cost k w) (cond-false (ltb 0 (receivers p)) (p ∷ []) [] mute) ∙ fits_from cost k w [] (omega arith) refl

    pub silent_first : (q : Post Y) → fits cost k w (p ∷ q ∷ []) ≡ fits cost k w (q ∷ [])
    silent_first q =
        room_unheard cost free k w (p ∷ q ∷ []) ∙ ap (fits cost k w) (cond-false (ltb 0 (receivers p)) (p ∷ heard (q ∷ [])) (heard (q ∷ [])) mute)
        ∙ sym (room_unheard cost free k w (q ∷ []))

    pub silent_second : (q : Post Y) → fits cost k w (q ∷ p ∷ []) ≡ fits cost k w (q ∷ [])
    silent_second q =
        room_unheard cost free k w (q ∷ p ∷ [])
        ∙ ap (λ l. fits cost k w (cond (ltb 0 (receivers q)) (q ∷ l) l)) (cond-false (ltb 0 (receivers p)) (p ∷ []) [] mute)
        ∙ sym (room_unheard cost free k w (q ∷ []))

  module _ (p : Post Y) where
    pub one_full : k < load cost w + cost (receivers p) → fits cost k w (p ∷ []) ≡ false
    one_full h = fits_full cost k w (p ∷ []) (omega arith)

    pub one_waits : (receivers p ≡ 0 → ⊥) → (under w p.number ≡ 0 → ⊥) → fits cost k w (p ∷ []) ≡ false
    one_waits some busy = fits_stale cost k w (p ∷ []) (and_left _ _ (or_from _ _ (ne_eqb _ 0 some) (and_left _ _ (ne_eqb _ 0 busy))))

    pub one_fits : load cost w + cost (receivers p) ≤ k → under w p.number ≡ 0 → fits cost k w (p ∷ []) ≡ true
    one_fits h none = fits_from cost k w (p ∷ []) (omega arith) (and_from _ _ (or_right _ _ (and_from _ _ (eq-eqb _ 0 none) refl)) refl)

    -- the answer by whether the number waits
    pub one_asked : (receivers p ≡ 0 → ⊥) → load cost w + cost (receivers p) ≤ k → (b : Bool) → b ≡ not (eqb (under w p.number) 0) → not b ≡ fits cost k w (p ∷ [])
    one_asked some h true e = sym (one_waits some (eqb-false _ 0 (not-true _ (sym e))))
    one_asked some h false e = sym (one_fits h (eqb-true _ 0 (not-false _ (sym e))))

    -- what a message that fits tells
    pub one_load : fits cost k w (p ∷ []) ≡ true → load cost w + cost (receivers p) ≤ k
    one_load e = omega (arith, (fits_parts cost k w (p ∷ []) e).0)

    pub one_fresh : fits cost k w (p ∷ []) ≡ true → (receivers p ≡ 0 → ⊥) → under w p.number ≡ 0
    one_fresh e some =
        ⊎_elim
        (λ z. absurd (some (eqb-true _ 0 z)))
        (λ u. eqb-true _ 0 (and_parts (eqb (under w p.number) 0) true u).0)
        (or_cases (eqb (receivers p) 0) _ (and_parts _ true (fits_parts cost k w (p ∷ []) e).1).0)

    module _ (q : Post Y) (some : receivers p ≡ 0 → ⊥) (others : receivers q ≡ 0 → ⊥) where
      pub two_full : k < load cost w + (cost (receivers p) + cost (receivers q)) → fits cost k w (p ∷ q ∷ []) ≡ false
      two_full h = fits_full cost k w (p ∷ q ∷ []) (omega arith)

      pub two_same : p.number ≡ q.number → fits cost k w (p ∷ q ∷ []) ≡ false
      two_same e =
          let again : given p.number (q ∷ []) ≡ true = or_left _ _ (and_from _ _ (lt-ltb 0 (receivers q) (above (receivers q) others)) (eq-eqb _ _ e)) in
          fits_stale cost k w (p ∷ q ∷ []) (and_left _ _ (or_from _ _ (ne_eqb _ 0 some) (and_right _ _ (not_from_true _ again)))) where
            above : (n : ℕ) → (n ≡ 0 → ⊥) → 0 < n
            above zero h = absurd (h refl)
            above (suc n) h = omega arith

      pub two_first_waits : (under w p.number ≡ 0 → ⊥) → fits cost k w (p ∷ q ∷ []) ≡ false
      two_first_waits busy = fits_stale cost k w (p ∷ q ∷ []) (and_left _ _ (or_from _ _ (ne_eqb _ 0 some) (and_left _ _ (ne_eqb _ 0 busy))))

      pub two_second_waits : (under w q.number ≡ 0 → ⊥) → fits cost k w (p ∷ q ∷ []) ≡ false
      two_second_waits busy = fits_stale cost k w (p ∷ q ∷ []) (and_right _ _ (and_left _ _ (or_from _ _ (ne_eqb _ 0 others) (and_left _ _ (ne_eqb _ 0 busy)))))

      pub two_fit : load cost w + (cost (receivers p) + cost (receivers q)) ≤ k → (p.number ≡ q.number → ⊥) → under w p.number ≡ 0 → under w q.number ≡ 0
          → fits cost k w (p ∷ q ∷ []) ≡ true
      two_fit h apart none none' =
          fits_from cost k w (p ∷ q ∷ []) (omega arith)
          (and_from _ _
          (or_right (eqb (receivers p) 0) _ (and_from _ _ (eq-eqb _ 0 none) (not_from_false _ (or_from _ _ (and_right (ltb 0 (receivers q)) _ (ne_eqb p.number q.number apart)) refl))))
          (and_from _ _ (or_right (eqb (receivers q) 0) _ (and_from _ _ (eq-eqb _ 0 none') refl)) refl))

      -- the answer by whether the second number waits
      pub two_asked : load cost w + (cost (receivers p) + cost (receivers q)) ≤ k → (p.number ≡ q.number → ⊥) → under w p.number ≡ 0
          → (b : Bool) → b ≡ not (eqb (under w q.number) 0) → not b ≡ fits cost k w (p ∷ q ∷ [])
      two_asked h apart none true e = sym (two_second_waits (eqb-false _ 0 (not-true _ (sym e))))
      two_asked h apart none false e = sym (two_fit h apart none (eqb-true _ 0 (not-false _ (sym e))))
