-- The laws of the room rule, for any cost of a message.
use Rattle.std.proofs.Common.{◌≡◌, ℕ, ◌+◌, ◌^◌, ◌<◌, ◌≤◌, Bool, true, false, not, ◌&&◌, ◌||◌, eqb, ltb, leb, ◌⊎◌, List, [], ◌∷◌, sym, refl, ap, ◌∙◌, inl, inr, arith}
use Rattle.std.proofs.lemmas.Bool.{and_parts, and_from, leb-true, le-leb, lt-leb, eqb-true, eqb-false, eq-eqb, ltb-false, or_cases, or_left, or_right, or_parts, or_from, and_left, and_right, and_cases, cases_Bool, not-true, not_from_false}
use Rattle.stations.proofs.Counting.{how_many_bound}
use Rattle.stations.specs.Members.{member, how_many}
use Rattle.carrier.specs.Waits.{Waits, Within, nothing, sent_to, posted}
use Rattle.carrier.specs.Counts.{under, receivers, by_copy, by_message, load, extra, given, fresh, fits, heard, StepSized}
use Rattle.carrier.proofs.Sums.{total_le, total_none, total_rise}
use Rattle.carrier.proofs.Copies.{under_le, under_nothing, under_rise, under_off, posted_none}
use Rattle.carrier.specs.declared.message.Held.{Held}
use Rattle.carrier.specs.declared.message.Post.{Post}

-- what the laws ask of a cost
pub record Cost (cost : ℕ → ℕ) : Type 0 where
  pub free : cost 0 ≡ 0
  pub rises : (a b : ℕ) → a ≤ b → cost a ≤ cost b
  pub shares : (a b : ℕ) → cost (a + b) ≤ cost a + cost b

pub copy_cost : Cost by_copy
copy_cost = record { free = refl; rises = λ a b h. h; shares = λ a b. omega arith }

pub message_cost : Cost by_message
message_cost = record { free = refl; rises = λ a b h. omega arith; shares = λ a b. omega arith }

-- a message may go beside the others by its number
abbrev own : {X Y : Type 0} → Waits X → Post Y → List (Post Y) → Bool
own w p ps = eqb (receivers p) 0 || (eqb (under w p.number) 0 && not (given p.number ps))

module _ {X : Type 0} (v w : Waits X) (within : Within v w) where
  own_less : {Y : Type 0} (p : Post Y) (ps : List (Post Y)) → own w p ps ≡ true → own v p ps ≡ true
  own_less p ps e = by (or_cases (eqb (receivers p) 0) _ e) where
    by : (eqb (receivers p) 0 ≡ true) ⊎ ((eqb (under w p.number) 0 && not (given p.number ps)) ≡ true) → own v p ps ≡ true
    by (inl z) = or_left _ _ z
    by (inr z) =
        let parts = and_parts (eqb (under w p.number) 0) (not (given p.number ps)) z in
        or_right _ _ (and_from _ _ (eq-eqb (under v p.number) 0 (omega (arith, under_le v w within p.number, eqb-true _ 0 parts.0))) parts.1)

  fresh_less : {Y : Type 0} (ps : List (Post Y)) → fresh w ps ≡ true → fresh v ps ≡ true
  fresh_less [] e = refl
  fresh_less (p ∷ ps) e = let h = and_parts (own w p ps) (fresh w ps) e in and_from _ _ (own_less p ps h.0) (fresh_less ps h.1)

-- both parts of the rule
pub fits_parts : {X Y : Type 0} (cost : ℕ → ℕ) (k : ℕ) (w : Waits X) (ps : List (Post Y)) → fits cost k w ps ≡ true
    → (load cost w + extra cost ps ≤ k) × (fresh w ps ≡ true)
unfolding fits
fits_parts cost k w ps e = let h = and_parts (leb (load cost w + extra cost ps) k) (fresh w ps) e in (leb-true _ _ h.0, h.1)

pub fits_from : {X Y : Type 0} (cost : ℕ → ℕ) (k : ℕ) (w : Waits X) (ps : List (Post Y)) → load cost w + extra cost ps ≤ k → fresh w ps ≡ true
    → fits cost k w ps ≡ true
unfolding fits
fits_from cost k w ps h e = and_from _ _ (le-leb _ _ h) e

pub fits_full : {X Y : Type 0} (cost : ℕ → ℕ) (k : ℕ) (w : Waits X) (ps : List (Post Y)) → k < load cost w + extra cost ps → fits cost k w ps ≡ false
unfolding fits
fits_full cost k w ps h = and_left _ _ (lt-leb _ _ h)

pub fits_stale : {X Y : Type 0} (cost : ℕ → ℕ) (k : ℕ) (w : Waits X) (ps : List (Post Y)) → fresh w ps ≡ false → fits cost k w ps ≡ false
unfolding fits
fits_stale cost k w ps e = and_right _ _ e

module _ (cost : ℕ → ℕ) (ok : Cost cost) where
  load_less : {X : Type 0} (v w : Waits X) → Within v w → load cost v ≤ load cost w
  unfolding load
  load_less v w within = total_le _ _ (2 ^ 32) (λ n l. ok.rises _ _ (under_le v w within n))

  pub room_shrinks : {X Y : Type 0} (k : ℕ) (v w : Waits X) (ps : List (Post Y)) → Within v w → fits cost k w ps ≡ true → fits cost k v ps ≡ true
  room_shrinks k v w ps within e =
      let h = fits_parts cost k w ps e in
      fits_from cost k v ps (omega (arith, load_less v w within, h.0)) (fresh_less v w within ps h.1)

  load_nothing : (X : Type 0) → load cost (nothing {X = X}) ≡ 0
  unfolding load
  load_nothing X = total_none _ (2 ^ 32) (λ n l. ap cost (under_nothing X n) ∙ ok.free)

  -- copies under one number load no more than their cost
  pub load_sent : {X : Type 0} (f : ℕ → Bool) (n : ℕ) (x : X) (w : Waits X) → load cost (sent_to f n x w) ≤ load cost w + cost (how_many f 256)
  unfolding load
  load_sent f n x w =
      total_rise _ _ n (cost (how_many f 256)) (2 ^ 32)
      (λ j ne. ok.rises _ _ (omega (arith, under_off f n x w j ne)))
      (omega (arith, ok.rises _ _ (under_rise f n x w), ok.shares (under w n) (how_many f 256)))

  load_posted : {X : Type 0} (p : Post X) (w : Waits (Held X)) → load cost (posted p w) ≤ load cost w + cost (receivers p)
  unfolding receivers
  load_posted p w = load_sent (member p.to) p.number p.held w

  receivers_bound : {X : Type 0} (p : Post X) → receivers p ≤ 256
  unfolding receivers
  receivers_bound p = how_many_bound (member p.to) 256

  alone : (X : Type 0) {Y : Type 0} (p : Post Y) → own (nothing {X = X}) p [] ≡ true
  alone X p = or_right _ _ (and_from _ _ (eq-eqb _ 0 (under_nothing X p.number)) refl)

  -- empty, there is room for a single step's messages, where two of them may cost that much
  pub room_starts : {X : Type 0} (k : ℕ) → cost 1 + cost 256 ≤ k → (ps : List (Post X)) → StepSized ps → fits cost k (nothing {X = Held X}) ps ≡ true
  room_starts {X} k h [] s = fits_from cost k _ [] (omega (arith, load_nothing (Held X))) refl
  room_starts {X} k h (p ∷ []) s =
      fits_from cost k _ (p ∷ []) (omega (arith, load_nothing (Held X), ok.rises _ _ (receivers_bound p))) (and_from _ _ (alone (Held X) p) refl)
  room_starts {X} k h (p ∷ q ∷ []) s =
      fits_from cost k _ (p ∷ q ∷ [])
      (omega (arith, load_nothing (Held X), ok.rises _ _ s.0, ok.rises _ _ (receivers_bound q)))
      (and_from _ _ (or_right _ _ (and_from _ _ (eq-eqb _ 0 (under_nothing (Held X) p.number)) (not_from_false _ (or_from _ _ (and_right _ _ s.1) refl)))) (and_from _ _ (alone (Held X) q) refl))
  room_starts k h (p ∷ q ∷ r ∷ ps) s = absurd s

module _ {X : Type 0} (p : Post X) (w : Waits (Held X)) where
  own_posted : (r : Post X) (ps : List (Post X)) → (ltb 0 (receivers r) && eqb p.number r.number) ≡ false → own w r ps ≡ true → own (posted p w) r ps ≡ true
  own_posted r ps other e = by (and_cases (ltb 0 (receivers r)) (eqb p.number r.number) other) (or_cases (eqb (receivers r) 0) _ e) where
    by : (ltb 0 (receivers r) ≡ false) ⊎ (eqb p.number r.number ≡ false)
        → (eqb (receivers r) 0 ≡ true) ⊎ ((eqb (under w r.number) 0 && not (given r.number ps)) ≡ true) → own (posted p w) r ps ≡ true
    by (inl none) u = or_left _ _ (eq-eqb (receivers r) 0 (omega (arith, ltb-false 0 (receivers r) none)))
    by (inr f) (inl z) = or_left _ _ z
    by (inr f) (inr u) =
        let parts = and_parts (eqb (under w r.number) 0) (not (given r.number ps)) u in
        let same = under_off (member p.to) p.number p.held w r.number (λ q. eqb-false p.number r.number f (sym q)) in
        or_right _ _ (and_from _ _ (eq-eqb (under (posted p w) r.number) 0 (omega (arith, same, eqb-true _ 0 parts.0))) parts.1)

  fresh_posted : (ps : List (Post X)) → given p.number ps ≡ false → fresh w ps ≡ true → fresh (posted p w) ps ≡ true
  fresh_posted [] no' e = refl
  fresh_posted (r ∷ ps) no' e =
      let o = or_parts (ltb 0 (receivers r) && eqb p.number r.number) (given p.number ps) no' in
      let h = and_parts (own w r ps) (fresh w ps) e in
      and_from _ _ (own_posted r ps o.0 h.0) (fresh_posted ps o.1 h.1)

  fresh_after : (ps : List (Post X)) → own w p ps ≡ true → fresh w ps ≡ true → fresh (posted p w) ps ≡ true
  fresh_after ps o e = by (or_cases (eqb (receivers p) 0) _ o) where
    by : (eqb (receivers p) 0 ≡ true) ⊎ ((eqb (under w p.number) 0 && not (given p.number ps)) ≡ true) → fresh (posted p w) ps ≡ true
    by (inl z) = ap (λ v. fresh v ps) (posted_none p w (eqb-true _ 0 z)) ∙ e
    by (inr u) = fresh_posted ps (not-true _ (and_parts (eqb (under w p.number) 0) (not (given p.number ps)) u).1) e

  own_alone : (ps : List (Post X)) → own w p ps ≡ true → own w p [] ≡ true
  own_alone ps o = by (or_cases (eqb (receivers p) 0) _ o) where
    by : (eqb (receivers p) 0 ≡ true) ⊎ ((eqb (under w p.number) 0 && not (given p.number ps)) ≡ true) → own w p [] ≡ true
    by (inl z) = or_left _ _ z
    by (inr u) = or_right _ _ (and_from _ _ (and_parts (eqb (under w p.number) 0) _ u).0 refl)

pub room_splits : {X : Type 0} (cost : ℕ → ℕ) → Cost cost → (k : ℕ) (w : Waits (Held X)) (p : Post X) (ps : List (Post X)) → fits cost k w (p ∷ ps) ≡ true
    → (fits cost k w (p ∷ []) ≡ true) × (fits cost k (posted p w) ps ≡ true)
room_splits cost ok k w p ps e =
    let whole = fits_parts cost k w (p ∷ ps) e in
    let parts = and_parts (own w p ps) (fresh w ps) whole.1 in (
      fits_from cost k w (p ∷ []) (omega (arith, whole.0)) (and_from _ _ (own_alone p w ps parts.0) refl),
      fits_from cost k (posted p w) ps (omega (arith, whole.0, load_posted cost ok p w)) (fresh_after p w ps parts.0 parts.1),
    )

unheard_extra : {X : Type 0} (cost : ℕ → ℕ) → cost 0 ≡ 0 → (ps : List (Post X)) → extra cost ps ≡ extra cost (heard ps)
unheard_extra cost z [] = refl
unheard_extra cost z (p ∷ ps) = by (cases_Bool (ltb 0 (receivers p))) (unheard_extra cost z ps) where
  by : (ltb 0 (receivers p) ≡ true) ⊎ (ltb 0 (receivers p) ≡ false) → extra cost ps ≡ extra cost (heard ps) → extra cost (p ∷ ps) ≡ extra cost (heard (p ∷ ps))
  by (inl t) ih = rw t (ap (λ (x : ℕ). cost (receivers p) + x) ih)
  by (inr f) ih = rw f (omega (arith, ih, z, ap cost (the_zero (ltb-false 0 (receivers p) f)))) where
    the_zero : {n : ℕ} → n ≤ 0 → n ≡ 0
    the_zero h = omega arith

unheard_given : {X : Type 0} (n : ℕ) (ps : List (Post X)) → given n ps ≡ given n (heard ps)
unheard_given n [] = refl
unheard_given n (p ∷ ps) = by (cases_Bool (ltb 0 (receivers p))) (unheard_given n ps) where
  by : (ltb 0 (receivers p) ≡ true) ⊎ (ltb 0 (receivers p) ≡ false) → given n ps ≡ given n (heard ps) → given n (p ∷ ps) ≡ given n (heard (p ∷ ps))
  by (inl t) ih = rw t (rw t (ap (λ (b : Bool). eqb n p.number || b) ih))
  by (inr f) ih = rw f ih

unheard_fresh : {X Y : Type 0} (w : Waits X) (ps : List (Post Y)) → fresh w ps ≡ fresh w (heard ps)
unheard_fresh w [] = refl
unheard_fresh w (p ∷ ps) = by (cases_Bool (ltb 0 (receivers p))) (unheard_fresh w ps) where
  by : (ltb 0 (receivers p) ≡ true) ⊎ (ltb 0 (receivers p) ≡ false) → fresh w ps ≡ fresh w (heard ps) → fresh w (p ∷ ps) ≡ fresh w (heard (p ∷ ps))
  by (inl t) ih = rw t (ap (λ (b : Bool). own w p ps && b) ih ∙ ap (λ (b : Bool). (eqb (receivers p) 0 || (eqb (under w p.number) 0 && not b)) && fresh w (heard ps)) (unheard_given p.number ps))
  by (inr f) ih = rw f (ap (λ (b : Bool). b && fresh w ps) (or_left _ _ (eq-eqb (receivers p) 0 (omega (arith, ltb-false 0 (receivers p) f)))) ∙ ih)

pub room_unheard : {X Y : Type 0} (cost : ℕ → ℕ) → cost 0 ≡ 0 → (k : ℕ) (w : Waits X) (ps : List (Post Y)) → fits cost k w ps ≡ fits cost k w (heard ps)
unfolding fits
room_unheard cost z k w ps =
    ap (λ (n : ℕ). leb (load cost w + n) k && fresh w ps) (unheard_extra cost z ps)
    ∙ ap (λ (b : Bool). leb (load cost w + extra cost (heard ps)) k && b) (unheard_fresh w ps)

pub room_fresh : {X Y : Type 0} (cost : ℕ → ℕ) (k : ℕ) (w : Waits X) (ps : List (Post Y)) → fits cost k w ps ≡ true → fresh w ps ≡ true
room_fresh cost k w ps e = (fits_parts cost k w ps e).1

-- where nothing is to be posted there is room, unless more waits than there are records
pub room_idle : {X : Type 0} (cost : ℕ → ℕ) (k : ℕ) (w : Waits (Held X)) → load cost w ≤ k → fits {X = Held X} {Y = X} cost k w [] ≡ true
room_idle cost k w h = fits_from cost k w [] (omega arith) refl
