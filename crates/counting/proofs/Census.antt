-- Counts between two positions of a run, from tests on stations: they balance and add up, and those present, counted, known or
-- members are covered by those that last, entered, left or crashed.
-- It rests on counting alone: that use and leaving are for good is in the census.
use Rattle.std.proofs.Common.{◌≡◌, ℕ, ◌+◌, ◌≤◌, Bool, true, false, not, ◌&&◌, ◌||◌, [], ◌∷◌, arith}
use Rattle.std.proofs.lemmas.Bool.{and_parts, and_from}
use Rattle.stations.specs.Members.{only}
use Rattle.counting.specs.Census.{Census, both, Within, Around, gone, lasting, number, present_number, crashed_number, entered_number, left_number}
use Rattle.counting.proofs.Tests.{how_many_rest, covered}

module _ (z : Census) where
  -- how many are in use
  abbrev in_use : ℕ → ℕ
  in_use a = number z (z.used a)

  entered_since : (a b : ℕ) → a ≤ b → entered_number z a b + in_use a ≡ in_use b
  entered_since a b l = how_many_rest (z.used b) (z.used a) z.table (λ q _. z.used_on a b q l)

  left_since : (a b : ℕ) → a ≤ b → left_number z a b + number z (gone z a) ≡ number z (gone z b)
  left_since a b l = how_many_rest (gone z b) (gone z a) z.table (λ q _. z.gone_on a b q l)

  present_of_used : (a : ℕ) → number z (gone z a) + present_number z a ≡ in_use a
  present_of_used a = how_many_rest (z.used a) (z.present a) z.table (λ q _. z.present_used a q)

  -- who is present after, or has left since, was present before or has entered since
  pub balance : (a b : ℕ) → a ≤ b → present_number z b + left_number z a b ≡ present_number z a + entered_number z a b
  balance a b l = omega (arith, entered_since a b l, left_since a b l, present_of_used a, present_of_used b)

  pub entered_parts : (a m b : ℕ) → a ≤ m → m ≤ b → entered_number z a b ≡ entered_number z a m + entered_number z m b
  entered_parts a m b am mb = omega (arith, entered_since a m am, entered_since m b mb, entered_since a b (omega arith))

  pub left_parts : (a m b : ℕ) → a ≤ m → m ≤ b → left_number z a b ≡ left_number z a m + left_number z m b
  left_parts a m b am mb = omega (arith, left_since a m am, left_since m b mb, left_since a b (omega arith))

  -- who was present lasts, has left, or has crashed
  pub lasting_many : (a b : ℕ) → a ≤ b → present_number z a ≤ number z (lasting z a b) + left_number z a b + crashed_number z b
  lasting_many a b l =
      omega (
        arith,
        covered (z.present a) (lasting z a b ∷ only (gone z b) (gone z a) ∷ both (z.present b) (z.crashed b) ∷ []) z.table
            (λ q _ p. one (z.used a q) (z.present a q) (z.used b q) (z.present b q) (z.crashed b q) p (z.used_on a b q l (z.present_used a q p))),
      )
    where
      one : (u p u' p' x : Bool) → p ≡ true → u' ≡ true → ((p && (p' && not x)) || (((u' && not p') && not (u && not p)) || ((p' && x) || false))) ≡ true
      one u p u' p' x h k = grind (arith, h, k)

  -- who was counted lasts, or has entered, left or crashed since
  pub counted_many : (a b : ℕ) (counted : ℕ → Bool) → Around z a b counted
      → number z counted ≤ number z (both counted (lasting z a b)) + entered_number z a b + left_number z a b + crashed_number z b
  counted_many a b counted x =
      omega (
        arith,
        covered counted (both counted (lasting z a b) ∷ only (z.used b) (z.used a) ∷ only (gone z b) (gone z a) ∷ both (z.present b) (z.crashed b) ∷ []) z.table
            (λ q l p. one (counted q) (z.used a q) (z.present a q) (z.used b q) (z.present b q) (z.crashed b q) p (x.used q l p) (x.not_gone q l p)),
      )
    where
      one : (f u p u' p' x : Bool) → f ≡ true → u' ≡ true → not (u && not p) ≡ true
          → ((f && (p && (p' && not x))) || ((u' && not u) || (((u' && not p') && not (u && not p)) || ((p' && x) || false)))) ≡ true
      one f u p u' p' x h k l = grind (arith, h, k, l)

  -- whoever was present at a is known, or has left by b
  pub known_many : (a b : ℕ) (known : ℕ → Bool) → Within z.table (only (z.present a) (gone z b)) known
      → present_number z a ≤ number z known + left_number z a b
  known_many a b known holds =
      omega (
        arith,
        covered (z.present a) (known ∷ only (gone z b) (gone z a) ∷ []) z.table
            (λ q k p. one (known q) (z.used a q) (z.present a q) (gone z b q) p (holds q k)),
      )
    where
      one : (f u p g : Bool) → p ≡ true → ((p && not g) ≡ true → f ≡ true) → (f || ((g && not (u && not p)) || false)) ≡ true
      one f u p g h k = grind (arith, h, k)

  -- who is in use by b and had not left by a was present, or has entered since
  pub known_few : (a b : ℕ) (known : ℕ → Bool) → Around z a b known → number z known ≤ present_number z a + entered_number z a b
  known_few a b known x =
      omega (
        arith,
        covered known (z.present a ∷ only (z.used b) (z.used a) ∷ []) z.table
            (λ q l p. one (z.used a q) (z.present a q) (z.used b q) (x.used q l p) (x.not_gone q l p)),
      )
    where
      one : (u p u' : Bool) → u' ≡ true → not (u && not p) ≡ true → (p || ((u' && not u) || false)) ≡ true
      one u p u' h k = grind (arith, h, k)

  -- Whoever was present at a is a member, has left by b, or was crashed at m. Who had left by m is to have left by b.
  pub members_many : (a m b : ℕ) (members : ℕ → Bool) → a ≤ m → Within z.table (gone z m) (gone z b)
      → Within z.table (only (lasting z a m) (gone z b)) members
      → present_number z a ≤ number z members + left_number z a b + crashed_number z m
  members_many a m b members l on holds =
      omega (
        arith,
        covered (z.present a) (members ∷ only (gone z b) (gone z a) ∷ both (z.present m) (z.crashed m) ∷ []) z.table
            (λ q k p. one (members q) (z.used a q) (z.present a q) (z.used m q) (z.present m q) (z.crashed m q) (gone z b q) p (z.used_on a m q l (z.present_used a q p)) (on q k) (holds q k)),
      )
    where
      one : (f u p u' p' x g : Bool) → p ≡ true → u' ≡ true → ((u' && not p') ≡ true → g ≡ true) → (((p && (p' && not x)) && not g) ≡ true → f ≡ true)
          → (f || ((g && not (u && not p)) || ((p' && x) || false))) ≡ true
      one f u p u' p' x g h k l m = grind (arith, h, k, l, m)

  -- the largest set around two positions, and that it is the largest
  pub around_all : (a b : ℕ) → Around z a b (only (z.used b) (gone z a))
  around_all a b =
      record {
        used = λ q _ e. (and_parts (z.used b q) (not (gone z a q)) e).0;
        not_gone = λ q _ e. (and_parts (z.used b q) (not (gone z a q)) e).1;
      }

  pub around_within : (a b : ℕ) (f : ℕ → Bool) → Around z a b f → Within z.table f (only (z.used b) (gone z a))
  around_within a b f x q l e = and_from (z.used b q) (not (gone z a q)) (x.used q l e) (x.not_gone q l e)
