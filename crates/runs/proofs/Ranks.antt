-- The rank of a station's operation: 3t in phase one of tag t, 3t + 1 in its phase two, 3t + 2 once it is idle. It never falls
-- and rises by one, so each request is made once. Rests on `Changes`.
use Rattle.std.proofs.Common.{◌≡◌, ℕ, suc, ◌+◌, ◌*◌, ◌<◌, ◌≤◌, true, false, leb, ap, ◌∙◌, le_trans, le_refl, arith}
use Rattle.std.proofs.lemmas.Bool.{eq-eqb, lt-leb, le-leb, leb-true, leb-false}
use Rattle.std.proofs.lemmas.Bool.Decides.{nat_tests}
use Rattle.settings.specs.declared.choice.Choice.{Choice}
use Rattle.network.specs.declared.content.Content.{Content}
use Rattle.network.specs.declared.operation.Operation.{Operation}
use Rattle.network.specs.declared.operation.Operation.TheVariants.{Idle, PhaseOne, PhaseTwo}
use Rattle.network.specs.declared.operation.Task.{Task}
use Rattle.network.specs.declared.station.Station.{Station}
use Rattle.network.specs.Changes.{begin}
use Rattle.network.specs.Hearing.{hear}
use Rattle.network.specs.Keeping.{under_way, tag_of}
use Rattle.network.specs.Knowing.{Set}
use Rattle.runs.proofs.Positions.{Run, station, onward, turns}
use Rattle.runs.proofs.Accepted.{enters, begins}
use Rattle.runs.proofs.Changes.{Change, same, comes, fades, begins_one, hears_one, change, unused_blank}
use Rattle.runs.proofs.Requests.{query, update, awaits, in_one, in_two}

abbrev pub rank_of : {R : Type 0} → Operation R → ℕ
rank_of (Idle tag) = 3 * tag + 2
rank_of (PhaseOne task poll) = 3 * poll.tag
rank_of (PhaseTwo kind poll kept) = 3 * poll.tag + 1

module _ {R : Type 0} where
  abbrev pub rank : Station R Set → ℕ
  rank x = rank_of x.operation

  one_ranked : (o : Operation R) (t : ℕ) → in_one t o ≡ true → rank_of o ≡ 3 * t
  one_ranked o t h = grind (arith, nat_tests)

  ranked_one : (o : Operation R) (t : ℕ) → rank_of o ≡ 3 * t → in_one t o ≡ true
  ranked_one (Idle tag) t h = absurd (omega arith)
  ranked_one (PhaseOne task poll) t h = eq-eqb poll.tag t (omega arith)
  ranked_one (PhaseTwo kind poll kept) t h = absurd (omega arith)

  two_ranked : (o : Operation R) (t : ℕ) → in_two t o ≡ true → rank_of o ≡ 3 * t + 1
  two_ranked o t h = grind (arith, nat_tests)

  ranked_two : (o : Operation R) (t : ℕ) → rank_of o ≡ 3 * t + 1 → in_two t o ≡ true
  ranked_two (Idle tag) t h = absurd (omega arith)
  ranked_two (PhaseOne task poll) t h = absurd (omega arith)
  ranked_two (PhaseTwo kind poll kept) t h = eq-eqb poll.tag t (omega arith)

  -- in phase one of tag t, in its phase two
  pub rank_query : (x : Station R Set) (t : ℕ) → awaits x (query t) ≡ true → rank x ≡ 3 * t
  rank_query x t h = one_ranked x.operation t h

  pub query_rank : (x : Station R Set) (t : ℕ) → rank x ≡ 3 * t → awaits x (query t) ≡ true
  query_rank x t h = ranked_one x.operation t h

  pub rank_update : (x : Station R Set) (t : ℕ) → awaits x (update t) ≡ true → rank x ≡ 3 * t + 1
  rank_update x t h = two_ranked x.operation t h

  pub update_rank : (x : Station R Set) (t : ℕ) → rank x ≡ 3 * t + 1 → awaits x (update t) ≡ true
  update_rank x t h = ranked_two x.operation t h

  hear_rank : (c : Choice) (q : ℕ) (m : Content R Set) (x : Station R Set) → (rank x ≤ rank (hear c q m x)) × (rank (hear c q m x) ≤ rank x + 1)
  unfolding hear
  hear_rank c q m x = (grind (arith, nat_tests), grind (arith, nat_tests))

  -- whoever is idle begins the next tag
  begin_rank : (t : Task R) (x : Station R Set) → under_way x.operation ≡ false → rank (begin t x) ≡ rank x + 1
  begin_rank t x h = by x.operation h
    where
      by : (o : Operation R) → under_way o ≡ false → 3 * (tag_of o + 1) ≡ rank_of o + 1
      by (Idle tag) h = omega arith
      by (PhaseOne task poll) h = absurd (let z : ◌≡◌ {A = ℕ} 0 1 = cc in omega arith)
      by (PhaseTwo kind poll kept) h = absurd (let z : ◌≡◌ {A = ℕ} 0 1 = cc in omega arith)

module _ {R : Type 0} (z : Run R) where
  rank_step : (p i : ℕ) → (rank (station z i p) ≤ rank (station z (suc i) p)) × (rank (station z (suc i) p) ≤ rank (station z i p) + 1)
  rank_step p i = by (change z i p)
    where
      by : Change z i p → (rank (station z i p) ≤ rank (station z (suc i) p)) × (rank (station z (suc i) p) ≤ rank (station z i p) + 1)
      by (same e) = let f = ap rank e in (omega arith, omega arith)
      by (comes a e) = let f = ap rank e in let g = ap rank (unused_blank z i p (enters z i p a).unused) in (omega arith, omega arith)
      by (fades l c f e) = let f = ap rank e in (omega arith, omega arith)
      by (begins_one t a e) = let f = ap rank e ∙ begin_rank t (station z i p) (begins z i p t a).idle in (omega arith, omega arith)
      by (hears_one n c a w e) = let f = ap rank e in let g = hear_rank z.setup.choice p c.content (station z i p) in (omega (arith, g.0), omega (arith, g.1))

  pub rank_on : (p i j : ℕ) → i ≤ j → rank (station z i p) ≤ rank (station z j p)
  rank_on p i j l = onward z (λ k. rank (station z i p) ≤ rank (station z k p)) (λ k h. le_trans h (rank_step p k).0) i j l (le_refl _)

  pub rank_one : (p i : ℕ) → rank (station z (suc i) p) ≤ rank (station z i p) + 1
  rank_one p i = (rank_step p i).1

  -- a rank that is passed over is come by
  pub rank_turns : (p i j n : ℕ) → i ≤ j → rank (station z i p) < n → n ≤ rank (station z j p) → (k : ℕ) × (i ≤ k) × (k < j) × (rank (station z k p) < n) × (rank (station z (suc k) p) ≡ n)
  rank_turns p i j n l a b =
      let (k, x, y, f, t) = turns (λ k. leb n (rank (station z k p))) i j l (lt-leb n _ a) (le-leb n _ b) in
      let low = leb-false n (rank (station z k p)) f in
      let high = leb-true n (rank (station z (suc k) p)) t in
      (k, x, y, omega (arith, low), omega (arith, low, high, rank_one p k))
