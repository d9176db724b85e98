-- Who enters and who leaves: the moves between two positions are those who entered and those who left, and each accepted
-- entry or departure is one move and no other step is. Rests on `Changes`.
use Rattle.std.proofs.Common.{◌≡◌, ℕ, suc, ◌+◌, ◌<◌, ◌≤◌, Bool, true, false, ◌⊎◌, sym, refl, ap, ◌∙◌, inl, inr, arith, not, ◌&&◌}
use Rattle.runs.proofs.Counting.{one_if, how_many_balance}
use Rattle.network.specs.States.{present_set}
use Rattle.std.proofs.lemmas.Bool.{both_ways, cases_eq}
use Rattle.stations.specs.Members.{only, put, how_many}
use Rattle.stations.proofs.Counting.{put_here, put_other, how_many_same, how_many_more}
use Rattle.counting.proofs.Tests.{how_many_rest}
use Rattle.network.specs.declared.station.Life.{Life}
use Rattle.network.specs.declared.station.Life.TheVariants.{Left}
use Rattle.network.specs.declared.station.Station.{Station}
use Rattle.network.specs.declared.step.Step.{Step}
use Rattle.network.specs.declared.step.Step.TheVariants as step
use Rattle.network.specs.Keeping.{is_used, is_present, newcomer, with_life}
use Rattle.network.specs.Knowing.{Set, most_stations}
use Rattle.runs.proofs.Positions.{Run, state, station, Accepted, OutcomeOf, goes, stays, outcome_of}
use Rattle.runs.proofs.Accepted.{enters, leaves}
use Rattle.runs.proofs.Bounds.{N, one_step}
use Rattle.runs.proofs.Growing.{has_left, hear_life, present_used}
use Rattle.runs.proofs.Start.{table_high}
use Rattle.runs.proofs.Changes.{leaving, crashing, Change, same, comes, fades, begins_one, hears_one, change, grown}

-- whether a step is an entry or a departure
abbrev pub is_move : {R : Type 0} → Step R → Bool
is_move step.Tick = false
is_move (step.Enter p) = true
is_move (step.Leave p) = true
is_move (step.Crash p) = false
is_move (step.Read p) = false
is_move (step.Write p r) = false
is_move (step.Deliver n q) = false

module _ {R : Type 0} (z : Run R) where
  abbrev pub used_set : ℕ → Set
  used_set i q = is_used (station z i q).life

  abbrev pub left_set : ℕ → Set
  left_set i q = has_left (station z i q).life

  -- how many have entered or left so far, the founders counted as entered
  abbrev pub moves : ℕ → ℕ
  moves i = how_many (used_set i) most_stations + how_many (left_set i) most_stations

  -- how many entered between two positions, and how many left
  abbrev pub En : ℕ → ℕ → ℕ
  En a b = how_many (only (used_set b) (used_set a)) most_stations

  abbrev pub Lv : ℕ → ℕ → ℕ
  Lv a b = how_many (only (left_set b) (left_set a)) most_stations

  -- the number present moves with those who enter and those who leave
  pub balance : (a b : ℕ) → a ≤ b → N z b + Lv a b ≡ N z a + En a b
  balance a b l =
      how_many_balance (present_set (state z b)) _ (present_set (state z a)) _ most_stations
      (λ q k. one (station z a q).life (station z b q).life (grown z q a b l).used (grown z q a b l).left)
    where
      one : (l m : Life) → (is_used l ≡ true → is_used m ≡ true) → (has_left l ≡ true → has_left m ≡ true)
          → one_if (is_present m) + one_if (has_left m && not (has_left l)) ≡ one_if (is_present l) + one_if (is_used m && not (is_used l))
      one l m u g = grind arith

  -- the moves between two positions are those who entered and those who left
  pub moves_between : (a b : ℕ) → a ≤ b → (En a b + Lv a b) + moves a ≡ moves b
  moves_between a b l =
      omega (
        arith,
        how_many_rest (used_set b) (used_set a) most_stations (λ q _. (grown z q a b l).used),
        how_many_rest (left_set b) (left_set a) most_stations (λ q _. (grown z q a b l).left),
      )

  -- a step that is no move changes nobody's life
  pub life_stays : (i : ℕ) (x : Step R) → Accepted z i x → is_move x ≡ false → (q : ℕ) → (station z (suc i) q).life ≡ (station z i q).life
  life_stays i x a m q = by (change z i q)
    where
      by : Change z i q → (station z (suc i) q).life ≡ (station z i q).life
      by (same e) = ap (λ s. s.life) e
      by (comes b e) = absurd (both_ways _ m (ap is_move (one_step z i x (step.Enter q) a b)))
      by (fades l c (leaving b f g) e) = absurd (both_ways _ m (ap is_move (one_step z i x (step.Leave q) a b)))
      by (fades l c (crashing b f g) e) = ap (λ s. s.life) e ∙ f
      by (begins_one t b e) = ap (λ s. s.life) e
      by (hears_one n c b w e) = ap (λ s. s.life) e ∙ hear_life z.setup.choice q c.content (station z i q)

  -- where nobody's life changes, the counts stay
  pub same_lives : (i j : ℕ) → ((q : ℕ) → (station z j q).life ≡ (station z i q).life) → (moves j ≡ moves i) × (N z j ≡ N z i)
  same_lives i j h = (
    let a = how_many_same (used_set j) (used_set i) most_stations (λ q l. ap is_used (h q)) in
        let b = how_many_same (left_set j) (left_set i) most_stations (λ q l. ap has_left (h q)) in omega arith,
    how_many_same _ _ most_stations (λ q l. ap is_present (h q)),
  )

  -- one station's life changes, so that it passes f, and g as before
  one_life : (i p : ℕ) (f g : Life → Bool) → p < z.setup.table → f (station z i p).life ≡ false → f (station z (suc i) p).life ≡ true → g (station z (suc i) p).life ≡ g (station z i p).life
      → ((q : ℕ) → (q ≡ p → ⊥) → (station z (suc i) q).life ≡ (station z i q).life)
      → how_many (λ q. f (station z (suc i) q).life) most_stations + how_many (λ q. g (station z (suc i) q).life) most_stations
      ≡ (how_many (λ q. f (station z i q).life) most_stations + how_many (λ q. g (station z i q).life) most_stations) + 1
  one_life i p f g l no' yes' as_before others =
      omega (
        arith,
        how_many_more (λ q. f (station z (suc i) q).life) (λ q. f (station z i q).life) most_stations p (omega (arith, table_high z)) yes' no' (λ q ne. ap f (others q ne)),
        how_many_same (λ q. g (station z (suc i) q).life) (λ q. g (station z i q).life) most_stations (λ q k. by q (cases_eq q p)),
      )
    where
      by : (q : ℕ) → (q ≡ p) ⊎ (q ≡ p → ⊥) → g (station z (suc i) q).life ≡ g (station z i q).life
      by q (inl k) = ap (λ r. g (station z (suc i) r).life) k ∙ as_before ∙ ap (λ r. g (station z i r).life) (sym k)
      by q (inr ne) = ap g (others q ne)

  -- the lives after station p has become x
  life_here : (i p : ℕ) (x : Station R Set) → ((q : ℕ) → station z (suc i) q ≡ put (state z i).stations p x q) → (station z (suc i) p).life ≡ x.life
  life_here i p x e = ap (λ (s : Station R Set). s.life) (e p ∙ put_here (state z i).stations p x)

  life_there : (i p : ℕ) (x : Station R Set) → ((q : ℕ) → station z (suc i) q ≡ put (state z i).stations p x q) → (q : ℕ) → (q ≡ p → ⊥) → (station z (suc i) q).life ≡ (station z i q).life
  life_there i p x e q ne = ap (λ (s : Station R Set). s.life) (e q ∙ put_other (state z i).stations p x q ne)

  unused_not_left : (l : Life) → is_used l ≡ false → has_left l ≡ false
  unused_not_left l h = grind arith

  present_not_left : (l : Life) → is_present l ≡ true → has_left l ≡ false
  present_not_left l h = grind arith

  pub enter_moves : (i p : ℕ) → Accepted z i (step.Enter p) → moves (suc i) ≡ moves i + 1
  enter_moves i p a =
      let e = enters z i p a in
      let all : (q : ℕ) → station z (suc i) q ≡ put (state z i).stations p (newcomer z.setup.first p) q = λ q. ap (λ s. s.stations q) e.leads in
      let here = life_here i p _ all in
      one_life i p is_used has_left e.in_table e.unused (ap is_used here) (ap has_left here ∙ sym (unused_not_left _ e.unused)) (life_there i p _ all)

  pub leave_moves : (i p : ℕ) → Accepted z i (step.Leave p) → moves (suc i) ≡ moves i + 1
  leave_moves i p a =
      let e = leaves z i p a in
      let all : (q : ℕ) → station z (suc i) q ≡ put (state z i).stations p (with_life Left (station z i p)) q = λ q. ap (λ s. s.stations q) e.leads in
      let here = life_here i p _ all in
      let one = one_life i p has_left is_used e.acts.in_table (present_not_left _ e.acts.is_here) (ap has_left here) (ap is_used here ∙ sym (present_used _ e.acts.is_here)) (life_there i p _ all) in
      omega arith

  -- a step is one move, or changes nobody's life
  pub data MoveStep (i : ℕ) : Type 0 where
    moves_one : (x : Step R) → Accepted z i x → is_move x ≡ true → moves (suc i) ≡ moves i + 1 → MoveStep i
    moves_none : ((q : ℕ) → (station z (suc i) q).life ≡ (station z i q).life) → MoveStep i

  move_by : (i : ℕ) (x : Step R) → Accepted z i x → MoveStep i
  move_by i step.Tick a = moves_none (life_stays i _ a refl)
  move_by i (step.Enter p) a = moves_one _ a refl (enter_moves i p a)
  move_by i (step.Leave p) a = moves_one _ a refl (leave_moves i p a)
  move_by i (step.Crash p) a = moves_none (life_stays i _ a refl)
  move_by i (step.Read p) a = moves_none (life_stays i _ a refl)
  move_by i (step.Write p r) a = moves_none (life_stays i _ a refl)
  move_by i (step.Deliver n q) a = moves_none (life_stays i _ a refl)

  pub move_step : (i : ℕ) → MoveStep i
  move_step i = by (outcome_of z i)
    where
      by : OutcomeOf z i → MoveStep i
      by (goes x a) = move_by i x a
      by (stays e) = moves_none (λ q. ap (λ s. (s.stations q).life) e)
