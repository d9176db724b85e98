-- At every position at least nmin stations are present, and of those at most the share Δ is crashed.
-- Rests on `Changes` and `Counting`.
use Rattle.std.proofs.Common.{◌≡◌, ℕ, zero, suc, ◌*◌, ◌≤◌, Bool, true, false, cond, ◌&&◌, ltb, Some, sym, refl, ap, ◌∙◌, subst, le_trans, mul-le-mul_left, arith}
use Rattle.std.proofs.lemmas.Bool.{both_ways, and_parts, and_from, leb-true}
use Rattle.stations.proofs.Counting.{how_many_same, how_many_mono, how_many_none}
use Rattle.network.specs.declared.step.Step.{Step}
use Rattle.network.specs.declared.step.Step.TheVariants as step
use Rattle.network.specs.Keeping.{is_present, founder, unused_station}
use Rattle.network.specs.Knowing.{most_stations}
use Rattle.network.specs.States.{crashed_set, present_total, crashed_total}
use Rattle.runs.proofs.Positions.{Run, state, state_start, station, Accepted, OutcomeOf, goes, stays, outcome_of}
use Rattle.runs.proofs.Accepted.{leaves, crashes}
use Rattle.runs.proofs.Counting.{how_many_below}
use Rattle.runs.proofs.Growing.{hear_life, hear_crashed}
use Rattle.runs.proofs.Start.{founders_fit, founders_enough, table_high}
use Rattle.runs.proofs.Changes.{leaving, crashing, Change, same, comes, fades, begins_one, hears_one, change}

-- whether a step is a departure, or a crash
abbrev departs : {R : Type 0} → Step R → Bool
departs step.Tick = false
departs (step.Enter p) = false
departs (step.Leave p) = true
departs (step.Crash p) = false
departs (step.Read p) = false
departs (step.Write p r) = false
departs (step.Deliver n q) = false

abbrev kills : {R : Type 0} → Step R → Bool
kills step.Tick = false
kills (step.Enter p) = false
kills (step.Leave p) = false
kills (step.Crash p) = true
kills (step.Read p) = false
kills (step.Write p r) = false
kills (step.Deliver n q) = false

module _ {R : Type 0} (z : Run R) where
  -- how many are present at a position, and how many of those are crashed
  abbrev pub N : ℕ → ℕ
  N i = present_total (state z i)

  abbrev pub crashed_number : ℕ → ℕ
  crashed_number i = crashed_total (state z i)

  pub one_step : (i : ℕ) (x y : Step R) → Accepted z i x → Accepted z i y → x ≡ y
  one_step i x y a b = let e : Some x ≡ Some y = sym a.0 ∙ b.0 in cc

  -- where nobody leaves, whoever was present is
  present_stays : (i : ℕ) (x : Step R) → Accepted z i x → departs x ≡ false → (q : ℕ) → is_present (station z i q).life ≡ true → is_present (station z (suc i) q).life ≡ true
  present_stays i x a d q h = by (change z i q)
    where
      by : Change z i q → is_present (station z (suc i) q).life ≡ true
      by (same e) = ap (λ s. is_present s.life) e ∙ h
      by (comes b e) = ap (λ s. is_present s.life) e
      by (fades l c (leaving b f g) e) = absurd (both_ways _ d (ap departs (one_step i x (step.Leave q) a b)))
      by (fades l c (crashing b f g) e) = ap (λ s. is_present s.life) e ∙ ap is_present f ∙ h
      by (begins_one t b e) = ap (λ s. is_present s.life) e ∙ h
      by (hears_one n c b w e) = ap (λ s. is_present s.life) e ∙ ap is_present (hear_life z.setup.choice q c.content (station z i q)) ∙ h

  -- where nobody leaves or crashes, whoever is present and crashed was
  crashed_was : (i : ℕ) (x : Step R) → Accepted z i x → departs x ≡ false → kills x ≡ false → (q : ℕ) → crashed_set (state z (suc i)) q ≡ true → crashed_set (state z i) q ≡ true
  crashed_was i x a d k q h = by (change z i q)
    where
      by : Change z i q → crashed_set (state z i) q ≡ true
      by (same e) = sym (ap (λ s. is_present s.life && s.crashed) e) ∙ h
      by (comes b e) = absurd (both_ways _ (ap (λ s. is_present s.life && s.crashed) e) h)
      by (fades l c (leaving b f g) e) = absurd (both_ways _ d (ap departs (one_step i x (step.Leave q) a b)))
      by (fades l c (crashing b f g) e) = absurd (both_ways _ k (ap kills (one_step i x (step.Crash q) a b)))
      by (begins_one t b e) = sym (ap (λ s. is_present s.life && s.crashed) e) ∙ h
      by (hears_one n c b w e) =
          let same_life = hear_life z.setup.choice q c.content (station z i q) in
          let same_word = hear_crashed z.setup.choice q c.content (station z i q) in
          let parts = and_parts _ _ (sym (ap (λ s. is_present s.life && s.crashed) e) ∙ h) in
          and_from _ _ (sym (ap is_present same_life) ∙ parts.0) (sym same_word ∙ parts.1)

  present_rises : (i : ℕ) (x : Step R) → Accepted z i x → departs x ≡ false → N i ≤ N (suc i)
  present_rises i x a d = how_many_mono _ _ most_stations (λ q l h. present_stays i x a d q h)

  crashed_falls : (i : ℕ) (x : Step R) → Accepted z i x → departs x ≡ false → kills x ≡ false → crashed_number (suc i) ≤ crashed_number i
  crashed_falls i x a d k = how_many_mono _ _ most_stations (λ q l h. crashed_was i x a d k q h)

  -- enough stations are present, and not too many of them crashed
  pub record SoundSize (i : ℕ) : Type 0 where
    pub enough : z.setup.choice.nmin ≤ N i
    pub few_crashed : 100 * crashed_number i ≤ z.setup.choice.delta * N i

  pub start_size : N 0 ≡ z.founders
  start_size =
      ap present_total (state_start z) ∙ how_many_same _ (λ q. ltb q z.founders) most_stations (λ q l. by (ltb q z.founders)) ∙ how_many_below z.founders most_stations
      ∙ (let a = founders_fit z in let b = table_high z in omega arith)
    where
      by : (b : Bool) → is_present (cond b (founder z.setup.first z.founders) (unused_station z.setup.first)).life ≡ b
      by true = refl
      by false = refl

  start_crashed : crashed_number 0 ≡ 0
  start_crashed = ap crashed_total (state_start z) ∙ how_many_none _ most_stations (λ q l. by (ltb q z.founders))
    where
      by : (b : Bool) → (is_present (cond b (founder z.setup.first z.founders) (unused_station z.setup.first)).life
          && (cond b (founder z.setup.first z.founders) (unused_station z.setup.first)).crashed) ≡ false
      by true = refl
      by false = refl

  kept : (i : ℕ) (x : Step R) → Accepted z i x → departs x ≡ false → kills x ≡ false → SoundSize i → SoundSize (suc i)
  kept i x a d k f =
      let more = present_rises i x a d in
      record { enough = le_trans f.enough more; few_crashed = omega (arith, f.few_crashed, crashed_falls i x a d k, mul-le-mul_left z.setup.choice.delta more) }

  size_step : (i : ℕ) (x : Step R) → Accepted z i x → SoundSize i → SoundSize (suc i)
  size_step i step.Tick a f = kept i _ a refl refl f
  size_step i (step.Enter p) a f = kept i _ a refl refl f
  size_step i (step.Leave p) a f =
      let e = leaves z i p a in
      record {
        enough = subst (λ s. z.setup.choice.nmin ≤ present_total s) (sym e.leads) e.enough;
        few_crashed = subst (λ s. 100 * crashed_total s ≤ z.setup.choice.delta * present_total s) (sym e.leads) (leb-true _ _ e.share);
      }
  size_step i (step.Crash p) a f =
      let e = crashes z i p a in
      record {
        enough = le_trans f.enough (present_rises i _ a refl);
        few_crashed = subst (λ s. 100 * crashed_total s ≤ z.setup.choice.delta * present_total s) (sym e.leads) (leb-true _ _ e.share);
      }
  size_step i (step.Read p) a f = kept i _ a refl refl f
  size_step i (step.Write p r) a f = kept i _ a refl refl f
  size_step i (step.Deliver n q) a f = kept i _ a refl refl f

  pub sound_size : (i : ℕ) → SoundSize i
  sound_size zero = record { enough = omega (arith, start_size, founders_enough z); few_crashed = omega (arith, start_crashed) }
  sound_size (suc i) = by (outcome_of z i) (sound_size i)
    where
      by : OutcomeOf z i → SoundSize i → SoundSize (suc i)
      by (goes x a) f = size_step i x a f
      by (stays e) f =
          record {
            enough = subst (λ s. z.setup.choice.nmin ≤ present_total s) (sym e) f.enough;
            few_crashed = subst (λ s. 100 * crashed_total s ≤ z.setup.choice.delta * present_total s) (sym e) f.few_crashed;
          }
