-- Every fact about stations that is true was so at the start or was announced; and who has joined knows the facts of the start.
-- Rests on `Travel` and `BoundSet`.
use Rattle.std.proofs.Common.{◌≡◌, ℕ, zero, suc, ◌<◌, true, false, ltb, ◌⊎◌, sym, refl, ap, ◌∙◌, inl, inr, arith}
use Rattle.std.proofs.lemmas.Bool.{cases_Bool, both_ways, and_from, not_from_false, eq-eqb, cond-true, cond-false}
use Rattle.settings.specs.declared.choice.Choice.{Choice}
use Rattle.network.specs.declared.content.Content.{Content}
use Rattle.network.specs.declared.content.Content.TheVariants.{Enter, EnterEcho, Joined, JoinedEcho, Leave, LeaveEcho, Query, Response, Update, Ack, UpdateEcho}
use Rattle.network.specs.declared.station.Station.{Station}
use Rattle.network.specs.declared.step.Step.TheVariants as step
use Rattle.network.specs.Hearing.{hear}
use Rattle.network.specs.Keeping.{is_used, founder}
use Rattle.network.specs.Knowing.{Set}
use Rattle.network.specs.Saying.{letters, to_all, says}
use Rattle.runs.proofs.Positions.{Run, station, Accepted, turns}
use Rattle.runs.proofs.Start.{station_start}
use Rattle.runs.proofs.Changes.{Change, same, comes, fades, begins_one, hears_one, change}
use Rattle.runs.proofs.Members.{joined_used}
use Rattle.runs.proofs.Mails.{Among}
use Rattle.runs.proofs.Hearings.{said_when, hears_copy, enter_says, leave_says, hearing_says}
use Rattle.runs.proofs.Facts.{Fact, entered, joined, left, holds, tells}
use Rattle.runs.proofs.Travel.{holds_on, Announced, answer_tells}
use Rattle.runs.proofs.Counted.{joins_with}
use Rattle.runs.proofs.BoundSet.{bound_set}

-- who joins says so to all
joins_says : {R : Type 0} (c : Choice) (q : ℕ) (m : Content R Set) (x y : Station R Set) → y ≡ hear c q m x → x.joined ≡ false → y.joined ≡ true
    → Among (to_all (Joined q)) (letters (says q m x y))
unfolding says hear
joins_says c q (Enter p) x y e a b = absurd (both_ways _ a (sym (ap (λ x. x.joined) e) ∙ b))
joins_says c q (EnterEcho known offer f p) x y e a b = said_when _ (to_all (Joined q)) (and_from _ _ b (not_from_false _ a))
joins_says c q (Joined p) x y e a b = absurd (both_ways _ a (sym (ap (λ x. x.joined) e) ∙ b))
joins_says c q (JoinedEcho p) x y e a b = absurd (both_ways _ a (sym (ap (λ x. x.joined) e) ∙ b))
joins_says c q (Leave p) x y e a b = absurd (both_ways _ a (sym (ap (λ x. x.joined) e) ∙ b))
joins_says c q (LeaveEcho p) x y e a b = absurd (both_ways _ a (sym (ap (λ x. x.joined) e) ∙ b))
joins_says c q (Query p tag) x y e a b = absurd (both_ways _ a (sym (ap (λ x. x.joined) e) ∙ b))
joins_says c q (Response offer tag) x y e a b = absurd (both_ways x.joined a (grind (arith, b, ap (λ x. x.joined) e)))
joins_says c q (Update offer tag p) x y e a b = absurd (both_ways _ a (sym (ap (λ x. x.joined) e) ∙ b))
joins_says c q (Ack tag) x y e a b = absurd (both_ways x.joined a (grind (arith, b, ap (λ x. x.joined) e)))
joins_says c q (UpdateEcho offer) x y e a b = absurd (both_ways _ a (sym (ap (λ x. x.joined) e) ∙ b))

module _ {R : Type 0} (z : Run R) where
  pub enter_announced : (e r : ℕ) → Accepted z e (step.Enter r) → Announced z e (entered r)
  unfolding tells
  enter_announced e r a = record { by = r; says = Enter r; loud = refl; about = eq-eqb r r refl; told = enter_says z e r a }

  pub leave_announced : (e r : ℕ) → Accepted z e (step.Leave r) → Announced z e (left r)
  unfolding tells
  leave_announced e r a = record { by = r; says = Leave r; loud = refl; about = eq-eqb r r refl; told = leave_says z e r a }

  pub join_announced : (i p : ℕ) → (station z i p).joined ≡ false → (station z (suc i) p).joined ≡ true → Announced z i (joined p)
  unfolding tells
  join_announced i p a b = by (change z i p)
    where
      by : Change z i p → Announced z i (joined p)
      by (same e) = absurd (both_ways _ a (sym (ap (λ x. x.joined) e) ∙ b))
      by (comes t e) = absurd (both_ways _ (ap (λ x. x.joined) e) b)
      by (fades l c f e) = absurd (both_ways _ a (sym (ap (λ x. x.joined) e) ∙ b))
      by (begins_one t d e) = absurd (both_ways _ a (sym (ap (λ x. x.joined) e) ∙ b))
      by (hears_one n c t w e) =
          let h = (hears_copy z i n p c c.content t w refl).0 in
          record {
            by = p;
            says = Joined p;
            loud = refl;
            about = eq-eqb p p refl;
            told = hearing_says z i p c.content (to_all (Joined p)) h (joins_says z.setup.choice p c.content (station z i p) (station z (suc i) p) e a b);
          }

  -- who has joined is a founder, or its joining was announced
  pub joined_from : (i q : ℕ) → (station z i q).joined ≡ true → (is_used (station z 0 q).life ≡ true) ⊎ ((x : ℕ) × (x < i) × Announced z x (joined q))
  joined_from i q h =
      elim (cases_Bool (station z 0 q).joined) [
        | inl b ↦ inl (joined_used z 0 q b)
        | inr b ↦ let (k, x, y, f, t) = turns (λ j. (station z j q).joined) 0 i (omega arith) b h in inr (k, y, join_announced k q f t)
      ]

  -- who is used at the start is a founder
  founder_at : (q : ℕ) → is_used (station z 0 q).life ≡ true → (ltb q z.founders ≡ true) × (station z 0 q ≡ founder z.setup.first z.founders)
  founder_at q h =
      elim (cases_Bool (ltb q z.founders)) [
        | inl b ↦ (b, station_start z q ∙ cond-true _ _ _ b)
        | inr b ↦ absurd (both_ways _ (ap (λ x. is_used x.life) (station_start z q ∙ cond-false _ _ _ b)) h)
      ]

  -- founders have joined
  pub founder_joined : (q : ℕ) → is_used (station z 0 q).life ≡ true → (station z 0 q).joined ≡ true
  founder_joined q h = ap (λ x. x.joined) (founder_at q h).1

  -- facts that all founders know at the start
  pub Initial : Fact → Type 0
  Initial F = (q : ℕ) → is_used (station z 0 q).life ≡ true → holds (station z 0 q) F ≡ true

  pub initial_entered : (r : ℕ) → is_used (station z 0 r).life ≡ true → Initial (entered r)
  unfolding Initial holds
  initial_entered r h q u = ap (λ x. x.known.entered r) (founder_at q u).1 ∙ (founder_at r h).0

  pub initial_joined : (r : ℕ) → is_used (station z 0 r).life ≡ true → Initial (joined r)
  unfolding Initial holds
  initial_joined r h q u = ap (λ x. x.known.joined r) (founder_at q u).1 ∙ (founder_at r h).0

  -- whoever joined before position n knows them: the answer of one who had joined told them
  known_before : (n i p : ℕ) (F : Fact) → i < n → Initial F → (station z i p).joined ≡ true → holds (station z i p) F ≡ true
  unfolding Initial
  known_before zero i p F l f j = absurd (omega arith)
  known_before (suc n) zero p F l f j = f p (joined_used z 0 p j)
  known_before (suc n) (suc i) p F l f j =
      elim (cases_Bool (station z i p).joined) [
        | inl g ↦ holds_on z p i (suc i) F (omega arith) (known_before n i p F (omega arith) f g)
        | inr g ↦
            let w = joins_with z i p g j in
            let b = bound_set z (suc i) p w.bound w.is in
            answer_tells z p b.given_at b.q b.set_at (suc i) F b.answer b.before
            (known_before n (suc b.given_at) b.q F (omega (arith, b.before, b.answer.later)) f b.joined)
      ]

  -- whoever has joined knows them
  pub initial_known : (i p : ℕ) (F : Fact) → Initial F → (station z i p).joined ≡ true → holds (station z i p) F ≡ true
  initial_known i p F = known_before (suc i) i p F (omega arith)
