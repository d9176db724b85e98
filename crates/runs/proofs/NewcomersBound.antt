-- The bound of a newcomer. It was told by an answer that was given after the entry and less than D ticks later. If the teller
-- was informed, the bound counts all that were present two windows before that answer and have not left, and none that had
-- left by then. Rests on `Past`, `Soundness`, `BoundSet`, `Asked` and `WindowsBack`.
use Rattle.std.proofs.Common.{◌≡◌, ℕ, suc, ◌+◌, ◌-◌, ◌*◌, ◌<◌, ◌≤◌, Bool, true, not, ◌&&◌, ◌||◌, refl, ap, ◌∙◌, subst, inl, inr, arith}
use Rattle.std.proofs.lemmas.Bool.{cases_Bool, eq-eqb}
use Rattle.stations.specs.Members.{only}
use Rattle.stations.proofs.Counting.{put_here}
use Rattle.counting.specs.Census.{Within, Around, gone}
use Rattle.counting.specs.Marks.{Near}
use Rattle.network.specs.declared.content.Content.TheVariants.{Enter}
use Rattle.network.specs.declared.station.Station.{Station}
use Rattle.network.specs.declared.step.Step.TheVariants as step
use Rattle.network.specs.Keeping.{is_used, is_present, active, newcomer}
use Rattle.network.specs.Knowing.{Set, most_stations, add_known}
use Rattle.runs.proofs.Positions.{Run, state, station, clock, active_at, D, Accepted}
use Rattle.runs.proofs.Accepted.{enters}
use Rattle.runs.proofs.Growing.{present_used}
use Rattle.runs.proofs.Changes.{grown}
use Rattle.runs.proofs.Clocks.{clock_on, enters_late}
use Rattle.runs.proofs.Hearings.{HearsAt, enter_says, hears_active}
use Rattle.runs.proofs.Requests.{entry}
use Rattle.runs.proofs.Asked.{AsksAt, asked_once, request_made}
use Rattle.runs.proofs.BoundSet.{BoundSet}
use Rattle.runs.proofs.Soundness.{entered_true, left_true}
use Rattle.runs.proofs.CensusOfRuns.{marks, census, gone_is_left, left_is_gone}
use Rattle.runs.proofs.WindowsBack.{two_back, two_back_clock, two_back_before, near_two_back}
use Rattle.runs.proofs.Past.{Informed, past_entered, past_left}

module _ {R : Type 0} (z : Run R) where
  -- a station right after its entry
  pub just_entered : (e p : ℕ) → Accepted z e (step.Enter p) → station z (suc e) p ≡ newcomer z.setup.first p
  just_entered e p ent = ap (λ s. s.stations p) (enters z e p ent).leads ∙ put_here (state z e).stations p (newcomer z.setup.first p)

  -- to enter is to ask to be let in
  pub entry_made : (e p : ℕ) → Accepted z e (step.Enter p) → AsksAt z e p entry
  entry_made e p ent =
      record {
        words = Enter p;
        said = enter_says z e p ent;
        request = eq-eqb p p refl;
        active = ap (λ (x : Station R Set). active x) (just_entered e p ent);
        waits = ap (λ (x : Station R Set). not x.joined) (just_entered e p ent);
      }

  -- whoever hears of it hears of it later, and soon
  pub entry_heard : (e p v q : ℕ) → Accepted z e (step.Enter p) → HearsAt z v q (Enter p) → (e < v) × (clock z v < clock z e + D z)
  entry_heard e p v q ent h =
      let m = request_made z v q p entry (Enter p) h (eq-eqb p p refl) in
      let same : m.place ≡ e = asked_once z m.place e p entry m.made (entry_made e p ent) in
      (subst (λ x. x < v) same m.before, subst (λ x. clock z v < clock z x + D z) same m.soon)

  -- q gave an answer at v, and at y told p its bound
  module _ {p i bound : ℕ} (set : BoundSet z i p bound) where
    abbrev q : ℕ
    q = set.q

    abbrev v : ℕ
    v = set.given_at

    abbrev y : ℕ
    y = set.set_at

    -- two windows before the answer
    abbrev pub told_mark : ℕ
    told_mark = two_back z v

    pub set_near : (last : ℕ) → y ≤ last → Near (marks z last) (D z) 3 (clock z v - 2 * D z) y
    set_near last l = near_two_back z last v y l (clock_on z v y (omega (arith, set.answer.later))) (omega (arith, set.answer.soon))

    -- who told it is active
    pub teller_active : active_at z (suc v) q ≡ true
    teller_active = hears_active z v q _ set.answer.asked

    told_mark_back : clock z told_mark ≤ clock z (suc v) - 2 * D z
    told_mark_back = omega (arith, two_back_clock z v, clock_on z v (suc v) (omega arith))

    -- those that the bound counts
    abbrev pub told : Set
    told = let k = add_known (station z y p).known (station z (suc v) q).known in only k.entered k.left

    told_entered : (r : ℕ) → ((station z y p).known.entered r || (station z (suc v) q).known.entered r) ≡ true → is_used (station z y r).life ≡ true
    told_entered r h =
        elim (cases_Bool ((station z y p).known.entered r)) [
          | inl k ↦ entered_true z y p r k
          | inr k ↦ (grown z r (suc v) y set.answer.later).used (entered_true z (suc v) q r (grind (arith, h, k)))
        ]

    told_left : (r : ℕ) → ((station z y p).known.left r || (station z (suc v) q).known.left r) ≡ true → gone (census z) y r ≡ true
    told_left r h =
        left_is_gone (station z y r).life
        (elim (cases_Bool ((station z y p).known.left r)) [
          | inl k ↦ left_true z y p r k
          | inr k ↦ (grown z r (suc v) y set.answer.later).left (left_true z (suc v) q r (grind (arith, h, k)))
        ])

    -- whoever was present and has not left is counted
    pub told_all : Informed z (suc v) q → Within most_stations (only (λ r. is_present (station z told_mark r).life) (gone (census z) y)) told
    told_all informed r l h =
        one (is_present (station z told_mark r).life) (gone (census z) y r) ((station z y p).known.entered r) ((station z (suc v) q).known.entered r) ((station z y p).known.left r || (station z (suc v) q).known.left r)
        (λ k. past_entered z (suc v) q told_mark told_mark_back informed set.joined r (present_used _ k)) (told_left r) h
      where
        one : (p g e e' l : Bool) → (p ≡ true → e' ≡ true) → (l ≡ true → g ≡ true) → (p && not g) ≡ true → ((e || e') && not l) ≡ true
        one p g e e' l a b c = grind (arith, a, b, c)

    -- whoever is counted has entered, and had not left
    pub told_around : Informed z (suc v) q → Around (census z) told_mark y told
    told_around informed =
        record {
          used = λ r _ h. of_entered ((station z y p).known.entered r || (station z (suc v) q).known.entered r) _ _ (told_entered r) h;
          not_gone = λ r _ h. not_left _ ((station z y p).known.left r) ((station z (suc v) q).known.left r) (gone (census z) told_mark r)
              (λ g. past_left z (suc v) q told_mark told_mark_back informed r (gone_is_left (station z told_mark r).life g)) h;
        }
      where
        of_entered : (e l u : Bool) → (e ≡ true → u ≡ true) → (e && not l) ≡ true → u ≡ true
        of_entered e l u a b = grind (arith, a, b)

        not_left : (e l l' g : Bool) → (g ≡ true → l' ≡ true) → (e && not (l || l')) ≡ true → not g ≡ true
        not_left e l l' g a b = grind (arith, a, b)

    -- p entered at e
    module _ (e : ℕ) (ent : Accepted z e (step.Enter p)) where
      pub told_after : e < v
      told_after = (entry_heard e p v q ent set.answer.asked).0

      pub told_soon : clock z v < clock z e + D z
      told_soon = (entry_heard e p v q ent set.answer.asked).1

      pub told_no_earlier : clock z e ≤ clock z v
      told_no_earlier = clock_on z e v (omega (arith, told_after))

      pub told_mark_before : told_mark < e
      told_mark_before = two_back_before z v e (omega (arith, told_soon)) (enters_late z e p ent)
