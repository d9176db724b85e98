-- Joins in time: a station that entered 2D ticks ago and is active has joined. By induction on the place of its entry: its
-- witness has joined, so its bound is set, and all that stay have answered, which is enough.
-- Rests on `Known`, `Settled`, `Counted` and `NewcomersBound`.
use Rattle.std.proofs.Common.{◌≡◌, ℕ, zero, suc, ◌+◌, ◌-◌, ◌*◌, ◌<◌, ◌≤◌, true, false, is_some, Some, sym, ap, subst, inl, inr, le_refl, arith}
use Rattle.std.proofs.lemmas.Bool.{cases_Bool, both_ways, and_parts, not_from_false}
use Rattle.stations.specs.Members.{how_many}
use Rattle.counting.specs.Census.{lasting}
use Rattle.network.specs.declared.step.Step.TheVariants as step
use Rattle.network.specs.Knowing.{most_stations}
use Rattle.runs.proofs.Positions.{Run, station, clock, active_at, D, Accepted}
use Rattle.runs.proofs.Growing.{present_used}
use Rattle.runs.proofs.Changes.{grown, active_before, active_used}
use Rattle.runs.proofs.Clocks.{clock_on, sooner}
use Rattle.runs.proofs.Travel.{answers}
use Rattle.runs.proofs.Settled.{Witness, has_witness}
use Rattle.runs.proofs.Requests.{entry}
use Rattle.runs.proofs.SmallNumbers.{bound_of}
use Rattle.runs.proofs.Counted.{counted, counted_on, answer_counted, still_short}
use Rattle.runs.proofs.BoundSet.{BoundSet, bound_set, sets_bound}
use Rattle.runs.proofs.Origins.{founder_joined}
use Rattle.runs.proofs.CensusOfRuns.{census, enough_echo}
use Rattle.runs.proofs.WindowsBack.{near_two_back}
use Rattle.runs.proofs.NewcomersBound.{told_mark, told_after, told_soon, told_no_earlier, told_mark_before, set_near, teller_active, told, told_around}
use Rattle.runs.proofs.Known.{joined_holds}

module _ {R : Type 0} (z : Run R) where
  -- whoever entered before position n, 2D ticks ago, and is active has joined
  abbrev JoinedBefore : ℕ → Type 0
  JoinedBefore n = (e p i : ℕ) → e < n → Accepted z e (step.Enter p) → active_at z i p ≡ true → clock z e + 2 * D z ≤ clock z i → (station z i p).joined ≡ true

  -- p entered at e, is active 2D ticks later, and has not joined
  module _ (e p i : ℕ) (ent : Accepted z e (step.Enter p)) (active : active_at z i p ≡ true) (late : clock z e + 2 * D z ≤ clock z i) (out : (station z i p).joined ≡ false) where
    not_joined : (u : ℕ) → u ≤ i → (station z u p).joined ≡ false
    not_joined u l = elim (cases_Bool (station z u p).joined) [ inl h ↦ absurd (both_ways _ out ((grown z p u i l).joined h)) | inr h ↦ h ]

    -- its witness has joined, so its bound is set
    has_bound : JoinedBefore e → (w : Witness z e p i) → (b : ℕ) × ((station z i p).bound ≡ Some b)
    has_bound before w =
        let ans = w.answered.answer in
        let v = w.answered.asked_at in
        let u = w.answered.given_at in
        let on = clock_on z e v (omega (arith, w.answered.after)) in
        let joined : (station z v w.q).joined ≡ true =
        elim w.old [
          | inl s ↦ (grown z w.q 0 v (omega arith)).joined (founder_joined z w.q s)
          | inr (f, l, t, o) ↦ before f w.q v l t ans.asked.before (omega arith)
        ] in
        sets_bound z p v w.q u i ans ((grown z w.q v (suc v) (omega arith)).joined joined) (not_joined u (omega (arith, w.answered.before))) w.answered.before

    module _ (b bound : ℕ) (window : clock z b ≡ clock z e + D z) (set : BoundSet z i p bound) where
      abbrev v : ℕ
      v = set.given_at

      v_before : v < b
      v_before = sooner z v b (omega (arith, told_soon z set e ent))

      -- who was there, and is there D ticks after the entry, has been counted
      all_counted : (q : ℕ) → lasting (census z) (told_mark z set) b q ≡ true → counted z p entry i q ≡ true
      all_counted q h =
          let (there, stays) = and_parts _ (active_at z b q) h in
          let then = active_before z q (suc e) b (omega (arith, v_before, told_after z set e ent)) ((grown z q (told_mark z set) (suc e) (omega (arith, told_mark_before z set e ent))).used (present_used _ there)) stays in
          let ans = answers z e p q b i ent then window stays active late in
          counted_on z p entry (suc ans.given_at) i q ans.before (answer_counted z p ans.asked_at q ans.given_at ans.answer (not_joined ans.given_at (omega (arith, ans.before))))

      -- condition 13: so those counted have come to the share
      share_counted : z.setup.choice.gamma * bound ≤ 100 * how_many (counted z p entry i) most_stations
      share_counted =
          let last = set.set_at + b in
          subst (λ n. z.setup.choice.gamma * n ≤ 100 * how_many (counted z p entry i) most_stations) (sym set.is)
          (enough_echo z last (clock z v - 2 * D z) b set.set_at (told z set) (counted z p entry i)
          (near_two_back z last v b (omega arith) (clock_on z v b (omega (arith, v_before))) (omega (arith, told_no_earlier z set e ent)))
          (set_near z set last (omega arith)) (told_around z set (λ x F. joined_holds z set.q (suc v) x F set.joined (teller_active z set)))
          (λ q _. all_counted q))

  joined_before : (n : ℕ) → JoinedBefore n
  joined_before zero e p i l ent active late = absurd (omega arith)
  joined_before (suc n) e p i l ent active late =
      elim (cases_Bool (station z i p).joined) [
        | inl h ↦ h
        | inr out ↦
            let w = has_witness z e p i ent active late in
            let (bound, is) = has_bound e p i ent active late out (λ e' p' i' k. joined_before n e' p' i' (omega arith)) w in
            let enough = share_counted e p i ent active late out w.b bound w.at_b (bound_set z i p bound is) in
            let short = still_short z p entry i (active_used z p i active) (not_from_false _ out) (ap is_some is) in
            absurd (omega (arith, enough, short, ap (λ o. z.setup.choice.gamma * bound_of o) is))
      ]

  pub joined_in_time : (e p i : ℕ) → Accepted z e (step.Enter p) → active_at z i p ≡ true → clock z e + 2 * D z ≤ clock z i → (station z i p).joined ≡ true
  joined_in_time e p i = joined_before (suc e) e p i (le_refl _)
