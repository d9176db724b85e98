-- A station that has joined holds every fact that was announced 2D ticks ago. By induction on the place where it joined, for
-- all facts at once: among those that a newcomer counted, one was there 2D ticks before its bound was told, and still is.
-- Rests on `Settled`, `Counted`, `NewcomersBound` and `WindowsBack`.
use Rattle.std.proofs.Common.{◌≡◌, ℕ, zero, suc, ◌+◌, ◌-◌, ◌*◌, ◌<◌, ◌≤◌, true, false, not, ap, subst, inl, inr, le_trans, le_refl, arith}
use Rattle.std.proofs.lemmas.Bool.{cases_Bool, cases_lt, both_ways, and_parts, not_from_false}
use Rattle.stations.specs.Members.{how_many}
use Rattle.counting.specs.Census.{Around, gone}
use Rattle.network.specs.declared.step.Step.TheVariants as step
use Rattle.network.specs.Keeping.{is_used, is_present}
use Rattle.network.specs.Knowing.{most_stations}
use Rattle.runs.proofs.Positions.{Run, station, clock, active_at, D, Accepted}
use Rattle.runs.proofs.Growing.{left_gone, present_used}
use Rattle.runs.proofs.Start.{delay_some}
use Rattle.runs.proofs.Changes.{grown, active_before, active_used, came}
use Rattle.runs.proofs.Clocks.{clock_on, sooner, enters_late}
use Rattle.runs.proofs.Members.{joined_used}
use Rattle.runs.proofs.Facts.{Fact, holds}
use Rattle.runs.proofs.Travel.{Announced, direct, relay, answer_tells}
use Rattle.runs.proofs.Settled.{settled}
use Rattle.runs.proofs.Requests.{entry}
use Rattle.runs.proofs.Counted.{counted, counted_answer, joins_with}
use Rattle.runs.proofs.BoundSet.{BoundSet, bound_set}
use Rattle.runs.proofs.CensusOfRuns.{census, gone_is_left, counted_stays}
use Rattle.runs.proofs.WindowsBack.{two_back_clock, near_two_back, WindowEnd, window_end}
use Rattle.runs.proofs.Past.{Informed}
use Rattle.runs.proofs.NewcomersBound.{entry_heard, told_mark, told_no_earlier, told_mark_before, set_near, teller_active, told, told_all}

module _ {R : Type 0} (z : Run R) where
  -- whoever had joined before position k is informed, for as long as it is active
  abbrev InformedBefore : ℕ → Type 0
  InformedBefore k = (n p i : ℕ) → n < k → (station z n p).joined ≡ true → n ≤ i → active_at z i p ≡ true → Informed z i p

  -- p, which entered at e, joins at step m, and set its bound by an answer that was given at v
  module _ (k m p i e bound : ℕ) (before : InformedBefore k) (mk : m < k) (mi : m < i) (ent : Accepted z e (step.Enter p)) (set : BoundSet z (suc m) p bound) where
    abbrev v : ℕ
    v = set.given_at

    abbrev a : ℕ
    a = told_mark z set

    teller_informed : Informed z (suc v) set.q
    teller_informed = before (suc v) set.q (suc v) (omega (arith, set.answer.later, set.before)) set.joined (le_refl _) (teller_active z set)

    -- whoever is counted was in use by the end of the window, and had not left two windows before
    counted_around : (b : ℕ) → WindowEnd z v i b → Around (census z) a b (counted z p entry (suc m))
    counted_around b end = record { used = λ q _ h. used_by q h; not_gone = λ q _ h. not_gone q h }
      where
        used_by : (q : ℕ) → counted z p entry (suc m) q ≡ true → is_used (station z b q).life ≡ true
        used_by q h =
            let (w, u, l, ans) = counted_answer z p (suc m) q h in
            let soon = (entry_heard z e p w q ent ans.asked).1 in
            let wb : w < b =
            elim end.end [ inl s ↦ omega (arith, ans.later) | inr s ↦ sooner z w b (omega (arith, told_no_earlier z set e ent)) ] in
            (grown z q w b (omega arith)).used (active_used z q w ans.asked.before)

        not_gone : (q : ℕ) → counted z p entry (suc m) q ≡ true → not (gone (census z) a q) ≡ true
        not_gone q h =
            let (w, u, l, ans) = counted_answer z p (suc m) q h in
            let early = (entry_heard z e p w q ent ans.asked).0 in
            elim (cases_Bool (gone (census z) a q)) [
              | inl g ↦ absurd (both_ways _ (left_gone _ ((grown z q a w (omega (arith, told_mark_before z set e ent))).left (gone_is_left (station z a q).life g))) (and_parts _ _ ans.asked.before).0)
              | inr g ↦ not_from_false _ g
            ]

    -- condition 12: one who was counted was there, and is there at the end of the window
    someone_counted : (b : ℕ) → WindowEnd z v i b → z.setup.choice.gamma * bound ≤ 100 * how_many (counted z p entry (suc m)) most_stations
        → (q : ℕ) × (q < most_stations) × (counted z p entry (suc m) q ≡ true) × (is_present (station z a q).life ≡ true) × (active_at z b q ≡ true)
    someone_counted b end share =
        counted_stays z i (clock z v - 2 * D z) b set.set_at (told z set) (counted z p entry (suc m))
        (near_two_back z i v b end.inside (clock_on z v b (omega (arith, end.after))) end.soon)
        (set_near z set i (omega (arith, set.before))) (told_all z set teller_informed)
        (subst (λ n. z.setup.choice.gamma * n ≤ 100 * how_many (counted z p entry (suc m)) most_stations) set.is share)
        (counted_around b end)

    -- what was announced before the entry, and 2D ticks before now
    module _ (x : ℕ) (F : Fact) (active : active_at z i p ≡ true) (an : Announced z x F) (late : clock z x + 2 * D z ≤ clock z i) (short : clock z i < clock z e + 2 * D z) where
      -- who told the bound told it, if it was announced 2D ticks before that
      told_by_teller : clock z x + 2 * D z ≤ clock z v → holds (station z i p) F ≡ true
      told_by_teller l =
          answer_tells z p v set.q set.set_at i F set.answer (omega (arith, set.before)) (teller_informed x F an (le_trans l (clock_on z v (suc v) (omega arith))))

      -- who was in use at a, and not right after the announcement, makes that long ago
      long_ago : (q : ℕ) → is_used (station z a q).life ≡ true → is_used (station z (suc x) q).life ≡ false → clock z x + 2 * D z ≤ clock z v
      long_ago q here then =
          let xa : x < a = elim (cases_lt x a) [ inl l ↦ l | inr l ↦ absurd (both_ways _ then ((grown z q a (suc x) (omega arith)).used here)) ] in
          elim (came z q a here) [
            | inl s ↦ absurd (both_ways _ then ((grown z q 0 (suc x) (omega arith)).used s))
            | inr (f, l, t) ↦ omega (arith, clock_on z x a (omega arith), clock_on z f a (omega arith), enters_late z f q t, two_back_clock z v)
          ]

      told_by_one : (b : ℕ) → WindowEnd z v i b → (q : ℕ) → counted z p entry (suc m) q ≡ true → is_present (station z a q).life ≡ true → active_at z b q ≡ true → holds (station z i p) F ≡ true
      told_by_one b end q h there stays =
          let (w, u, l, ans) = counted_answer z p (suc m) q h in
          let ew = (entry_heard z e p w q ent ans.asked).0 in
          let early : clock z x + D z ≤ clock z b =
          elim end.end [ inl s ↦ omega (arith, ap (clock z) s) | inr s ↦ omega (arith, told_no_earlier z set e ent) ] in
          let xb : x < b = sooner z x b (omega (arith, delay_some z)) in
          elim (cases_Bool (is_used (station z (suc x) q).life)) [
            | inl used ↦ relay z x e p w q u b i F an ent ew ans (omega arith) (active_before z q (suc x) b xb used stays) stays early active late
            | inr unused ↦ told_by_teller (long_ago q (present_used _ there) unused)
          ]

      newcomer_holds : z.setup.choice.gamma * bound ≤ 100 * how_many (counted z p entry (suc m)) most_stations → holds (station z i p) F ≡ true
      newcomer_holds share =
          let (b, end) = window_end z v i (omega (arith, set.before, set.answer.later)) in
          let (q, _, h, there, stays) = someone_counted b end share in
          told_by_one b end q h there stays

  -- a founder that is active now was so at every announcement
  founder_informed : (p i : ℕ) → is_used (station z 0 p).life ≡ true → active_at z i p ≡ true → Informed z i p
  founder_informed p i u active x F an late =
      let xi : x < i = sooner z x i (omega (arith, delay_some z)) in
      direct z x p i F an (active_before z p (suc x) i xi ((grown z p 0 (suc x) (omega arith)).used u) active) active (omega arith)

  joiner_informed : (k m p i : ℕ) → InformedBefore k → m < k → (station z m p).joined ≡ false → (station z (suc m) p).joined ≡ true → m < i → active_at z i p ≡ true → Informed z i p
  joiner_informed k m p i before mk out now mi active x F an late =
      elim (came z p (suc m) (joined_used z (suc m) p now)) [
        | inl s ↦ founder_informed p i s active x F an late
        | inr (e, l, ent) ↦ elim (cases_lt (clock z i) (clock z e + 2 * D z)) [
          | inr old ↦ settled z e p i x F ent active old an (omega arith)
          | inl short ↦ let j = joins_with z m p out now in newcomer_holds k m p i e j.bound before mk mi ent (bound_set z (suc m) p j.bound j.is) x F active an late short j.share
        ]
      ]

  informed_before : (k : ℕ) → InformedBefore k
  informed_before zero n p i nk j ni active = absurd (omega arith)
  informed_before (suc k) zero p i nk j ni active = founder_informed p i (joined_used z 0 p j) active
  informed_before (suc k) (suc m) p i nk j ni active =
      elim (cases_Bool (station z m p).joined) [
        | inl h ↦ informed_before k m p i (omega arith) h (omega arith) active
        | inr h ↦ joiner_informed k m p i (informed_before k) (omega arith) h j ni active
      ]

  pub joined_holds : (p i x : ℕ) (F : Fact) → (station z i p).joined ≡ true → active_at z i p ≡ true → Announced z x F → clock z x + 2 * D z ≤ clock z i → holds (station z i p) F ≡ true
  joined_holds p i x F j active = informed_before (suc i) i p i (le_refl _) j (le_refl _) active x F
