-- The base of a phase: the members that its station knows as it begins. They are in use, and none had left two windows before;
-- and whoever was there four windows before and was active two windows before is one of them, unless it has left since.
-- Rests on `PhaseBeginnings`, `Known`, `Joins`, `Origins`, `Soundness` and `CensusOfRuns`.
use Rattle.std.proofs.Common.{◌≡◌, ℕ, ◌+◌, ◌-◌, ◌*◌, ◌<◌, ◌≤◌, true, false, ◌⊎◌, sym, ap, ◌∙◌, inl, inr, arith}
use Rattle.std.proofs.lemmas.Bool.{cases_lt, cases_Bool, both_ways, and_parts, and_from, not-true, not_from_false}
use Rattle.stations.specs.Members.{only}
use Rattle.counting.specs.Census.{Within, Around, gone, lasting}
use Rattle.network.specs.declared.step.Step.TheVariants as step
use Rattle.network.specs.Keeping.{is_used}
use Rattle.network.specs.Knowing.{Set, most_stations}
use Rattle.runs.proofs.Positions.{Run, station, clock, active_at, D, Accepted}
use Rattle.runs.proofs.CensusOfRuns.{census, gone_is_left, left_is_gone}
use Rattle.runs.proofs.Changes.{grown, came, went}
use Rattle.runs.proofs.Clocks.{clock_start, clock_on, sooner, enters_late, leaves_late}
use Rattle.runs.proofs.Facts.{joined, left, holds}
use Rattle.runs.proofs.Growing.{present_used}
use Rattle.runs.proofs.Joins.{joined_in_time}
use Rattle.runs.proofs.Known.{joined_holds}
use Rattle.runs.proofs.Marks.{mark, mark_zero, mark_before, mark_clock}
use Rattle.runs.proofs.Members.{joined_used}
use Rattle.runs.proofs.Origins.{leave_announced, joined_from, founder_joined, initial_joined, initial_known}
use Rattle.runs.proofs.PhaseBeginnings.{BeginsPhase}
use Rattle.runs.proofs.Requests.{Request}
use Rattle.runs.proofs.Soundness.{joined_true, left_true}
use Rattle.runs.proofs.Start.{delay_some}

module _ {R : Type 0} (z : Run R) where
  -- the mark k ticks before a position, or the start, is not after it, and has that clock
  abbrev pub earlier : ℕ → ℕ → ℕ
  earlier k s = mark z (clock z s - k)

  pub earlier_before : (k s : ℕ) → 1 ≤ k → earlier k s ≤ s
  earlier_before k s l =
      elim (cases_lt 0 (clock z s)) [
        | inl h ↦ omega (arith, mark_before z (clock z s - k) s (omega arith))
        | inr h ↦ let e : clock z s - k ≡ 0 = omega arith in omega (arith, ap (mark z) e, mark_zero z)
      ]

  pub earlier_clock : (k s : ℕ) → 1 ≤ k → clock z (earlier k s) ≡ clock z s - k
  earlier_clock k s l =
      elim (cases_lt 0 (clock z s)) [
        | inl h ↦ mark_clock z (clock z s - k) s (omega arith)
        | inr h ↦ let e : clock z s - k ≡ 0 = omega arith in ap (λ t. clock z (mark z t)) e ∙ ap (clock z) (mark_zero z) ∙ clock_start z ∙ sym e
      ]

  -- who was in use so much earlier is a founder, or entered so long ago
  pub old : (k s q : ℕ) → 1 ≤ k → is_used (station z (earlier k s) q).life ≡ true
      → (is_used (station z 0 q).life ≡ true) ⊎ ((e : ℕ) × (e < s) × Accepted z e (step.Enter q) × (clock z e + k ≤ clock z s))
  old k s q l u =
      elim (came z q (earlier k s) u) [
        | inl h ↦ inl h
        | inr (e, ea, a) ↦
            let late = enters_late z e q a in
            let ce = clock_on z e (earlier k s) (omega (arith, ea)) in
            let c = earlier_clock k s l in
            inr (e, sooner z e s (omega arith), a, omega arith)
      ]

  module _ (s p : ℕ) (r : Request) (b : BeginsPhase z s p r) where
    -- the members that p knows
    abbrev pub members : Set
    members = only (station z s p).known.joined (station z s p).known.left

    two_some : 1 ≤ 2 * D z
    two_some = omega (arith, delay_some z)

    four_some : 1 ≤ 4 * D z
    four_some = omega (arith, delay_some z)

    -- who had left two windows before is known to have left
    left_known : (q : ℕ) → gone (census z) (earlier (2 * D z) s) q ≡ true → (station z s p).known.left q ≡ true
    unfolding holds
    left_known q g =
        let (e, ea, a) = went z q (earlier (2 * D z) s) (gone_is_left _ g) in
        let late = leaves_late z e q a in
        let ce = clock_on z e (earlier (2 * D z) s) (omega (arith, ea)) in
        let c = earlier_clock (2 * D z) s two_some in
        joined_holds z p s e (left q) b.joined b.active (leave_announced z e q a) (omega arith)

    pub members_around : Around (census z) (earlier (2 * D z) s) s members
    members_around =
        record {
          used = λ q _ h. joined_used z s q (joined_true z s p q (and_parts _ _ h).0);
          not_gone = λ q _ h.
              elim (cases_Bool (gone (census z) (earlier (2 * D z) s) q))
              [ inl g ↦ absurd (both_ways _ (not-true _ (and_parts _ _ h).1) (left_known q g)) | inr g ↦ not_from_false _ g ];
        }

    -- who had joined as of two windows before is known to have joined
    joined_known : (q : ℕ) → (station z (earlier (2 * D z) s) q).joined ≡ true → (station z s p).known.joined q ≡ true
    unfolding holds
    joined_known q j =
        elim (joined_from z (earlier (2 * D z) s) q j) [
          | inl h ↦ initial_known z s p (joined q) (initial_joined z q h) b.joined
          | inr (x, xa, a) ↦
              elim (cases_lt 0 (clock z s - 2 * D z)) [
                | inl k ↦
                    let cx = clock_on z x (earlier (2 * D z) s) (omega (arith, xa)) in
                    let c = earlier_clock (2 * D z) s two_some in
                    joined_holds z p s x (joined q) b.joined b.active a (omega arith)
                | inr k ↦ let e : clock z s - 2 * D z ≡ 0 = omega arith in absurd (omega (arith, xa, ap (mark z) e, mark_zero z))
              ]
        ]

    -- who was there four windows before and active two windows before had joined by then
    had_joined : (q : ℕ) → is_used (station z (earlier (4 * D z) s) q).life ≡ true → active_at z (earlier (2 * D z) s) q ≡ true → (station z (earlier (2 * D z) s) q).joined ≡ true
    had_joined q u v =
        elim (old (4 * D z) s q four_some u) [
          | inl h ↦ (grown z q 0 (earlier (2 * D z) s) (omega arith)).joined (founder_joined z q h)
          | inr (e, es, a, c) ↦ joined_in_time z e q (earlier (2 * D z) s) a v (omega (arith, c, earlier_clock (2 * D z) s two_some))
        ]

    pub lasting_known : Within most_stations (only (lasting (census z) (earlier (4 * D z) s) (earlier (2 * D z) s)) (gone (census z) s)) members
    lasting_known q _ h =
        let (l, g) = and_parts _ _ h in
        let (u, v) = and_parts _ _ l in
        let stays : (station z s p).known.left q ≡ false =
        elim (cases_Bool ((station z s p).known.left q)) [ inl k ↦ absurd (both_ways _ (not-true _ g) (left_is_gone _ (left_true z s p q k))) | inr k ↦ k ] in
        and_from _ _ (joined_known q (had_joined q (present_used _ u) v)) (not_from_false _ stays)
