-- The quorum of a phase: what share of the members known it is, who is in it, and that the quorums of two phases, of which one
-- begins less than 2D ticks after the other, have a station in common. Rests on `Bases`, `Counted` and `CensusOfRuns`.
use Rattle.std.proofs.Common.{◌≡◌, ℕ, suc, ◌+◌, ◌-◌, ◌*◌, ◌<◌, ◌≤◌, Bool, true, false, sym, ap, ◌∙◌, subst, inl, inr, le_refl, arith}
use Rattle.std.proofs.lemmas.Bool.{cases_lt, cases_Bool, both_ways, and_parts, not_from_false}
use Rattle.counting.specs.Census.{Around, gone}
use Rattle.counting.specs.Limits.{Phase}
use Rattle.network.specs.Knowing.{most_stations}
use Rattle.runs.proofs.Positions.{Run, station, clock, active_at, D}
use Rattle.runs.proofs.Accepted.{ticks}
use Rattle.runs.proofs.Asked.{Reply, asked_once, request_made}
use Rattle.runs.proofs.Bases.{earlier, members, lasting_known}
use Rattle.runs.proofs.CensusOfRuns.{marks, census, quorums_meet, gone_is_left}
use Rattle.runs.proofs.Changes.{grown, active_used}
use Rattle.runs.proofs.Clocks.{ClockStep, rises, rests, clock_step, clock_on}
use Rattle.runs.proofs.Counted.{counted, counted_reply, phase_ends}
use Rattle.runs.proofs.Growing.{left_gone}
use Rattle.runs.proofs.Marks.{mark, mark_zero, mark_before}
use Rattle.runs.proofs.PhaseBeginnings.{BeginsPhase, base_stays}
use Rattle.runs.proofs.Requests.{Request, awaits}
use Rattle.runs.proofs.Start.{delay_some}

module _ {R : Type 0} (z : Run R) where
  -- the phase of request r, which p began at s, ends at step k
  pub record RunsTo (s p : ℕ) (r : Request) (k : ℕ) : Type 0 where
    pub begins : BeginsPhase z s p r
    pub later : s < k
    pub awaited : awaits (station z k p) r ≡ true
    pub over : awaits (station z (suc k) p) r ≡ false

  -- its quorum
  abbrev pub quorum : {s p k : ℕ} {r : Request} → RunsTo s p r k → ℕ → Bool
  quorum {s} {p} {k} {r} y = counted z p r (suc k)

  phase_of : (last s p k : ℕ) (r : Request) (y : RunsTo s p r k) → s ≤ last → Phase (marks z last) z.setup.choice (census z) s (members z s p r y.begins) (quorum y)
  phase_of last s p k r y l =
      let b = y.begins in
      let base = base_stays z p (suc s) k r b.phase y.later b.asked.waits y.awaited ∙ b.base in
      let ends = phase_ends z k p r b.phase y.awaited y.over in
      record {
        by_last = l;
        known = lasting_known z s p r b;
        share = omega (arith, ends.share, ap (λ n. z.setup.choice.beta * n) base);
      }

  -- a phase begins in no tick
  same_tick : (s p : ℕ) (r : Request) → BeginsPhase z s p r → clock z (suc s) ≡ clock z s
  same_tick s p r b = by (clock_step z s)
    where
      by : ClockStep z s → clock z (suc s) ≡ clock z s
      by (rises a e) = absurd (both_ways _ b.new (sym (ap (λ x. awaits (x.stations p) r) (ticks z s a).leads) ∙ b.asked.waits))
      by (rests e) = e

  -- whoever replied to a phase heard of it after it began, and was there as it began
  pub replied : (s p : ℕ) (r : Request) → BeginsPhase z s p r → (u q : ℕ) (y : Reply z u p q r) → (s < y.place) × (active_at z (suc s) q ≡ true)
  replied s p r b u q y =
      let m = request_made z y.place q p r y.question y.asked y.request in
      let e = asked_once z m.place s p r m.made b.asked in
      (omega (arith, e, m.before), subst (λ s. active_at z (suc s) q ≡ true) e m.there)

  module _ (w r : ℕ) (l : w ≤ r) (near : clock z r < clock z w + 2 * D z) where
    -- w is not before the mark two windows before r
    not_early : earlier z (2 * D z) r ≤ w
    not_early =
        elim (cases_lt (clock z r - 2 * D z) (clock z w)) [
          | inl k ↦ omega (arith, mark_before z (clock z r - 2 * D z) w k)
          | inr k ↦ let e : clock z r - 2 * D z ≡ 0 = omega arith in omega (arith, ap (mark z) e, mark_zero z)
        ]

    -- the quorum of a phase that began at w: in use right after r, and not gone two windows before
    around : (p i : ℕ) (a : Request) → BeginsPhase z w p a → Around (census z) (earlier z (2 * D z) r) (suc r) (counted z p a i)
    around p i a b =
        record {
          used = λ q _ h. let (u, ui, y, _) = counted_reply z p a i q h in (grown z q (suc w) (suc r) (omega arith)).used (active_used z q (suc w) (replied w p a b u q y).1);
          not_gone = λ q _ h. let (u, ui, y, _) = counted_reply z p a i q h in not_from_false _ (stays q y.place (omega (arith, not_early, (replied w p a b u q y).0)) y.asked.before);
        }
      where
        stays : (q v : ℕ) → earlier z (2 * D z) r ≤ v → active_at z v q ≡ true → gone (census z) (earlier z (2 * D z) r) q ≡ false
        stays q v k h =
            elim (cases_Bool (gone (census z) (earlier z (2 * D z) r) q)) [
              | inl g ↦ absurd (both_ways _ (left_gone _ ((grown z q (earlier z (2 * D z) r) v k).left (gone_is_left _ g))) (and_parts _ _ h).0)
              | inr g ↦ g
            ]

  -- two quorums meet where the second phase begins less than 2D ticks after the first
  pub quorums_share : (w p k r p' k' : ℕ) (a a' : Request) (x : RunsTo w p a k) (y : RunsTo r p' a' k') → w ≤ r → clock z r < clock z w + 2 * D z
      → (q : ℕ) × (q < most_stations) × (quorum x q ≡ true) × (quorum y q ≡ true)
  quorums_share w p k r p' k' a a' x y l near =
      quorums_meet z (suc r) w r (suc r) (members z w p a x.begins) (quorum x) (members z r p' a' y.begins) (quorum y)
      (phase_of (suc r) w p k a x (omega arith)) (phase_of (suc r) r p' k' a' y (omega arith)) (clock_on z w r l) (omega arith) (le_refl _) (same_tick r p' a' y.begins)
      (around w r l near p (suc k) a x.begins) (around r r (le_refl _) (omega (arith, delay_some z)) p' (suc k') a' y.begins)
