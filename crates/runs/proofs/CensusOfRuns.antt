-- A run keeps the limits of the churn arithmetic: its marks, its census and its limits, and what the five conditions then give.
-- Rests on `Marks`, `Movement`, `Bounds`, `BookOverRuns` and on the crate `counting`.
use Rattle.std.proofs.Common.{◌≡◌, ℕ, ◌+◌, ◌*◌, ◌≤◌, true, not, ◌&&◌, le_refl, arith}
use Rattle.stations.proofs.Counting.{how_many_same}
use Rattle.counting.specs.Census.{Census, left_number}
use Rattle.counting.specs.Limits.{Limits, SomeoneStays, SomeoneCountedStays, EnoughEcho, EnoughReply, QuorumsMeet}
use Rattle.counting.specs.Marks.{Marks}
use Rattle.counting.proofs.Limits.{limits_suffice}
use Rattle.network.specs.declared.station.Life.{Life}
use Rattle.network.specs.Keeping.{is_used, is_present}
use Rattle.network.specs.Knowing.{most_stations}
use Rattle.runs.proofs.Positions.{Run, station, clock, active_at, D}
use Rattle.runs.proofs.Changes.{grown}
use Rattle.runs.proofs.Clocks.{clock_start}
use Rattle.runs.proofs.Growing.{has_left, present_used}
use Rattle.runs.proofs.Marks.{mark, mark_zero, mark_before, mark_clock, mark_order}
use Rattle.runs.proofs.Movement.{Lv}
use Rattle.runs.proofs.Bounds.{sound_size}
use Rattle.runs.proofs.BookOverRuns.{churn}
use Rattle.runs.proofs.Start.{settings_met}

-- who was used and is not present has left
pub gone_is_left : (l : Life) → (is_used l && not (is_present l)) ≡ true → has_left l ≡ true
gone_is_left l h = grind arith

pub left_is_gone : (l : Life) → has_left l ≡ true → (is_used l && not (is_present l)) ≡ true
left_is_gone l h = grind arith

module _ {R : Type 0} (z : Run R) where
  -- its clock and its marks, up to any position
  abbrev pub marks : (last : ℕ) → Marks last
  marks last = record {
    clock = clock z;
    mark = mark z;
    clock_start = clock_start z;
    mark_start = mark_zero z;
    mark_behind = λ t b _ l. omega (arith, mark_before z t b l);
    mark_clock = λ t b _ l. omega (arith, mark_clock z t b l);
    marks_rise = λ t u b _ l k. mark_order z t u b l k;
  }

  -- who is in use, present and crashed at each position
  abbrev pub census : Census
  census = record {
    table = most_stations;
    used = λ a q. is_used (station z a q).life;
    present = λ a q. is_present (station z a q).life;
    crashed = λ a q. (station z a q).crashed;
    present_used = λ a q h. present_used (station z a q).life h;
    used_on = λ a b q l h. (grown z q a b l).used h;
    gone_on = λ a b q l h. left_is_gone (station z b q).life ((grown z q a b l).left (gone_is_left (station z a q).life h));
  }

  left_is : (a b : ℕ) → left_number census a b ≡ Lv z a b
  left_is a b = how_many_same _ _ most_stations (λ q _. one (station z a q).life (station z b q).life)
    where
      one : (l m : Life) → ((is_used m && not (is_present m)) && not (is_used l && not (is_present l))) ≡ (has_left m && not (has_left l))
      one l m = grind arith

  pub limits : (last : ℕ) → Limits (marks last) z.setup.choice census
  limits last =
      record {
        churn = λ t b n. omega (arith, left_is (mark z t) b, churn z t b n.after (omega (arith, n.soon)));
        enough = λ b _. (sound_size z b).enough;
        few_crashed = λ b _. (sound_size z b).few_crashed;
      }

  -- someone who was present stays active over three windows
  pub stays : (last : ℕ) → SomeoneStays (marks last) z.setup.choice census
  stays last = (limits_suffice last (marks last) z.setup.choice census (settings_met z) (limits last)).0

  -- so does someone who was counted
  pub counted_stays : (last : ℕ) → SomeoneCountedStays (marks last) z.setup.choice census
  counted_stays last = (limits_suffice last (marks last) z.setup.choice census (settings_met z) (limits last)).1

  -- those who stay are enough to let a station in
  pub enough_echo : (last : ℕ) → EnoughEcho (marks last) z.setup.choice census
  enough_echo last = (limits_suffice last (marks last) z.setup.choice census (settings_met z) (limits last)).2

  -- and to end a phase
  pub enough_reply : (last : ℕ) → EnoughReply (marks last) z.setup.choice census
  enough_reply last = (limits_suffice last (marks last) z.setup.choice census (settings_met z) (limits last)).3

  -- two quorums meet
  pub quorums_meet : (last : ℕ) → QuorumsMeet (marks last) z.setup.choice census
  quorums_meet last = (limits_suffice last (marks last) z.setup.choice census (settings_met z) (limits last)).4

  -- someone who was present where a tick ended is active three windows later
  pub someone_stays : (t b : ℕ) → mark z t ≤ b → clock z b ≤ t + 3 * D z → (q : ℕ) × (is_present (station z (mark z t) q).life ≡ true) × (active_at z b q ≡ true)
  someone_stays t b l soon =
      let (q, _, there, here) = stays b t b (record { after = l; by_last = le_refl _; soon = soon }) in
      (q, there, here)
