-- What the limits of a run give of its stations: over three windows someone stays, someone counted stays, those that stay are
-- enough to join and to end a phase, and two quorums have a station in common.
-- It rests on the growth over windows, on the counts of a census, and on the use of each of the five conditions.
use Rattle.std.proofs.Common.{ℕ, ◌+◌, ◌-◌, ◌*◌, ◌^◌, ◌≤◌, Bool, le_trans, le_refl, arith}
use Rattle.std.proofs.lemmas.Bool.{and_parts}
use Rattle.stations.specs.Members.{only}
use Rattle.stations.proofs.Counting.{how_many_mono}
use Rattle.settings.specs.declared.choice.Choice.{Choice}
use Rattle.settings.specs.Conditions.{P}
use Rattle.settings.specs.Admission.{Admitted}
use Rattle.settings.proofs.Facts.{d_low}
use Rattle.counting.specs.Census.{Census, both, Around, gone, active, lasting, number, present_number, crashed_number, entered_number, left_number}
use Rattle.counting.specs.Marks.{Marks, Near, back}
use Rattle.counting.specs.Windows.{Windows, Growth}
use Rattle.counting.specs.Conditions.{ThreeWindows, PhaseNumbers}
use Rattle.counting.specs.Limits.{Limits, Phase, SomeoneStays, SomeoneCountedStays, EnoughEcho, EnoughReply, QuorumsMeet, LimitsSuffice}
use Rattle.counting.proofs.Tests.{someone, meet}
use Rattle.counting.proofs.Census.{balance, entered_parts, left_parts, lasting_many, counted_many, known_many, known_few, members_many, around_all, around_within}
use Rattle.counting.proofs.Marks.{back_behind, back_rises, near_back, back_near}
use Rattle.counting.proofs.Growth.{growth, at_most, at_least, grown, shrunk}
use Rattle.counting.proofs.Conditions.{someone_lasts, someone_counted_lasts, echoes_suffice, replies_suffice, base_low, quorums_overlap}

module _ {last : ℕ} (m : Marks last) (c : Choice) (z : Census) (h : Admitted c) (l : Limits m c z) where
  -- the numbers of a census, as growth wants them
  abbrev windows : Windows m c
  windows =
      record {
        present = present_number z;
        entered = entered_number z;
        left = left_number z;
        balance = λ a b ab _. balance z a b ab;
        entered_parts = λ a e b ae eb _. omega (arith, entered_parts z a e b ae eb);
        left_parts = λ a e b ae eb _. omega (arith, left_parts z a e b ae eb);
        churn = l.churn;
      }

  pub growth_of : (i t b : ℕ) → 1 ≤ i → i ≤ 4 → Near m c.d i t b
      → Growth c i (present_number z (m.mark t)) (entered_number z (m.mark t) b) (left_number z (m.mark t) b) (present_number z b)
  growth_of = growth last m c h windows

  -- a set around a mark and a position counts at most what growth allows
  pub few_around : (i t b : ℕ) (f : ℕ → Bool) → 1 ≤ i → i ≤ 4 → Near m c.d i t b → Around z (m.mark t) b f
      → 100 ^ i * number z f ≤ P c ^ i * present_number z (m.mark t)
  few_around i t b f one four n x = at_most c i _ _ _ _ (growth_of i t b one four n) (number z f) (known_few z (m.mark t) b f x)

  three_windows : (t b : ℕ) → Near m c.d 3 t b
      → ThreeWindows c (present_number z (m.mark t)) (entered_number z (m.mark t) b) (left_number z (m.mark t) b) (present_number z b) (crashed_number z b)
  three_windows t b n =
      record {
        admitted = h;
        growth = growth_of 3 t b (omega arith) (omega arith) n;
        enough = l.enough (m.mark t) (le_trans n.after n.by_last);
        few_crashed = l.few_crashed b n.by_last;
      }

  pub someone_stays : SomeoneStays m c z
  someone_stays t b n =
      let a = m.mark t in
      let (q, k, e) = someone (lasting z a b) z.table (someone_lasts c _ _ _ _ _ (number z (lasting z a b)) (three_windows t b n) (lasting_many z a b n.after)) in
      let (there, here) = and_parts (z.present a q) (active z b q) e in
      (q, k, there, here)

  pub someone_counted_stays : SomeoneCountedStays m c z
  someone_counted_stays t b y known counted n n' all share x =
      let a = m.mark t in
      let stay = both counted (lasting z a b) in
      let low = at_least c 3 _ _ _ _ (growth_of 3 t y (omega arith) (omega arith) n') (number z known) (known_many z a y known all) in
      let (q, k, e) = someone stay z.table
      (someone_counted_lasts c _ _ _ _ _ (number z known) (number z counted) (number z stay) (three_windows t b n) low share (counted_many z a b counted x)) in
      let (f, g) = and_parts (counted q) (lasting z a b q) e in
      let (there, here) = and_parts (z.present a q) (active z b q) g in
      (q, k, f, there, here)

  pub enough_echo : EnoughEcho m c z
  enough_echo t b y known echoed n n' x heard =
      let stay = lasting z (m.mark t) b in
      echoes_suffice c _ _ _ _ _ (number z known) (number z stay) (number z echoed) (three_windows t b n)
      (few_around 3 t y known (omega arith) (omega arith) n' x) (lasting_many z (m.mark t) b n.after) (how_many_mono stay echoed z.table heard)

  pub enough_reply : EnoughReply m c z
  enough_reply t b y members replied n n' x heard =
      let stay = lasting z (m.mark t) b in
      replies_suffice c _ _ _ _ _ (number z members) (number z stay) (number z replied) (three_windows t b n)
      (few_around 2 t y members (omega arith) (omega arith) n' x) (lasting_many z (m.mark t) b n.after) (how_many_mono stay replied z.table heard)

  -- the marks two and four windows before a position
  abbrev two : ℕ → ℕ
  two r = back m c.d 2 r

  abbrev four : ℕ → ℕ
  four r = back m c.d 4 r

  phase_numbers : (r : ℕ) (members quorum : ℕ → Bool) → Phase m c z r members quorum
      → PhaseNumbers c (present_number z (four r)) (present_number z (two r)) (number z members) (number z quorum)
  phase_numbers r members quorum p =
      let behind = (back_behind m c.d (d_low c h) 2 r (omega arith) p.by_last).0 in
      let rises = back_rises m c.d (d_low c h) 2 4 r r (omega arith) (omega arith) p.by_last (le_refl _) in
      let cover = members_many z (four r) (two r) r members rises (λ q _. z.gone_on (two r) r q behind) p.known in
      let near = near_back m c.d (d_low c h) 0 4 r r (omega arith) (le_refl _) p.by_last (omega arith) in
      record {
        base_low = base_low c _ _ _ _ (present_number z (two r)) (number z members) (crashed_number z (two r))
            (growth_of 4 (m.clock r - 4 * c.d) r (omega arith) (omega arith) near) (l.few_crashed (two r) (le_trans behind p.by_last)) cover;
        share = p.share;
      }

  pub quorums_meet : QuorumsMeet m c z
  quorums_meet w r s members quorum members' quorum' pw pr wr soon sl same x x' =
      let rl = pr.by_last in
      let behind = (back_behind m c.d (d_low c h) 2 r (omega arith) rl).0 in
      let everyone = only (z.used s) (gone z (two r)) in
      let near = near_back m c.d (d_low c h) 0 2 r s (omega arith) (omega arith) sl (omega arith) in
      meet z.table quorum quorum' everyone (around_within z (two r) s quorum x) (around_within z (two r) s quorum' x')
      (quorums_overlap c _ _ _ _ _ _ _ _ (number z everyone) h (phase_numbers w members quorum pw) (phase_numbers r members' quorum' pr) (l.enough (two r) (le_trans behind rl))
      (grown c 2 _ _ _ _ (between 2 4 r (omega arith) (omega arith) (omega arith) rl (le_refl _) (omega arith)))
      (few_around 2 (m.clock r - 2 * c.d) s everyone (omega arith) (omega arith) near (around_all z (two r) s))
      (grown c 4 _ _ _ _ (between 4 4 w (omega arith) (omega arith) (omega arith) rl wr (omega arith)))
      (shrunk c 2 _ _ _ _ (between 2 2 w (omega arith) (omega arith) (omega arith) rl wr (omega arith))))
    where
      -- from a mark j windows before v to the one two windows before r
      between : (i j v : ℕ) → 1 ≤ i → i ≤ 4 → 2 ≤ j → r ≤ last → m.clock v ≤ m.clock r → m.clock r - 2 * c.d ≤ m.clock v - j * c.d + i * c.d
          → Growth c i (present_number z (back m c.d j v)) (entered_number z (back m c.d j v) (two r)) (left_number z (back m c.d j v) (two r)) (present_number z (two r))
      between i j v one most more rl vr close =
          growth_of i (m.clock v - j * c.d) (two r) one most (back_near m c.d (d_low c h) i 2 j v r (omega arith) more rl vr close)

pub limits_suffice : LimitsSuffice
limits_suffice last m c z h l = (someone_stays m c z h l, someone_counted_stays m c z h l, enough_echo m c z h l, enough_reply m c z h l, quorums_meet m c z h l)
