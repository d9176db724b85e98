-- Ends in time: a phase whose station is active 2D ticks after it began has ended, and so an operation after 4D ticks.
-- Rests on `Bases`, `Counted` and `Ranks`.
use Rattle.std.proofs.Common.{◌≡◌, ℕ, suc, ◌+◌, ◌-◌, ◌*◌, ◌<◌, ◌≤◌, true, false, refl, ap, ◌∙◌, inl, inr, arith}
use Rattle.std.proofs.lemmas.Bool.{cases_lt, cases_Bool, both_ways, and_parts, and_from, eq-eqb}
use Rattle.settings.specs.declared.choice.Choice.{Choice}
use Rattle.counting.specs.Census.{Within, lasting}
use Rattle.counting.specs.Marks.{Near}
use Rattle.network.specs.declared.operation.Task.{Task}
use Rattle.network.specs.declared.station.Station.{Station}
use Rattle.network.specs.Keeping.{is_used, tag_of}
use Rattle.network.specs.Knowing.{Set, most_stations}
use Rattle.network.specs.Saying.{to_only}
use Rattle.runs.proofs.Positions.{Run, station, clock, active_at, D, Accepted}
use Rattle.runs.proofs.Accepted.{step_of}
use Rattle.runs.proofs.Bases.{earlier, earlier_before, old, members, members_around}
use Rattle.runs.proofs.CensusOfRuns.{marks, census, enough_reply}
use Rattle.runs.proofs.Changes.{grown, active_before, active_used}
use Rattle.runs.proofs.Clocks.{clock_on, sooner, comes_by}
use Rattle.runs.proofs.Counted.{counted, counted_on, reply_counted, still_short}
use Rattle.runs.proofs.Growing.{present_used}
use Rattle.runs.proofs.Hearings.{all_hear, hearing_says, letter_heard}
use Rattle.runs.proofs.Joins.{joined_in_time}
use Rattle.runs.proofs.Origins.{founder_joined}
use Rattle.runs.proofs.PhaseBeginnings.{BeginsPhase, begins_one, turned_to_two, awaits_between, base_stays, reply_said}
use Rattle.runs.proofs.Ranks.{rank, rank_on, rank_query, query_rank, rank_update, update_rank}
use Rattle.runs.proofs.Requests.{Request, query, update, is_entry, awaits, is_set, goal}
use Rattle.runs.proofs.SmallNumbers.{base_of}
use Rattle.runs.proofs.Start.{delay_some}

module _ {R : Type 0} where
  -- a phase has its base
  phase_set : (x : Station R Set) (r : Request) → is_entry r ≡ false → is_set x r ≡ true
  phase_set x r n = grind arith

  phase_goal : (c : Choice) (x : Station R Set) (r : Request) → is_entry r ≡ false → goal c x r ≡ c.beta * base_of x.operation
  phase_goal c x r n = grind arith

module _ {R : Type 0} (z : Run R) where
  -- p began a phase at s, and f is a position D ticks later; p is still active at j, 2D ticks later, and still awaits replies
  module _ (s p j f : ℕ) (r : Request) (b : BeginsPhase z s p r) (v : active_at z j p ≡ true) (late : clock z s + 2 * D z ≤ clock z j) (f≤j : f ≤ j) (at_f : clock z f ≡ clock z s + D z) (w : awaits (station z j p) r ≡ true) where
    abbrev a : ℕ
    a = earlier z (2 * D z) s

    s<f : s < f
    s<f = sooner z s f (omega (arith, delay_some z, at_f))

    s<j : s < j
    s<j = sooner z s j (omega (arith, delay_some z))

    before : a ≤ s
    before = earlier_before z (2 * D z) s (omega (arith, delay_some z))

    -- whoever was there two windows before is in use, and has joined, from then on
    there : (q : ℕ) → is_used (station z a q).life ≡ true → is_used (station z (suc s) q).life ≡ true
    there q u = (grown z q a (suc s) (omega (arith, before))).used u

    member : (q k : ℕ) → is_used (station z a q).life ≡ true → s ≤ k → active_at z k q ≡ true → (station z k q).joined ≡ true
    member q k u l h =
        elim (old z (2 * D z) s q (omega (arith, delay_some z)) u) [
          | inl i ↦ (grown z q 0 k (omega arith)).joined (founder_joined z q i)
          | inr (e, es, i, c) ↦ joined_in_time z e q k i h (omega (arith, c, clock_on z s k l))
        ]

    -- who stays until D ticks after has replied, and is counted
    replied : Within most_stations (lasting (census z) a f) (counted z p r j)
    replied q _ h =
        let (u, vf) = and_parts _ _ h in
        let ua = present_used _ u in
        let hear = all_hear z s p b.asked.words b.asked.said q f (active_before z q (suc s) f s<f (there q ua) vf) s<f vf (omega (arith, at_f)) in
        let k = hear.place in
        let joined = (grown z q k (suc k) (omega arith)).joined (member q k ua (omega (arith, hear.after)) hear.hears.before) in
        let (m, among, reply) = reply_said q b.asked.words (station z k q) (station z (suc k) q) p r b.phase b.asked.request joined in
        let k<j = sooner z k j (omega (arith, hear.soon)) in
        let vp = active_before z p (suc k) j k<j ((grown z p s (suc k) (omega (arith, hear.after))).used (active_used z p s b.active)) v in
        let to_p = and_from _ _ (eq-eqb p p refl) vp in
        let back = letter_heard z k q (to_only p m) (hearing_says z k q b.asked.words (to_only p m) hear.hears among) p j to_p k<j v (omega (arith, hear.soon)) in
        let i = back.place in
        let wi = awaits_between z p (suc s) i j r b.phase (omega (arith, hear.after, back.after)) (omega (arith, back.before)) b.asked.waits w in
        counted_on z p r (suc i) j q back.before
        (reply_counted z p r i q (record {
          words = m;
          heard = back.hears;
          sender = back.sender;
          reply = reply;
          place = k;
          before = back.after;
          soon = back.soon;
          question = b.asked.words;
          asked = hear.hears;
          request = b.asked.request;
          letter = to_only p m;
          among = among;
          to_p = to_p;
          same = refl;
        }) wi)

    -- so the replies suffice
    not_waiting : ⊥
    not_waiting =
        let near : Near (marks z j) (D z) 3 (clock z s - 2 * D z) f = record { after = omega (arith, before, s<f); by_last = f≤j; soon = omega (arith, at_f) } in
        let near' : Near (marks z j) (D z) 2 (clock z s - 2 * D z) s = record { after = before; by_last = omega (arith, s<j); soon = omega arith } in
        let enough = enough_reply z j (clock z s - 2 * D z) f s (members z s p r b) (counted z p r j) near near' (members_around z s p r b) replied in
        let short = still_short z p r j (active_used z p j v) w (phase_set (station z j p) r b.phase) in
        let base = base_stays z p (suc s) j r b.phase s<j b.asked.waits w ∙ b.base in
        omega (arith, enough, short, phase_goal z.setup.choice (station z j p) r b.phase, ap (λ n. z.setup.choice.beta * n) base)

  pub phase_over : (s p j : ℕ) (r : Request) → BeginsPhase z s p r → active_at z j p ≡ true → clock z s + 2 * D z ≤ clock z j → awaits (station z j p) r ≡ false
  phase_over s p j r b v late =
      let (f, sf, fj, at_f) = comes_by z (clock z s + D z) s j (omega (arith, sooner z s j (omega (arith, delay_some z)))) (omega arith) (omega arith) in
      elim (cases_Bool (awaits (station z j p) r)) [ inl w ↦ absurd (not_waiting s p j f r b v late fj at_f w) | inr w ↦ w ]

  -- a rank that is over is passed
  past : (s p j n : ℕ) → s < j → rank (station z (suc s) p) ≡ n → (rank (station z j p) ≡ n → ⊥) → n < rank (station z j p)
  past s p j n l h over = elim (cases_lt n (rank (station z j p))) [ inl k ↦ k | inr k ↦ absurd (over (omega (arith, k, rank_on z p (suc s) j l, h))) ]

  -- an operation that began 4D ticks ago is over
  pub operation_over : (s p j : ℕ) (t : Task R) → Accepted z s (step_of z p t) → active_at z j p ≡ true → clock z s + 4 * D z ≤ clock z j
      → 3 * (tag_of (station z s p).operation + 1) + 1 < rank (station z j p)
  operation_over s p j t a v late =
      let n = tag_of (station z s p).operation + 1 in
      let b = begins_one z s p t a in
      let (f, sf, fj, at_f) = comes_by z (clock z s + 2 * D z) s j (omega (arith, sooner z s j (omega (arith, delay_some z)))) (omega arith) (omega arith) in
      let s<f = sooner z s f (omega (arith, delay_some z, at_f)) in
      let first = rank_query (station z (suc s) p) n b.asked.waits in
      let active_f = active_before z p f j fj ((grown z p s f sf).used (active_used z p s b.active)) v in
      let (k, sk, kf, _, b') = turned_to_two z s p n f b s<f (past s p f (3 * n) s<f first (λ e. both_ways _ (phase_over s p f (query n) b active_f (omega (arith, at_f))) (query_rank (station z f p) n e))) in
      let second = rank_update (station z (suc k) p) n b'.asked.waits in
      let over = phase_over k p j (update n) b' v (omega (arith, at_f, clock_on z k f (omega (arith, kf)))) in
      past k p j (3 * n + 1) (omega (arith, kf, fj)) second (λ e. both_ways _ over (update_rank (station z j p) n e))
