-- Numbers stay small: clock, log, tags, bounds and bases of quorums, and what is counted. A counted message is a copy that waits no more,
-- so echoes and replies are at most the numbers given so far. Rests on `Clocks`, `LogOverRuns`, `Changes` and `Provenance`.
use Rattle.std.proofs.Common.{◌≡◌, ℕ, zero, suc, ◌+◌, ◌-◌, ◌<◌, ◌≤◌, Bool, true, not, length, is_some, Some, None, Option, sym, refl, ap, ◌∙◌, subst, le_trans, le_refl, arith}
use Rattle.std.proofs.lemmas.Bool.{both_ways}
use Rattle.std.proofs.lemmas.List.{length_push}
use Rattle.settings.specs.declared.choice.Choice.{Choice}
use Rattle.stations.specs.Members.{how_many}
use Rattle.stations.proofs.Counting.{how_many_bound, how_many_mono}
use Rattle.network.specs.declared.content.Content.{Content}
use Rattle.network.specs.declared.operation.Operation.{Operation}
use Rattle.network.specs.declared.operation.Operation.TheVariants.{Idle, PhaseOne, PhaseTwo}
use Rattle.network.specs.declared.station.Station.{Station}
use Rattle.network.specs.declared.step.Step.TheVariants as step
use Rattle.network.specs.Hearing.{hear}
use Rattle.network.specs.Keeping.{tag_of}
use Rattle.network.specs.Knowing.{Set, most_stations}
use Rattle.network.specs.Logs.{Log}
use Rattle.network.specs.Refusals.{last_tick, last_number}
use Rattle.network.specs.States.{Copy}
use Rattle.runs.proofs.Positions.{Run, state, state_start, station, clock, waiting, Accepted, onward}
use Rattle.runs.proofs.Accepted.{ticks, begins, hears}
use Rattle.runs.proofs.Start.{at_start}
use Rattle.runs.proofs.Clocks.{ClockStep, rises, rests, clock_step, clock_start, next_step, numbers_in_range}
use Rattle.runs.proofs.Changes.{Change, same, comes, fades, begins_one, hears_one, change, stationwise}
use Rattle.runs.proofs.Copies.{numbered, never_again}
use Rattle.runs.proofs.Counting.{how_many_rise, how_many_further}
use Rattle.runs.proofs.Entries.{length_changed}
use Rattle.runs.proofs.Growing.{hear_tag}
use Rattle.runs.proofs.LogOverRuns as log
use Rattle.runs.proofs.Provenance.{gone_after}

-- replies counted by an operation, and the base of its quorum
abbrev pub replies_of : {R : Type 0} → Operation R → ℕ
replies_of (Idle tag) = 0
replies_of (PhaseOne task poll) = poll.replies
replies_of (PhaseTwo kind poll kept) = poll.replies

abbrev pub base_of : {R : Type 0} → Operation R → ℕ
base_of (Idle tag) = 0
base_of (PhaseOne task poll) = poll.base
base_of (PhaseTwo kind poll kept) = poll.base

abbrev pub bound_of : Option ℕ → ℕ
bound_of None = 0
bound_of (Some b) = b

module _ {R : Type 0} (c : Choice) (q : ℕ) (m : Content R Set) (x : Station R Set) where
  hear_counts : ((hear c q m x).echoes ≤ x.echoes + 1) × (replies_of (hear c q m x).operation ≤ replies_of x.operation + 1)
  unfolding hear
  hear_counts = (grind arith, grind arith)

  hear_base : base_of x.operation ≤ most_stations → base_of (hear c q m x).operation ≤ most_stations
  unfolding hear
  hear_base h = grind (arith, how_many_bound)

  hear_bound : bound_of x.bound ≤ most_stations → bound_of (hear c q m x).bound ≤ most_stations
  unfolding hear
  hear_bound h = grind (arith, how_many_bound)

module _ {R : Type 0} (z : Run R) where
  pub clock_in_range : (i : ℕ) → clock z i ≤ last_tick
  clock_in_range zero = omega (arith, clock_start z)
  clock_in_range (suc i) = by (clock_step z i) (clock_in_range i)
    where
      by : ClockStep z i → clock z i ≤ last_tick → clock z (suc i) ≤ last_tick
      by (rises a e) h = omega (arith, (ticks z i a).clock_goes_on)
      by (rests e) h = omega arith

  -- how long the log is
  abbrev pub begun_so_far : ℕ → ℕ
  begun_so_far i = length (log.entries z i)

  log_longer : (i : ℕ) → (begun_so_far i ≤ begun_so_far (suc i)) × (begun_so_far i ≤ z.setup.places → begun_so_far (suc i) ≤ z.setup.places)
  log_longer i = by (log.log_step z i)
    where
      by : log.LogStep z i → (begun_so_far i ≤ begun_so_far (suc i)) × (begun_so_far i ≤ z.setup.places → begun_so_far (suc i) ≤ z.setup.places)
      by (log.rests e f) = let g = ap (λ (l : Log R). length l.entries) e in (omega arith, λ h. omega arith)
      by (log.opens p t a e f) = let g = ap (λ (l : Log R). length l.entries) e ∙ length_push (log.entries z i) _ in (omega arith, λ h. omega (arith, (begins z i p t a).log_open))
      by (log.heeds p n c a e y f) = let g = ap (λ (l : Log R). length l.entries) e ∙ length_changed (log.latest z i p) (log.hearing z i p c) (log.entries z i) in (omega arith, λ h. omega arith)

  pub log_on : (i j : ℕ) → i ≤ j → begun_so_far i ≤ begun_so_far j
  log_on i j l = onward z (λ k. begun_so_far i ≤ begun_so_far k) (λ k h. le_trans h (log_longer k).0) i j l (le_refl _)

  pub log_fits : (i : ℕ) → begun_so_far i ≤ z.setup.places
  log_fits zero = omega (arith, ap (λ s. length s.log.entries) (state_start z))
  log_fits (suc i) = (log_longer i).1 (log_fits i)

  -- a station's tag is at most the number of operations begun
  pub tag_fits : (i q : ℕ) → tag_of (station z i q).operation ≤ begun_so_far i
  tag_fits zero q = omega (arith, at_start z (λ x. tag_of x.operation) 0 refl refl q)
  tag_fits (suc i) q = by (change z i q) (tag_fits i q) (log_longer i).0
    where
      by : Change z i q → tag_of (station z i q).operation ≤ begun_so_far i → begun_so_far i ≤ begun_so_far (suc i) → tag_of (station z (suc i) q).operation ≤ begun_so_far (suc i)
      by (same e) h l = omega (arith, ap (λ s. tag_of s.operation) e)
      by (comes a e) h l = omega (arith, ap (λ s. tag_of s.operation) e)
      by (fades m c f e) h l = omega (arith, ap (λ s. tag_of s.operation) e)
      by (begins_one t a e) h l = omega (arith, ap (λ s. tag_of s.operation) e, ap (λ s. length s.log.entries) (begins z i q t a).leads ∙ length_push (log.entries z i) _)
      by (hears_one n c a w e) h l = omega (arith, ap (λ s. tag_of s.operation) e, hear_tag z.setup.choice q c.content (station z i q))

  -- bounds and bases are counts of stations
  pub base_fits : (i q : ℕ) → base_of (station z i q).operation ≤ most_stations
  base_fits =
      stationwise z (λ q x. base_of x.operation ≤ most_stations) (λ q. grind arith) (λ i q e. omega arith) (λ i q l c f h. h)
      (λ i q t b h. how_many_bound _ most_stations) (λ i q n c a w h. hear_base z.setup.choice q c.content (station z i q) h)

  pub bound_fits : (i q : ℕ) → bound_of (station z i q).bound ≤ most_stations
  bound_fits =
      stationwise z (λ q x. bound_of x.bound ≤ most_stations) (λ q. grind arith) (λ i q e. omega arith) (λ i q l c f h. h)
      (λ i q t b h. h) (λ i q n c a w h. hear_bound z.setup.choice q c.content (station z i q) h)

  -- the numbers given so far that do not wait for q
  abbrev past : ℕ → ℕ → ℕ → Bool
  past i q n = not (is_some (waiting z i n q))

  pub passed : ℕ → ℕ → ℕ
  passed i q = how_many (past i q) (state z i).next

  past_on : (i q n : ℕ) → n < (state z i).next → past i q n ≡ true → past (suc i) q n ≡ true
  past_on i q n l h = ap (λ o. not (is_some o)) (never_again z n q i (suc i) (omega arith) l (by (waiting z i n q) refl h))
    where
      by : (o : Option (Copy R)) → waiting z i n q ≡ o → not (is_some o) ≡ true → o ≡ None
      by None e g = refl
      by (Some c) e g = absurd (both_ways _ refl g)

  further : (i q : ℕ) → how_many (past (suc i) q) (state z i).next ≤ passed (suc i) q
  unfolding passed
  further i q =
      let up = (next_step z i).0 in
      let e : (state z (suc i)).next ≡ (state z i).next + ((state z (suc i)).next - (state z i).next) = omega arith in
      subst (λ n. how_many (past (suc i) q) (state z i).next ≤ how_many (past (suc i) q) n) (sym e) (how_many_further (past (suc i) q) (state z i).next _)

  pub passed_on : (i q : ℕ) → passed i q ≤ passed (suc i) q
  unfolding passed
  passed_on i q = le_trans (how_many_mono (past i q) (past (suc i) q) (state z i).next (λ n l h. past_on i q n l h)) (further i q)

  pub passed_more : (i q n : ℕ) → Accepted z i (step.Deliver n q) → passed i q + 1 ≤ passed (suc i) q
  unfolding passed
  passed_more i q n a =
      let h = hears z i n q a in
      le_trans
      (how_many_rise (past i q) (past (suc i) q) (state z i).next n (numbered z i n q h.copy h.waits) (λ m l g. past_on i q m l g)
      (ap (λ o. not (is_some o)) h.waits) (ap (λ o. not (is_some o)) (gone_after z i n q a)))
      (further i q)

  pub passed_fits : (i q : ℕ) → passed i q ≤ last_number + 1
  unfolding passed
  passed_fits i q = le_trans (how_many_bound (past i q) (state z i).next) (numbers_in_range z i)

  -- what a station has counted is at most what has passed it
  CountedFew : ℕ → ℕ → Type 0
  CountedFew i q = ((station z i q).echoes ≤ passed i q) × (replies_of (station z i q).operation ≤ passed i q)

  counted_few : (i q : ℕ) → CountedFew i q
  unfolding CountedFew
  counted_few zero q = (omega (arith, at_start z (λ x. x.echoes) 0 refl refl q), omega (arith, at_start z (λ x. replies_of x.operation) 0 refl refl q))
  counted_few (suc i) q = by (change z i q) (counted_few i q).0 (counted_few i q).1 (passed_on i q)
    where
      by : Change z i q → (station z i q).echoes ≤ passed i q → replies_of (station z i q).operation ≤ passed i q → passed i q ≤ passed (suc i) q
          → ((station z (suc i) q).echoes ≤ passed (suc i) q) × (replies_of (station z (suc i) q).operation ≤ passed (suc i) q)
      by (same e) h k l = (omega (arith, ap (λ s. s.echoes) e), omega (arith, ap (λ s. replies_of s.operation) e))
      by (comes a e) h k l = (omega (arith, ap (λ s. s.echoes) e), omega (arith, ap (λ s. replies_of s.operation) e))
      by (fades m c f e) h k l = (omega (arith, ap (λ s. s.echoes) e), omega (arith, ap (λ s. replies_of s.operation) e))
      by (begins_one t a e) h k l = (omega (arith, ap (λ s. s.echoes) e), omega (arith, ap (λ s. replies_of s.operation) e))
      by (hears_one n c a w e) h k l =
          let up = passed_more i q n a in
          let more = hear_counts z.setup.choice q c.content (station z i q) in
          (omega (arith, ap (λ s. s.echoes) e, more.0), omega (arith, ap (λ s. replies_of s.operation) e, more.1))

  -- echoes and replies are at most the last message number and one
  pub counts_fit : (i q : ℕ) → ((station z i q).echoes ≤ last_number + 1) × (replies_of (station z i q).operation ≤ last_number + 1)
  unfolding CountedFew
  counts_fit i q = let few = counted_few i q in (le_trans few.0 (passed_fits i q), le_trans few.1 (passed_fits i q))
