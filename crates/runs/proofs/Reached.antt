-- Every number of a state that a run has come to is small, so that whatever code raises next still fits.
-- Rests on `SmallNumbers`, `StampCounts`, `EntriesSmall`, `BookOverRuns` and `Copies`.
use Rattle.std.proofs.Common.{◌≡◌, ℕ, ◌<◌, ◌≤◌, true, ◌&&◌, List, length, Some, None, Option, sym, refl, ap, ◌∙◌, subst, le_trans, le_refl, arith, slice_get}
use Rattle.std.proofs.lemmas.List.{take_all}
use Rattle.std.proofs.lemmas.Bool.{and_parts, and_from, lt-ltb}
use Rattle.stations.proofs.Counting.{how_many_bound}
use Rattle.network.specs.declared.content.Content.{Content}
use Rattle.network.specs.declared.content.Content.TheVariants.{Enter, EnterEcho, Joined, JoinedEcho, Leave, LeaveEcho, Query, Response, Update, Ack, UpdateEcho}
use Rattle.network.specs.declared.entry.Entry.{Entry}
use Rattle.network.specs.declared.operation.Operation.{Operation}
use Rattle.network.specs.declared.operation.Operation.TheVariants.{Idle, PhaseOne, PhaseTwo}
use Rattle.network.specs.declared.station.Station.{Station}
use Rattle.network.specs.declared.step.Step.{Step}
use Rattle.network.specs.Keeping.{is_used, active, tag_of}
use Rattle.network.specs.Knowing.{Set, most_stations}
use Rattle.network.specs.Limits.{may_rise, replies_may_rise, can_rise, can_begin}
use Rattle.network.specs.Runs.{run, AdmittedStart}
use Rattle.network.specs.States.{Copy, Setup, State, new_run, present_set, crashed_set, present_total, crashed_total}
use Rattle.runs.specs.Small.{SmallOperation, SmallStation, SmallContent, SmallEntry, Small, most_messages}
use Rattle.runs.proofs.Positions.{Run, state, state_is, station}
use Rattle.runs.proofs.BookOverRuns.{tick_moves}
use Rattle.runs.proofs.Changes.{used_in_table}
use Rattle.runs.proofs.Clocks.{numbers_in_range}
use Rattle.runs.proofs.Copies.{numbered, awaited}
use Rattle.runs.proofs.EntriesSmall.{entries_small}
use Rattle.runs.proofs.Growing.{present_used}
use Rattle.runs.proofs.Movement.{used_set, left_set}
use Rattle.runs.proofs.SmallNumbers.{replies_of, base_of, bound_of, clock_in_range, log_fits, tag_fits, base_fits, bound_fits, counts_fit}
use Rattle.runs.proofs.StampCounts.{stamp_fits, copy_stamp_fits}
use Rattle.runs.proofs.StampsSaid.{count_in}
use Rattle.runs.proofs.Start.{table_high}

-- the three numbers of an operation, told apart
small_operation : {R : Type 0} (places : ℕ) (o : Operation R) → tag_of o ≤ places → base_of o ≤ most_stations → replies_of o ≤ most_messages → SmallOperation places o
small_operation places (Idle tag) t b r = t
small_operation places (PhaseOne task poll) t b r = (t, b, r)
small_operation places (PhaseTwo kind poll kept) t b r = (t, b, r)

small_content : {R : Type 0} (places : ℕ) (m : Content R Set) → count_in m ≤ places → SmallContent places m
small_content places (Enter p) h = tt
small_content places (EnterEcho known offer f p) h = h
small_content places (Joined p) h = tt
small_content places (JoinedEcho p) h = tt
small_content places (Leave p) h = tt
small_content places (LeaveEcho p) h = tt
small_content places (Query p tag) h = tt
small_content places (Response offer tag) h = h
small_content places (Update offer tag p) h = h
small_content places (Ack tag) h = tt
small_content places (UpdateEcho offer) h = h

-- at every position of a run
module _ {R : Type 0} (z : Run R) (i : ℕ) where
  small_station : (q : ℕ) → SmallStation z.setup.places (station z i q)
  small_station q =
      record {
        echoes = (counts_fit z i q).0;
        bound = λ b e. subst (λ o. bound_of o ≤ most_stations) e (bound_fits z i q);
        operation = small_operation _ _ (le_trans (tag_fits z i q) (log_fits z i)) (base_fits z i q) (counts_fit z i q).1;
        stamp = le_trans (stamp_fits z i q) (log_fits z i);
      }

  pub small : Small z.setup (state z i)
  small =
      record {
        clock = clock_in_range z i;
        next = numbers_in_range z i;
        moves = omega (arith, tick_moves z i, how_many_bound (used_set z i) most_stations, how_many_bound (left_set z i) most_stations);
        used = used_in_table z i;
        stations = small_station;
        waiting = λ n q c w. (numbered z i n q c w, awaited z i n q c w, small_content _ _ (le_trans (copy_stamp_fits z i n q c w) (log_fits z i)));
        log = log_fits z i;
        entries = entries_small z i;
      }

-- a small number may rise
low_rises : (n : ℕ) → n ≤ 4294967294 → may_rise n ≡ true
low_rises n h = lt-ltb n 4294967295 (omega arith)

counts_rise : {R : Type 0} (o : Option (Entry R)) → ((e : Entry R) → o ≡ Some e → SmallEntry e)
    → elim o [ None ↦ true | Some e ↦ may_rise e.replies_one && may_rise e.replies_two ] ≡ true
counts_rise None h = refl
counts_rise (Some e) h =
    let g = h e refl in
    and_from _ _ (low_rises e.replies_one (omega (arith, g.replies_one))) (low_rises e.replies_two (omega (arith, g.replies_two)))

module _ {R : Type 0} (places : ℕ) (few : places ≤ 65535) where
  replies_rise : (o : Operation R) → SmallOperation places o → replies_may_rise o ≡ true
  replies_rise (Idle tag) h = refl
  replies_rise (PhaseOne task poll) h = low_rises poll.replies (omega (arith, h.2))
  replies_rise (PhaseTwo kind poll kept) h = low_rises poll.replies (omega (arith, h.2))

  tag_rises : (o : Operation R) → SmallOperation places o → may_rise (tag_of o) ≡ true
  tag_rises (Idle tag) h = low_rises tag (omega arith)
  tag_rises (PhaseOne task poll) h = low_rises poll.tag (omega (arith, h.0))
  tag_rises (PhaseTwo kind poll kept) h = low_rises poll.tag (omega (arith, h.0))

  heard_rises : (x : Station R Set) (m : Content R Set) → SmallStation places x → SmallContent places m → can_rise x m ≡ true
  unfolding can_rise
  heard_rises x (Enter p) h g = refl
  heard_rises x (EnterEcho known offer f p) h g = low_rises x.echoes (omega (arith, h.echoes))
  heard_rises x (Joined p) h g = refl
  heard_rises x (JoinedEcho p) h g = refl
  heard_rises x (Leave p) h g = refl
  heard_rises x (LeaveEcho p) h g = refl
  heard_rises x (Query p tag) h g = refl
  heard_rises x (Response offer tag) h g =
      and_from _ _ (and_from _ _ (low_rises offer.stamp.count (omega arith)) (low_rises x.register.stamp.count (omega (arith, h.stamp))))
      (replies_rise _ h.operation)
  heard_rises x (Update offer tag p) h g = refl
  heard_rises x (Ack tag) h g = replies_rise _ h.operation
  heard_rises x (UpdateEcho offer) h g = refl

-- what code may rely on in a state that a run has come to
pub record Fits {R : Type 0} (u : Setup R) (s : State R) : Type 0 where
  pub numbers : Small u s
  -- the table and the log have at most so many places
  pub table : u.table ≤ most_stations
  pub places : u.places ≤ 65535
  -- hearing what waits, beginning an operation, noting a move, and counting a reply in p's latest entry
  pub rise : (n q : ℕ) (c : Copy R) → s.waits n q ≡ Some c → can_rise (s.stations q) c.content ≡ true
  pub begin : (q : ℕ) → can_begin (s.stations q) ≡ true
  pub note : may_rise s.book.moves ≡ true
  pub count : (p : ℕ) → elim (slice_get s.log.entries (s.log.latest p)) [ None ↦ true | Some e ↦ may_rise e.replies_one && may_rise e.replies_two ] ≡ true
  -- stations are counted up to the end of the table
  pub present : present_total s ≤ most_stations
  pub crashed : crashed_total s ≤ most_stations
  -- who was ever used, and who is awaited, has a number of the table
  pub used : (q : ℕ) → is_used (s.stations q).life ≡ true → q < most_stations
  pub awaited : (n q : ℕ) (c : Copy R) → s.waits n q ≡ Some c → (n < s.next) × (active (s.stations q) ≡ true) × (q < u.table)

module _ {R : Type 0} (u : Setup R) (k : ℕ) (xs : List (Step R)) (a : AdmittedStart u k) where
  -- the steps from a new run, as one run
  abbrev the_run : Run R
  the_run = record { setup = u; founders = k; steps = xs; admitted = a }

  at_its_end : state the_run (length xs) ≡ run u xs (new_run u k)
  at_its_end = state_is the_run (length xs) ∙ ap (λ ys. run u ys (new_run u k)) (take_all (length xs) xs (le_refl _))

  -- the state after some list of steps from a new run
  pub reached : (s : State R) → s ≡ run u xs (new_run u k) → Fits u s
  reached s e =
      let h : Small u s = subst (Small u) (at_its_end ∙ sym e) (small the_run (length xs)) in
      let few = a.log_most in
      record {
        numbers = h;
        table = table_high the_run;
        places = few;
        rise = λ n q c w. heard_rises u.places few (s.stations q) c.content (h.stations q) (h.waiting n q c w).2;
        begin = λ q. tag_rises u.places few (s.stations q).operation (h.stations q).operation;
        note = low_rises s.book.moves (omega (arith, h.moves));
        count = λ p. counts_rise (slice_get s.log.entries (s.log.latest p)) (h.entries (s.log.latest p));
        present = how_many_bound (present_set s) most_stations;
        crashed = how_many_bound (crashed_set s) most_stations;
        used = λ q v. omega (arith, h.used q v, table_high the_run);
        awaited = λ n q c w. (let (x, y, v) = h.waiting n q c w in (x, y, h.used q (present_used _ (and_parts _ _ y).0)));
      }
