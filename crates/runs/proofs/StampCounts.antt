-- Stamp counts stay small: every stamp's count, at stations and in copies, and the operations that are in phase one, come
-- together to at most the length of the log. Rests on `StampsSaid`, `Changes`, `Copies` and `SmallNumbers`.
use Rattle.std.proofs.Common.{◌≡◌, ℕ, zero, suc, ◌+◌, ◌-◌, ◌<◌, ◌≤◌, false, length, Some, sym, refl, ap, ◌∙◌, subst, inl, inr, ⊎_elim, le_trans, le_refl, arith}
use Rattle.std.proofs.lemmas.Bool.{both_ways, cases_eq}
use Rattle.std.proofs.lemmas.List.{length_push}
use Rattle.stations.specs.Members.{put, how_many}
use Rattle.stations.proofs.Counting.{put_here, put_other, how_many_none}
use Rattle.network.specs.declared.letter.Letter.{Letter}
use Rattle.network.specs.declared.operation.Operation.{Operation}
use Rattle.network.specs.declared.operation.Task.{Task}
use Rattle.network.specs.declared.operation.Task.TheVariants as task
use Rattle.network.specs.declared.station.Life.TheVariants.{Left}
use Rattle.network.specs.declared.station.Station.{Station}
use Rattle.network.specs.declared.step.Step.{Step}
use Rattle.network.specs.declared.step.Step.TheVariants as step
use Rattle.network.specs.Changes.{begin, said, answer, heard}
use Rattle.network.specs.Hearing.{hear}
use Rattle.network.specs.Keeping.{under_way, newcomer, with_life, with_crashed}
use Rattle.network.specs.Knowing.{Set, most_stations}
use Rattle.network.specs.Saying.{says}
use Rattle.network.specs.States.{Copy}
use Rattle.runs.proofs.Positions.{Run, state, state_start, station, waiting, Accepted, OutcomeOf, goes, stays, outcome_of}
use Rattle.runs.proofs.Accepted.{some_is_not_none, ticks, enters, leaves, crashes, Begins, begins, hears}
use Rattle.runs.proofs.Start.{table_high, at_start}
use Rattle.runs.proofs.Changes.{unused_blank}
use Rattle.runs.proofs.Copies.{Posted, source}
use Rattle.runs.proofs.Bounds.{one_step}
use Rattle.runs.proofs.Counting.{one_if, how_many_at}
use Rattle.runs.proofs.Entries.{length_changed}
use Rattle.runs.proofs.Mails.{Among}
use Rattle.runs.proofs.LogOverRuns.{entries, latest}
use Rattle.runs.proofs.SmallNumbers.{begun_so_far}
use Rattle.runs.proofs.StampsSaid.{in_phase_one, count_in, delivers, hear_phase, hear_count, says_low, low_letter}

module _ {R : Type 0} (z : Run R) where
  -- how many operations are in phase one
  abbrev pub ones : ℕ → ℕ
  ones i = how_many (λ q. in_phase_one (station z i q).operation) most_stations

  -- station r alone has become y
  ones_put : (i r : ℕ) (y : Station R Set) → r < z.setup.table → ((q : ℕ) → station z (suc i) q ≡ put (state z i).stations r y q)
      → ones (suc i) + one_if (in_phase_one (station z i r).operation) ≡ ones i + one_if (in_phase_one y.operation)
  ones_put i r y l e =
      omega (
        arith,
        how_many_at (λ q. in_phase_one (station z (suc i) q).operation) (λ q. in_phase_one (station z i q).operation) most_stations r (omega (arith, table_high z))
            (λ q ne. ap (λ (x : Station R Set). in_phase_one x.operation) (e q ∙ put_other _ r y q ne)),
        ap (λ (x : Station R Set). one_if (in_phase_one x.operation)) (e r ∙ put_here (state z i).stations r y),
      )

  abbrev count_at : ℕ → ℕ → ℕ
  count_at i q = (station z i q).register.stamp.count

  -- what is said at a step that delivers nothing holds no stamp
  said_nought : (i : ℕ) (x : Step R) (l : Letter R Set) → delivers x ≡ false → Among l (said z.setup x (state z i)) → count_in l.content ≡ 0
  unfolding said
  said_nought i step.Tick l d a = absurd a
  said_nought i (step.Enter p) l d (inl e) = ap (λ (j : Letter R Set). count_in j.content) e
  said_nought i (step.Enter p) l d (inr a) = absurd a
  said_nought i (step.Leave p) l d (inl e) = ap (λ (j : Letter R Set). count_in j.content) e
  said_nought i (step.Leave p) l d (inr a) = absurd a
  said_nought i (step.Crash p) l d a = absurd a
  said_nought i (step.Read p) l d (inl e) = ap (λ (j : Letter R Set). count_in j.content) e
  said_nought i (step.Read p) l d (inr a) = absurd a
  said_nought i (step.Write p r) l d (inl e) = ap (λ (j : Letter R Set). count_in j.content) e
  said_nought i (step.Write p r) l d (inr a) = absurd a
  said_nought i (step.Deliver n q) l d a = absurd (both_ways _ d refl)

  -- what is said on a delivery holds at most the stamp of the one who hears
  said_heard : (i n q : ℕ) (l : Letter R Set) (a : Accepted z i (step.Deliver n q)) → Among l (said z.setup (step.Deliver n q) (state z i))
      → count_in l.content ≤ (hear z.setup.choice q (hears z i n q a).copy.content (station z i q)).register.stamp.count
  unfolding said
  said_heard i n q l a m =
      let h = hears z i n q a in
      low_letter _ (says q h.copy.content (station z i q) (heard z.setup q h.copy.content (state z i))) l (says_low q h.copy.content (station z i q) _)
      (subst (λ o. Among l (answer z.setup q o (state z i))) h.waits m)

  -- every count is at most what the log has beyond the operations in phase one
  record Low (i : ℕ) : Type 0 where
    pub spare : ℕ
    pub is : spare + ones i ≡ begun_so_far z i
    pub at_stations : (q : ℕ) → count_at i q ≤ spare
    pub in_copies : (n q : ℕ) (c : Copy R) → waiting z i n q ≡ Some c → count_in c.content ≤ spare

  -- where nothing is delivered
  low_rests : (i : ℕ) (x : Step R) → Accepted z i x → delivers x ≡ false → ones (suc i) + begun_so_far z i ≡ ones i + begun_so_far z (suc i)
      → ((q : ℕ) → count_at (suc i) q ≤ count_at i q) → Low i → Low (suc i)
  low_rests i x a d e f low =
      record {
        spare = low.spare;
        is = omega (arith, low.is);
        at_stations = λ q. le_trans (f q) (low.at_stations q);
        in_copies = λ n q c w. ⊎_elim (λ v. low.in_copies n q c v) (λ (m : Posted z i n q c). omega (
          arith,
          ap (λ (y : Copy R). count_in y.content) m.is,
          said_nought i m.doing m.letter (ap delivers (one_step z i m.doing x m.accepted a) ∙ d) m.among,
        )) (source z i n q c w);
      }

  count_put : (i r : ℕ) (y : Station R Set) → ((q : ℕ) → station z (suc i) q ≡ put (state z i).stations r y q) → y.register.stamp.count ≤ count_at i r → (q : ℕ) → count_at (suc i) q ≤ count_at i q
  count_put i r y e l q =
      elim (cases_eq q r) [
        | inl k ↦ omega (arith, ap (λ (x : Station R Set). x.register.stamp.count) (e q ∙ ap (put (state z i).stations r y) k ∙ put_here _ r y), ap (count_at i) k)
        | inr k ↦ omega (arith, ap (λ (x : Station R Set). x.register.stamp.count) (e q ∙ put_other _ r y q k))
      ]

  low_begins : (i p : ℕ) (t : Task R) (x : Step R) → Accepted z i x → delivers x ≡ false → Begins z i p t → Low i → Low (suc i)
  low_begins i p t x a d b low =
      let all : (q : ℕ) → station z (suc i) q ≡ put (state z i).stations p (begin t (station z i p)) q = λ q. ap (λ s. s.stations q) b.leads in
      low_rests i x a d
      (omega (arith, ones_put i p _ b.acts.in_table all, ap one_if (idle_not_one _ b.idle), ap (λ s. length s.log.entries) b.leads ∙ length_push (entries z i) _))
      (count_put i p _ all (le_refl _)) low
    where
      idle_not_one : (o : Operation R) → under_way o ≡ false → in_phase_one o ≡ false
      idle_not_one o h = grind arith

  low_hears : (i n q : ℕ) → Accepted z i (step.Deliver n q) → Low i → Low (suc i)
  low_hears i n q a low =
      let h = hears z i n q a in
      let all : (p : ℕ) → station z (suc i) p ≡ put (state z i).stations q (hear z.setup.choice q h.copy.content (station z i q)) p = λ p. ap (λ s. s.stations p) h.leads in
      let log = ap (λ s. length s.log.entries) h.leads ∙ length_changed (latest z i q) _ (entries z i) in
      let one = ones_put i q _ h.acts.in_table all in
      let y = hear z.setup.choice q h.copy.content (station z i q) in
      let top : y.register.stamp.count + one_if (in_phase_one y.operation) ≤ low.spare + one_if (in_phase_one (station z i q).operation) =
      hear_count z.setup.choice q h.copy.content (station z i q) low.spare (low.at_stations q) (low.in_copies n q h.copy h.waits) in
      let falls : one_if (in_phase_one y.operation) ≤ one_if (in_phase_one (station z i q).operation) = hear_phase z.setup.choice q h.copy.content (station z i q) in
      record {
        spare = (low.spare + one_if (in_phase_one (station z i q).operation)) - one_if (in_phase_one y.operation);
        is = omega (arith, low.is, one, log, falls);
        at_stations = λ p. elim (cases_eq p q) [
          | inl k ↦ omega (arith, ap (λ (x : Station R Set). x.register.stamp.count) (all p ∙ ap (put (state z i).stations q y) k ∙ put_here _ q y), top)
          | inr k ↦ omega (arith, ap (λ (x : Station R Set). x.register.stamp.count) (all p ∙ put_other _ q y p k), low.at_stations p, falls)
        ];
        in_copies = λ m p c w. ⊎_elim (λ v. omega (arith, low.in_copies m p c v, falls))
            (λ (f : Posted z i m p c). omega (
              arith,
              ap (λ (x : Copy R). count_in x.content) f.is,
              top,
              said_heard i n q f.letter a (subst (λ x. Among f.letter (said z.setup x (state z i))) (one_step z i f.doing (step.Deliver n q) f.accepted a) f.among),
            )) (source z i m p c w);
      }

  low_by : (i : ℕ) (x : Step R) → Accepted z i x → Low i → Low (suc i)
  low_by i step.Tick a low =
      let e = (ticks z i a).leads in
      low_rests i _ a refl (omega (arith, ap (λ s. how_many (λ q. in_phase_one (s.stations q).operation) most_stations) e, ap (λ s. length s.log.entries) e)) (λ q. omega (arith, ap (λ s. (s.stations q).register.stamp.count) e)) low
  low_by i (step.Enter p) a low =
      let e = enters z i p a in
      let all : (q : ℕ) → station z (suc i) q ≡ put (state z i).stations p (newcomer z.setup.first p) q = λ q. ap (λ s. s.stations q) e.leads in
      low_rests i _ a refl
      (omega (arith, ones_put i p _ e.in_table all, ap (λ (x : Station R Set). one_if (in_phase_one x.operation)) (unused_blank z i p e.unused), ap (λ s. length s.log.entries) e.leads))
      (count_put i p _ all (omega arith)) low
  low_by i (step.Leave p) a low =
      let e = leaves z i p a in
      let all : (q : ℕ) → station z (suc i) q ≡ put (state z i).stations p (with_life Left (station z i p)) q = λ q. ap (λ s. s.stations q) e.leads in
      low_rests i _ a refl (omega (arith, ones_put i p _ e.acts.in_table all, ap (λ s. length s.log.entries) e.leads)) (count_put i p _ all (le_refl _)) low
  low_by i (step.Crash p) a low =
      let e = crashes z i p a in
      let all : (q : ℕ) → station z (suc i) q ≡ put (state z i).stations p (with_crashed (station z i p)) q = λ q. ap (λ s. s.stations q) e.leads in
      low_rests i _ a refl (omega (arith, ones_put i p _ e.acts.in_table all, ap (λ s. length s.log.entries) e.leads)) (count_put i p _ all (le_refl _)) low
  low_by i (step.Read p) a low = low_begins i p task.Read _ a refl (begins z i p task.Read a) low
  low_by i (step.Write p r) a low = low_begins i p (task.Write r) _ a refl (begins z i p (task.Write r) a) low
  low_by i (step.Deliver n q) a low = low_hears i n q a low

  low : (i : ℕ) → Low i
  low zero =
      record {
        spare = 0;
        is = omega (arith, how_many_none (λ q. in_phase_one (station z 0 q).operation) most_stations (λ q l. at_start z (λ x. in_phase_one x.operation) false refl refl q), ap (λ s. length s.log.entries) (state_start z));
        at_stations = λ q. omega (arith, at_start z (λ x. x.register.stamp.count) 0 refl refl q);
        in_copies = λ n q c w. absurd (some_is_not_none c (sym w ∙ ap (λ s. s.waits n q) (state_start z)));
      }
  low (suc i) = by (outcome_of z i) (low i)
    where
      by : OutcomeOf z i → Low i → Low (suc i)
      by (goes x a) h = low_by i x a h
      by (stays e) h =
          record {
            spare = h.spare;
            is = omega (arith, h.is, ap (λ s. how_many (λ q. in_phase_one (s.stations q).operation) most_stations) e, ap (λ s. length s.log.entries) e);
            at_stations = λ q. omega (arith, h.at_stations q, ap (λ s. (s.stations q).register.stamp.count) e);
            in_copies = λ n q c w. h.in_copies n q c (sym (ap (λ s. s.waits n q) e) ∙ w);
          }

  -- stamp counts are at most the number of operations begun
  pub stamp_fits : (i q : ℕ) → (station z i q).register.stamp.count ≤ begun_so_far z i
  stamp_fits i q = let h = low i in omega (arith, h.is, h.at_stations q)

  pub copy_stamp_fits : (i n q : ℕ) (c : Copy R) → waiting z i n q ≡ Some c → count_in c.content ≤ begun_so_far z i
  copy_stamp_fits i n q c w = let h = low i in omega (arith, h.is, h.in_copies n q c w)
