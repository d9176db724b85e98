-- Numbers of the log stay small: an entry's ticks are ticks of the clock, and a reply that it counts is a copy that waits no
-- more. Rests on `Operations` and `SmallNumbers`.
use Rattle.std.proofs.Common.{◌≡◌, ℕ, suc, ◌+◌, ◌*◌, ◌<◌, ◌≤◌, Some, sym, ap, ◌∙◌, subst, inl, inr, le_trans, arith, slice_get}
use Rattle.std.proofs.lemmas.Bool.{cases_eq, cases_lt}
use Rattle.network.specs.declared.content.Content.{Content}
use Rattle.network.specs.declared.entry.Entry.{Entry}
use Rattle.network.specs.declared.station.Station.{Station}
use Rattle.network.specs.declared.step.Step.TheVariants as step
use Rattle.network.specs.Changes.{log_heard}
use Rattle.network.specs.Knowing.{Set}
use Rattle.network.specs.Logs.{Log}
use Rattle.network.specs.Refusals.{last_tick}
use Rattle.network.specs.States.{Copy}
use Rattle.runs.specs.Small.{SmallEntry, most_messages}
use Rattle.runs.proofs.Positions.{Run, station, clock, Accepted, onward}
use Rattle.runs.proofs.Accepted.{some_is_not_none, begins}
use Rattle.runs.proofs.Changes.{used_in_range}
use Rattle.runs.proofs.Entries.{element_old, changed_here, changed_elsewhere}
use Rattle.runs.proofs.Growing.{present_used}
use Rattle.runs.proofs.LogOverRuns.{entries, latest, hearing, LogStep, rests, opens, heeds, log_step, open_entry_of, left_alone}
use Rattle.runs.proofs.Operations.{Logged, tag, entry_begun, same_entry, logged, owned, Ended, entry_open, entry_ended}
use Rattle.runs.proofs.Ranks.{rank}
use Rattle.runs.proofs.SmallNumbers.{clock_in_range, passed, passed_on, passed_more, passed_fits}

module _ {R : Type 0} where
  -- at most so many replies in each phase
  pub record CountsMost (n : ℕ) (e : Entry R) : Type 0 where
    pub one : e.replies_one ≤ n
    pub two : e.replies_two ≤ n

  counts_on : (n m : ℕ) (e : Entry R) → n ≤ m → CountsMost n e → CountsMost m e
  counts_on n m e l h = record { one = le_trans h.one l; two = le_trans h.two l }

  -- a message adds at most one
  heard_counts : (clock : ℕ) (m : Content R Set) (x y : Station R Set) (e : Entry R) (n : ℕ) → CountsMost n e → CountsMost (n + 1) (log_heard clock m x y e)
  unfolding log_heard
  heard_counts clock m x y e n h = let a = h.one in let b = h.two in record { one = grind arith; two = grind arith }

module _ {R : Type 0} (z : Run R) where
  -- what the entry of an operation counts is at most what has passed its owner
  record Few {x : ℕ} (o : Logged z x) (i : ℕ) : Type 0 where
    before : o.begun < i
    entry : Entry R
    stands : slice_get (entries z i) x ≡ Some entry
    counts : CountsMost (passed z i o.owner) entry

  module _ {x : ℕ} (o : Logged z x) (i : ℕ) (f : Few o i) where
    few_same : slice_get (entries z (suc i)) x ≡ Some f.entry → Few o (suc i)
    few_same h = record { before = omega (arith, f.before); entry = f.entry; stands = h; counts = counts_on _ _ _ (passed_on z i o.owner) f.counts }

    few_heard : (n : ℕ) (c : Copy R) → Accepted z i (step.Deliver n o.owner) → slice_get (entries z (suc i)) x ≡ Some (hearing z i o.owner c f.entry) → Few o (suc i)
    few_heard n c a h =
        record {
          before = omega (arith, f.before);
          entry = hearing z i o.owner c f.entry;
          stands = h;
          counts = counts_on _ _ _ (passed_more z i o.owner n a) (heard_counts (clock z i) c.content (station z i o.owner) _ f.entry _ f.counts);
        }

    few_step : LogStep z i → Few o (suc i)
    few_step (rests d g) = few_same (ap (λ (l : Log R). slice_get l.entries x) d ∙ f.stands)
    few_step (opens p t a d g) = few_same (ap (λ (l : Log R). slice_get l.entries x) d ∙ element_old (entries z i) _ x f.entry f.stands)
    few_step (heeds p n c a d y g) =
        elim (cases_eq o.owner p) [
          | inr k ↦
              few_same (ap (λ (l : Log R). slice_get l.entries x) d
              ∙ left_alone z i p c (open_entry_of z i p) x f.entry f.stands (λ same b. k (owned z o i f.before p same b)))
          | inl k ↦
              elim (cases_eq x (latest z i p)) [
                | inr m ↦ few_same (ap (λ (l : Log R). slice_get l.entries x) d ∙ changed_elsewhere (latest z i p) x (hearing z i p c) (entries z i) m ∙ f.stands)
                | inl m ↦
                    few_heard n c (subst (λ q. Accepted z i (step.Deliver n q)) (sym k) a)
                    (ap (λ (l : Log R). slice_get l.entries x) d ∙ ap (slice_get _) m
                    ∙ changed_here (latest z i p) (hearing z i p c) (entries z i) f.entry (ap (slice_get (entries z i)) (sym m) ∙ f.stands)
                    ∙ ap (λ q. Some (hearing z i q c f.entry)) (sym k))
              ]
        ]

  few : {x : ℕ} (o : Logged z x) (i : ℕ) → o.begun < i → Few o i
  few o i l = onward z (Few o) (λ k f. few_step o k f (log_step z k)) (suc o.begun) i l first
    where
      first : Few o (suc o.begun)
      first = record { before = omega arith; entry = _; stands = entry_begun z o; counts = record { one = omega arith; two = omega arith } }

  pub entries_small : (i x : ℕ) (e : Entry R) → slice_get (entries z i) x ≡ Some e → SmallEntry e
  entries_small i x e h =
      let (o, s) = logged z i x e h in
      let f = few o i s.before in
      let most = subst (CountsMost most_messages) (same_entry z i x f.entry e f.stands h) (counts_on _ _ _ (passed_fits z i o.owner) f.counts) in
      record {
        station = omega (arith, s.station, used_in_range z o.begun o.owner (present_used _ (begins z o.begun o.owner o.task o.accepted).acts.is_here));
        begin = omega (arith, s.begin, clock_in_range z o.begun);
        end = λ t k. elim (cases_lt (3 * tag z o + 1) (rank (station z i o.owner))) [
          | inl l ↦ ended t (entry_ended z o i e h l) k
          | inr l ↦ absurd (some_is_not_none t (sym k ∙ (entry_open z o i e h l).0))
        ];
        replies_one = most.one;
        replies_two = most.two;
      }
    where
      ended : {o : Logged z x} (t : ℕ) → Ended z o i e → e.end ≡ Some t → t ≤ last_tick
      ended t d k = let s : Some t ≡ Some (clock z d.at) = sym k ∙ d.end in let g : t ≡ clock z d.at = cc in omega (arith, clock_in_range z d.at)
