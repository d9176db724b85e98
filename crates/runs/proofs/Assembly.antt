-- The single order of a run's reads and writes: what ended before another began has no higher stamp, and so stands ahead in the
-- order by stamps, which is that of one register. Rests on `StampedLog`, `OneOrder` and `Ordered`.
use Rattle.std.proofs.Common.{◌≡◌, ℕ, suc, ◌+◌, ◌*◌, ◌<◌, ◌≤◌, true, ◌⊎◌, length, is_some, Some, sym, refl, ap, ◌∙◌, subst, inl, inr, arith, slice_get}
use Rattle.std.proofs.lemmas.Bool.{cases_lt, both_ways}
use Rattle.std.proofs.lemmas.Option.{slice_get_within}
use Rattle.network.specs.declared.entry.Entry.{Entry}
use Rattle.network.specs.declared.operation.Kind.TheVariants.{Write}
use Rattle.network.specs.declared.operation.Task.{Task}
use Rattle.network.specs.declared.operation.Task.TheVariants as task
use Rattle.network.specs.Hearing.{kind_of}
use Rattle.network.specs.Promises.{In, Ahead, OneOrder}
use Rattle.network.specs.Stamps.{higher}
use Rattle.runs.proofs.Positions.{Run, state, station}
use Rattle.runs.proofs.LogOverRuns.{entries}
use Rattle.runs.proofs.OneOrder.{order, order_distinct, order_has, order_only, order_ahead, order_as_one}
use Rattle.runs.proofs.Operations.{Logged, tag, logged, logged_there, Ended, entry_open, entry_ended}
use Rattle.runs.proofs.Ordered.{Spread, Before, to_write, is_write, ordered, ordered_write}
use Rattle.runs.proofs.PhaseBeginnings.{begins_one, begins_two}
use Rattle.runs.proofs.Ranks.{rank, query_rank, update_rank}
use Rattle.runs.proofs.Stamps.{UpTo}
use Rattle.runs.proofs.StampedLog.{last, whole, Done, stamped, stamped_done, stamped_ended, stamped_stamp}
use Rattle.runs.proofs.Progress.{Turned}
use Rattle.runs.proofs.Turns.{spreads, rank_before, rank_after}

module _ {R : Type 0} (z : Run R) where
  -- an entry that shows an end is that of an operation that has ended
  ended_rank : {x : ℕ} (o : Logged z x) (i : ℕ) (e : Entry R) → slice_get (entries z i) x ≡ Some e → is_some e.end ≡ true → 3 * tag z o + 1 < rank (station z i o.owner)
  ended_rank o i e h t =
      elim (cases_lt (3 * tag z o + 1) (rank (station z i o.owner))) [ inl l ↦ l | inr l ↦ absurd (both_ways _ (ap is_some (entry_open z o i e h l).0) t) ]

  -- an operation that has begun phase two, as one that spreads its stamp
  abbrev spread : {x : ℕ} (o : Logged z x) → Turned z o (last z) → Spread z o.owner (tag z o)
  spread o w =
      let one = query_rank (station z w.at o.owner) (tag z o) (rank_before z o w) in
      record {
        begun = o.begun;
        turned = w.at;
        one = begins_one z o.begun o.owner o.task o.accepted;
        two = begins_two z w.at o.owner (tag z o) one (update_rank (station z (suc w.at) o.owner) (tag z o) (rank_after z o w));
        later = w.after;
        was_one = one;
      }

  module _ {x y : ℕ} (d : Done z x) (f : Done z y) (i : ℕ) (e : Entry R) (h : slice_get (entries z i) x ≡ Some e) (t : is_some e.end ≡ true) (l : length (entries z i) ≤ y) where
    -- y had not begun at i
    begun_later : i ≤ f.of.begun
    begun_later = elim (cases_lt f.of.begun i) [ inl k ↦ absurd (let g = logged_there z f.of i k in omega (arith, slice_get_within (entries z i) y g.0 g.1)) | inr k ↦ k ]

    ended_first : Before z (spread d.of d.turn) (spread f.of f.turn)
    ended_first = by (entry_ended z d.of i e h (ended_rank d.of i e h t))
      where
        by : Ended z d.of i e → Before z (spread d.of d.turn) (spread f.of f.turn)
        by k = record { ended = k.at; was_two = k.was_two; over = k.over; sooner = omega (arith, k.before, begun_later) }

    -- so its stamp is not below, and higher where it writes
    stamp_not_below : UpTo ((stamped z).stamp x) ((stamped z).stamp y)
    stamp_not_below =
        subst (λ a. UpTo a ((stamped z).stamp y)) (sym (stamped_stamp z d)) (subst (UpTo (spreads z d.of d.turn).stamp) (sym (stamped_stamp z f))
        (ordered z (spread d.of d.turn) (spread f.of f.turn) ended_first))

    stamp_higher : kind_of f.of.task ≡ Write → higher ((stamped z).stamp y) ((stamped z).stamp x) ≡ true
    stamp_higher k =
        subst (λ a. higher ((stamped z).stamp y) a ≡ true) (sym (stamped_stamp z d)) (subst (λ a. higher a (spreads z d.of d.turn).stamp ≡ true) (sym (stamped_stamp z f))
        (ordered_write z (spread d.of d.turn) (spread f.of f.turn) ended_first (ap to_write f.turn.was_one ∙ writes f.of.task k)))
      where
        writes : (t : Task R) → kind_of t ≡ Write → is_write t ≡ true
        writes task.Read k = cc
        writes (task.Write r) k = refl

    -- and it stands behind
    stands_ahead : In x (order z.setup.first (whole z) (stamped z)) → In y (order z.setup.first (whole z) (stamped z)) → Ahead x y (order z.setup.first (whole z) (stamped z))
    stands_ahead a b =
        order_ahead z.setup.first (whole z) (stamped z) x y f.entry a b (omega (arith, slice_get_within (entries z i) x e h, l)) f.stands stamp_not_below
        (λ k. stamp_higher (sym f.shows.kind ∙ k))

  in_order : (x : ℕ) → In x (order z.setup.first (whole z) (stamped z)) → Done z x
  in_order x a = stamped_done z x (order_only z.setup.first (whole z) (stamped z) x a)

  -- what has ended is in the order, and besides only unfinished writes
  ended_in : (x : ℕ) (e : Entry R) → slice_get (whole z) x ≡ Some e → is_some e.end ≡ true → In x (order z.setup.first (whole z) (stamped z))
  ended_in x e h t = let o = (logged z (last z) x e h).0 in order_has z.setup.first (whole z) (stamped z) x (stamped_ended z o e h (ended_rank o (last z) e h t))

  only_those : (x : ℕ) → Done z x → (e : Entry R) × (slice_get (whole z) x ≡ Some e) × ((is_some e.end ≡ true) ⊎ (e.kind ≡ Write))
  only_those x d = (d.entry, d.stands, elim d.over [ inl l ↦ inl (ap is_some (entry_ended z d.of (last z) d.entry d.stands l).end) | inr k ↦ inr k ])

  pub one_order : OneOrder z.setup z.founders z.steps
  unfolding state
  one_order =
      record {
        order = order z.setup.first (whole z) (stamped z);
        distinct = order_distinct z.setup.first (whole z) (stamped z);
        ended_ones = ended_in;
        no_others = λ x a. only_those x (in_order x a);
        in_time = λ x y a b (i, e, h, t, l). stands_ahead (in_order x a) (in_order y b) i e h t l a b;
        as_one = order_as_one z.setup.first (whole z) (stamped z);
      }
