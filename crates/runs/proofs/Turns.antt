-- Where an operation of the log begins phase two: at one step, with the record that it then spreads; and that each record made
-- by a write is that of one operation of the log. Rests on `Operations`, `Records` and `Ranks`.
use Rattle.std.proofs.Common.{◌≡◌, ℕ, suc, ◌+◌, ◌*◌, ◌<◌, ◌≤◌, true, length, Some, sym, refl, ap, ◌∙◌, ap₂, inl, inr, arith, slice_get}
use Rattle.std.proofs.lemmas.Bool.{both_ways, cases_lt, cases_order, eqb-true}
use Rattle.stations.proofs.Counting.{put_here}
use Rattle.network.specs.declared.entry.Entry.{Entry}
use Rattle.network.specs.declared.operation.Kind.{Kind}
use Rattle.network.specs.declared.operation.Kind.TheVariants as kind
use Rattle.network.specs.declared.operation.Operation.{Operation}
use Rattle.network.specs.declared.operation.Operation.TheVariants.{Idle, PhaseOne, PhaseTwo}
use Rattle.network.specs.declared.operation.Task.{Task}
use Rattle.network.specs.declared.operation.Task.TheVariants as task
use Rattle.network.specs.declared.poll.Poll.{Poll}
use Rattle.network.specs.declared.register.Register.{Register}
use Rattle.network.specs.declared.station.Station.{Station}
use Rattle.network.specs.Hearing.{kind_of}
use Rattle.network.specs.Keeping.{under_way, tag_of}
use Rattle.network.specs.Knowing.{Set}
use Rattle.network.specs.Logs.{opening_value}
use Rattle.network.specs.Polls.{new_poll}
use Rattle.runs.proofs.Positions.{Run, station}
use Rattle.runs.proofs.Accepted.{begins}
use Rattle.runs.proofs.Changes.{grown}
use Rattle.runs.proofs.Endings.{polled}
use Rattle.runs.proofs.LogOverRuns.{entries, latest}
use Rattle.runs.proofs.Operations.{Logged, tag, Ended, entry_open, entry_ended}
use Rattle.runs.proofs.Progress.{Turned, turned, AtLatest, at_latest}
use Rattle.runs.proofs.Ranks.{rank_of, rank, rank_on}
use Rattle.runs.proofs.Requests.{in_two}
use Rattle.runs.proofs.Records.{Makes, makes_there}
use Rattle.runs.proofs.RecordsSaid.{begins_to_write}

-- who is in phase two of this tag keeps something
in_phase_two : {R : Type 0} (t : ℕ) (o : Operation R) → in_two t o ≡ true → (k : Kind) × (n : Poll) × (v : R) × (n.tag ≡ t) × (o ≡ PhaseTwo k n v)
in_phase_two t (Idle tag) h = absurd (both_ways _ refl h)
in_phase_two t (PhaseOne task poll) h = absurd (both_ways _ refl h)
in_phase_two t (PhaseTwo kind poll kept) h = (kind, poll, kept, eqb-true _ _ h, refl)

module _ {R : Type 0} (z : Run R) where
  module _ {x : ℕ} (o : Logged z x) where
    -- the record that it spreads
    abbrev pub spreads : {i : ℕ} → Turned z o i → Register R
    spreads w = (station z (suc w.at) o.owner).register

    abbrev pub turned_on : {i : ℕ} (j : ℕ) → i ≤ j → Turned z o i → Turned z o j
    turned_on j l w =
        record { at = w.at; after = w.after; before = omega (arith, w.before, l); base = w.base; replies = w.replies; was_one = w.was_one; base_two = w.base_two; is_two = w.is_two; kept = w.kept }

    pub rank_before : {i : ℕ} (w : Turned z o i) → rank (station z w.at o.owner) ≡ 3 * tag z o
    rank_before w = ap rank_of w.was_one

    pub rank_after : {i : ℕ} (w : Turned z o i) → rank (station z (suc w.at) o.owner) ≡ 3 * tag z o + 1
    rank_after w = ap rank_of w.is_two

    pub turned_rank : {i : ℕ} (w : Turned z o i) → 3 * tag z o < rank (station z i o.owner)
    turned_rank {i} w = omega (arith, rank_after w, rank_on z o.owner (suc w.at) i w.before)

    -- a write makes the record that it spreads
    pub turned_makes : {i : ℕ} (w : Turned z o i) → kind_of o.task ≡ kind.Write → Makes z w.at o.owner (spreads w)
    turned_makes w k = makes_there z w.at o.owner (ap₂ begins_to_write w.was_one w.is_two ∙ writes o.task k)
      where
        writes : (t : Task R) → kind_of t ≡ kind.Write → begins_to_write (PhaseOne t (polled (tag z o) w.base w.replies)) (PhaseTwo (kind_of o.task) (new_poll (tag z o) w.base_two) (spreads w).value) ≡ true
        writes task.Read k = cc
        writes (task.Write r) k = refl

    -- and it is the record of its task
    pub turned_task : {i : ℕ} (w : Turned z o i) → kind_of o.task ≡ kind.Write → o.task ≡ task.Write (spreads w).value
    turned_task w k = let m = turned_makes w k in let e : PhaseOne o.task (polled (tag z o) w.base w.replies) ≡ PhaseOne (task.Write (spreads w).value) m.poll = sym w.was_one ∙ m.was_one in cc

    -- once it has ended, its entry shows the value that it spread
    pub ended_value : {i : ℕ} (w : Turned z o i) (e : Entry R) → slice_get (entries z i) x ≡ Some e → 3 * tag z o + 1 < rank (station z i o.owner) → e.value ≡ (spreads w).value
    ended_value {i} w e h l = by (entry_ended z o i e h l)
      where
        by : Ended z o i e → e.value ≡ (spreads w).value
        by d =
            let (k, n, v, t, f) = in_phase_two (tag z o) (station z d.at o.owner).operation d.was_two in
            d.value k n v f ∙ w.kept d.at k n v t f

    -- the entry of a write shows it all along
    pub written_value : {i : ℕ} (w : Turned z o i) (e : Entry R) → slice_get (entries z i) x ≡ Some e → kind_of o.task ≡ kind.Write → e.value ≡ (spreads w).value
    written_value {i} w e h k =
        elim (cases_lt (3 * tag z o + 1) (rank (station z i o.owner)))
        [ inl l ↦ ended_value w e h l | inr l ↦ (entry_open z o i e h l).1 ∙ ap (opening_value z.setup.first) (turned_task w k) ]

    -- and that is the record that it was to write
    pub write_shows : (i : ℕ) (e : Entry R) (r : R) → slice_get (entries z i) x ≡ Some e → o.task ≡ task.Write r → e.value ≡ r
    write_shows i e r h t =
        elim (cases_lt (3 * tag z o) (rank (station z i o.owner))) [
          | inl l ↦
              let w = turned z o i l in
              let same : task.Write (spreads w).value ≡ task.Write r = sym (turned_task w (ap kind_of t)) ∙ t in
              let value : (spreads w).value ≡ r = cc in
              written_value w e h (ap kind_of t) ∙ value
          | inr l ↦ (entry_open z o i e h (omega arith)).1 ∙ ap (opening_value z.setup.first) t
        ]

    -- its tag from its beginning on
    pub begun_tag : tag_of (station z (suc o.begun) o.owner).operation ≡ tag z o
    begun_tag = ap (λ s. tag_of (s.stations o.owner).operation) (begins z o.begun o.owner o.task o.accepted).leads ∙ ap (λ (x : Station R Set). tag_of x.operation) (put_here _ o.owner _)

  -- a station's rank turns once from one tag's phase one to its phase two
  turns_once : (p t s s' : ℕ) → rank (station z s p) ≡ 3 * t → rank (station z (suc s) p) ≡ 3 * t + 1 → rank (station z s' p) ≡ 3 * t → rank (station z (suc s') p) ≡ 3 * t + 1 → s ≡ s'
  turns_once p t s s' a b c d =
      elim (cases_order s s')
      [ inl e ↦ e | inr e ↦ elim e [ inl l ↦ absurd (omega (arith, rank_on z p (suc s) s' l)) | inr l ↦ absurd (omega (arith, rank_on z p (suc s') s l)) ] ]

  sooner_tag : {x y : ℕ} (o : Logged z x) (o' : Logged z y) → o.owner ≡ o'.owner → o.begun < o'.begun → tag z o < tag z o'
  sooner_tag o o' p l = omega (arith, begun_tag o, (grown z o.owner (suc o.begun) o'.begun l).tag, ap (λ q. tag_of (station z o'.begun q).operation) p)

  module _ {x y : ℕ} (o : Logged z x) (o' : Logged z y) where
    -- of one station under one tag there is one operation
    pub same_operation : o.owner ≡ o'.owner → tag z o ≡ tag z o' → x ≡ y
    same_operation p t =
        elim (cases_order o.begun o'.begun) [
          | inl e ↦ sym o.place ∙ ap (λ i. length (entries z i)) e ∙ o'.place
          | inr e ↦ elim e [ inl l ↦ absurd (omega (arith, sooner_tag o o' p l)) | inr l ↦ absurd (omega (arith, sooner_tag o' o (sym p) l)) ]
        ]

    -- which begins phase two once
    pub same_turn : {i j : ℕ} (w : Turned z o i) (w' : Turned z o' j) → o.owner ≡ o'.owner → tag z o ≡ tag z o' → w.at ≡ w'.at
    same_turn w w' p t =
        turns_once o.owner (tag z o) w.at w'.at (rank_before o w) (rank_after o w) (ap (λ q. rank (station z w'.at q)) p ∙ rank_before o' w' ∙ ap (λ n. 3 * n) (sym t))
        (ap (λ q. rank (station z (suc w'.at) q)) p ∙ rank_after o' w' ∙ ap (λ n. 3 * n + 1) (sym t))

  -- the operation of the log that makes the record v at step s
  pub record MadeBy (s p : ℕ) (v : Register R) : Type 0 where
    pub place : ℕ
    pub writer : Logged z place
    pub writes : kind_of writer.task ≡ kind.Write
    pub turn : Turned z writer (suc s)
    pub is : spreads writer turn ≡ v

  pub made_by : (s p : ℕ) (v : Register R) → Makes z s p v → MadeBy s p v
  made_by s p v m = by (at_latest z s p (ap (λ o. under_way o) m.was_one))
    where
      by : AtLatest z s p → MadeBy s p v
      by k =
          let o = k.operation in
          let tags : tag z o ≡ m.poll.tag = k.same_tag ∙ ap tag_of m.was_one in
          let one = ap (λ q. (station z s q).operation) k.own ∙ m.was_one in
          let two = ap (λ q. (station z (suc s) q).operation) k.own ∙ m.is_two in
          let w = turned z o (suc s) (omega (arith, ap rank_of two, tags)) in
          let at : w.at ≡ s =
          turns_once o.owner (tag z o) w.at s (rank_before o w) (rank_after o w) (omega (arith, ap rank_of one, tags)) (omega (arith, ap rank_of two, tags)) in
          let same : PhaseOne o.task (polled (tag z o) w.base w.replies) ≡ PhaseOne (task.Write v.value) m.poll =
          sym w.was_one ∙ ap (λ i. (station z i o.owner).operation) at ∙ one in
          let task : o.task ≡ task.Write v.value = cc in
          record { place = latest z s p; writer = o; writes = ap kind_of task; turn = w; is = ap₂ (λ i q. (station z (suc i) q).register) at k.own ∙ m.is }
