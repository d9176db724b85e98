-- The run's whole log, stamped: an operation is in the order if it has ended, or is a write that has begun phase two; its stamp
-- is that of the record that it spreads. Rests on `Turns`, `Records` and `Operations`.
use Rattle.std.proofs.Common.{◌≡◌, ℕ, suc, ◌+◌, ◌*◌, ◌<◌, ◌≤◌, Bool, true, false, ◌&&◌, ◌||◌, ltb, ◌⊎◌, List, length, Some, None, Option, sym, refl, ap, ◌∙◌, subst, ap₂, inl, inr, arith, slice_get}
use Rattle.std.proofs.lemmas.Bool.{cases_lt, both_ways, or_cases, or_left, or_right, and_parts, and_from, ltb-true, lt-ltb}
use Rattle.network.specs.declared.entry.Entry.{Entry}
use Rattle.network.specs.declared.operation.Kind.TheVariants.{Read, Write}
use Rattle.network.specs.declared.register.Register.{Register}
use Rattle.network.specs.declared.stamp.Stamp.{Stamp}
use Rattle.network.specs.Hearing.{kind_of}
use Rattle.network.specs.Keeping.{tag_of}
use Rattle.network.specs.Stamps.{higher, first_stamp}
use Rattle.runs.proofs.Positions.{Run, station}
use Rattle.runs.proofs.Accepted.{some_is_not_none}
use Rattle.runs.proofs.LogOverRuns.{entries}
use Rattle.runs.proofs.Operations.{Logged, tag, logged_once, Shows, logged, logged_there}
use Rattle.runs.proofs.Ranks.{rank}
use Rattle.runs.proofs.Records.{Makes, Valid, record_valid, made_once, made_higher}
use Rattle.runs.proofs.OneOrder.{is_writing, writing_kind, UnderStamp, Stamped}
use Rattle.runs.proofs.Progress.{Turned, turned}
use Rattle.runs.proofs.Turns.{ended_value, written_value, spreads, turned_rank, turned_makes, same_operation, same_turn, turned_on, MadeBy, made_by}

module _ {R : Type 0} (z : Run R) where
  -- the position after the last step, and the log there
  abbrev pub last : ℕ
  last = length z.steps

  abbrev pub whole : List (Entry R)
  whole = entries z last

  -- how far the operation has come in the end
  abbrev pub far : {x : ℕ} → Logged z x → ℕ
  far o = rank (station z last o.owner)

  -- what stands at a place of the log
  data Place (x : ℕ) : Type 0 where
    empty : slice_get whole x ≡ None → Place x
    holds : (e : Entry R) → slice_get whole x ≡ Some e → (o : Logged z x) → Shows z o last e → Place x

  place : (x : ℕ) → Place x
  place x = by (slice_get whole x) refl
    where
      by : (m : Option (Entry R)) → slice_get whole x ≡ m → Place x
      by None h = empty h
      by (Some e) h = let (o, s) = logged z last x e h in holds e h o s

  -- its operation has ended, or is a write that has begun phase two
  abbrev inside_at : {x : ℕ} → Place x → Bool
  inside_at (empty h) = false
  inside_at (holds e h o s) = ltb (3 * tag z o + 1) (far o) || (is_writing e.kind && ltb (3 * tag z o) (far o))

  -- the stamp that it spreads, once it has begun phase two
  abbrev stamp_by : {x : ℕ} (o : Logged z x) → (3 * tag z o < far o) ⊎ (far o ≤ 3 * tag z o) → Stamp
  stamp_by o (inl l) = (spreads z o (turned z o last l)).stamp
  stamp_by o (inr l) = first_stamp

  abbrev stamp_at : {x : ℕ} → Place x → Stamp
  stamp_at (empty h) = first_stamp
  stamp_at (holds e h o s) = stamp_by o (cases_lt (3 * tag z o) (far o))

  inside : ℕ → Bool
  inside x = inside_at (place x)

  stamp : ℕ → Stamp
  stamp x = stamp_at (place x)

  -- an operation in the order
  pub record Done (x : ℕ) : Type 0 where
    pub entry : Entry R
    pub stands : slice_get whole x ≡ Some entry
    pub of : Logged z x
    pub shows : Shows z of last entry
    pub turn : Turned z of last
    pub over : (3 * tag z of + 1 < far of) ⊎ (entry.kind ≡ Write)

  done : (x : ℕ) → inside x ≡ true → Done x
  unfolding inside
  done x = by (place x)
    where
      by : (p : Place x) → inside_at p ≡ true → Done x
      by (empty h) i = absurd (both_ways _ refl i)
      by (holds e h o s) i =
          elim (or_cases _ _ i) [
            | inl a ↦ let l = ltb-true _ _ a in record { entry = e; stands = h; of = o; shows = s; turn = turned z o last (omega (arith, l)); over = inl l }
            | inr a ↦ let b = and_parts _ _ a in record { entry = e; stands = h; of = o; shows = s; turn = turned z o last (ltb-true _ _ b.1); over = inr (writing_kind _ b.0) }
          ]

  module _ {x : ℕ} (o : Logged z x) where
    -- the same operation, found twice
    same_tag : (o' : Logged z x) → tag z o' ≡ tag z o
    same_tag o' = let a = logged_once z x o' o in ap₂ (λ i q. tag_of (station z i q).operation + 1) a.0 a.1

    same_far : (o' : Logged z x) → far o' ≡ far o
    same_far o' = ap (λ q. rank (station z last q)) (logged_once z x o' o).1

    is_inside : (e : Entry R) → slice_get whole x ≡ Some e → (3 * tag z o + 1 < far o) ⊎ ((e.kind ≡ Write) × (3 * tag z o < far o)) → inside x ≡ true
    unfolding inside
    is_inside e h c = by (place x) c
      where
        by : (p : Place x) → (3 * tag z o + 1 < far o) ⊎ ((e.kind ≡ Write) × (3 * tag z o < far o)) → inside_at p ≡ true
        by (empty g) c = absurd (some_is_not_none e (sym h ∙ g))
        by (holds e' g o' s) (inl l) = or_left _ _ (lt-ltb (3 * tag z o' + 1) (far o') (omega (arith, l, same_tag o', same_far o')))
        by (holds e' g o' s) (inr (k, l)) =
            let f : Some e' ≡ Some e = sym g ∙ h in
            let same : e' ≡ e = cc in
            or_right _ _ (and_from _ _ (ap (λ (d : Entry R). is_writing d.kind) same ∙ ap is_writing k) (lt-ltb (3 * tag z o') (far o') (omega (arith, l, same_tag o', same_far o'))))

    -- its stamp is that of the record that it spreads
    stamp_is : (w : Turned z o last) → stamp x ≡ (spreads z o w).stamp
    unfolding stamp
    stamp_is w = by (place x)
      where
        by_rank : (o' : Logged z x) (c : (3 * tag z o' < far o') ⊎ (far o' ≤ 3 * tag z o')) → stamp_by o' c ≡ (spreads z o w).stamp
        by_rank o' (inl l) =
            let own = (logged_once z x o' o).1 in
            ap₂ (λ i q. (station z (suc i) q).register.stamp) (same_turn z o' o (turned z o' last l) w own (same_tag o')) own
        by_rank o' (inr l) = absurd (omega (arith, l, same_tag o', same_far o', turned_rank z o w))

        by : (p : Place x) → stamp_at p ≡ (spreads z o w).stamp
        by (empty g) = absurd (let there = logged_there z o last (omega (arith, w.after, w.before)) in some_is_not_none there.0 (sym there.1 ∙ g))
        by (holds e g o' s) = by_rank o' (cases_lt (3 * tag z o') (far o'))

  same_entry : {x : ℕ} (d : Done x) (e : Entry R) → slice_get whole x ≡ Some e → d.entry ≡ e
  same_entry d e h = let f : Some d.entry ≡ Some e = sym d.stands ∙ h in cc

  done_writes : {x : ℕ} (d : Done x) (e : Entry R) → slice_get whole x ≡ Some e → e.kind ≡ Write → kind_of d.of.task ≡ Write
  done_writes d e h k = sym d.shows.kind ∙ ap (λ (f : Entry R). f.kind) (same_entry d e h) ∙ k

  -- the record that a write in the order makes, and that no other has its stamp
  made : {x : ℕ} (d : Done x) → kind_of d.of.task ≡ Write → Makes z d.turn.at d.of.owner (spreads z d.of d.turn)
  made d k = turned_makes z d.of d.turn k

  apart : {x y : ℕ} (d : Done x) (d' : Done y) → kind_of d.of.task ≡ Write → kind_of d'.of.task ≡ Write → stamp x ≡ stamp y → x ≡ y
  apart d d' k k' e =
      let (at, own) = made_once z _ _ _ _ _ _ (made d k) (made d' k') (sym (stamp_is d.of d.turn) ∙ e ∙ stamp_is d'.of d'.turn) in
      same_operation z d.of d'.of own (sym (ap tag_of d.turn.was_one) ∙ ap₂ (λ i q. tag_of (station z i q).operation) at own ∙ ap tag_of d'.turn.was_one)

  -- what an operation spreads is the record under its stamp
  gives : {x : ℕ} (d : Done x) (r : R) → r ≡ (spreads z d.of d.turn).value → UnderStamp z.setup.first whole inside stamp (stamp x) r
  gives {x} d r e = by (record_valid z (suc d.turn.at) d.of.owner)
    where
      v : Register R
      v = spreads z d.of d.turn

      from : (s p : ℕ) → s < suc d.turn.at → MadeBy z s p v → UnderStamp z.setup.first whole inside stamp (stamp x) r
      from s p l g =
          let w = turned_on z g.writer last (omega (arith, l, d.turn.before)) g.turn in
          let (f, stands, shows) = logged_there z g.writer last (omega (arith, w.after, w.before)) in
          let k = shows.kind ∙ g.writes in
          inr (
            g.place,
            f,
            is_inside g.writer f stands (inr (k, turned_rank z g.writer w)),
            stands,
            k,
            stamp_is g.writer w ∙ ap (λ (u : Register R). u.stamp) g.is ∙ sym (stamp_is d.of d.turn),
            e ∙ sym (written_value z g.writer w f stands g.writes ∙ ap (λ (u : Register R). u.value) g.is),
          )

      by : Valid z (suc d.turn.at) v → UnderStamp z.setup.first whole inside stamp (stamp x) r
      by (inl f) = inl (stamp_is d.of d.turn ∙ ap (λ (u : Register R). u.stamp) f, e ∙ ap (λ (u : Register R). u.value) f)
      by (inr (s, p, l, m)) = from s p l (made_by z s p v m)

  pub stamped : Stamped z.setup.first whole
  stamped =
      record {
        inside = inside;
        stamp = stamp;
        there = λ x i. let d = done x i in (d.entry, d.stands);
        writes_apart = λ x y e f i j h g k l s. let a = done x i in let b = done y j in apart a b (done_writes a e h k) (done_writes b f g l) s;
        write_higher = λ x e i h k. let d = done x i in subst (λ s. higher s first_stamp ≡ true) (sym (stamp_is d.of d.turn)) (made_higher z _ _ _ (made d (done_writes d e h k)));
        read_gives = λ x e i h k. let d = done x i in gives d e.value (ended_value z d.of d.turn e h (read_over d e h k));
      }
    where
      read_over : {x : ℕ} (d : Done x) (e : Entry R) → slice_get whole x ≡ Some e → e.kind ≡ Read → 3 * tag z d.of + 1 < far d.of
      read_over d e h k = elim d.over [ inl l ↦ l | inr w ↦ absurd (both_ways _ (ap is_writing (ap (λ (f : Entry R). f.kind) (same_entry d e h) ∙ k)) (ap is_writing w)) ]

  -- what is in the order, and under which stamp
  pub stamped_done : (x : ℕ) → stamped.inside x ≡ true → Done x
  unfolding stamped
  stamped_done x i = done x i

  pub stamped_ended : {x : ℕ} (o : Logged z x) (e : Entry R) → slice_get whole x ≡ Some e → 3 * tag z o + 1 < far o → stamped.inside x ≡ true
  unfolding stamped
  stamped_ended o e h l = is_inside o e h (inl l)

  pub stamped_stamp : {x : ℕ} (d : Done x) → stamped.stamp x ≡ (spreads z d.of d.turn).stamp
  unfolding stamped
  stamped_stamp d = stamp_is d.of d.turn
