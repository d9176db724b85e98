-- The log once p's latest entry is written, or where it has none; and with one entry more.
use Rattle.std.proofs.Common.{◌≡◌, ℕ, ◌+◌, ◌<◌, true, cond, List, [], ◌∷◌, ◌++◌, length, get_or, take, drop, set, Some, None, sym, ap, ◌∙◌, arith, length-set, length-take}
use Rattle.std.proofs.Math.Seq.{take-set-lt}
use Rattle.std.proofs.lemmas.List.{take_more_set, drop-set-lt}
use Rattle.std.proofs.lemmas.Bool.{cond-true}
use Rattle.std.proofs.lemmas.Bool.Decides.{nat_tests}
use Rattle.std.proofs.lemmas.Grind.{common_steps}
use Rattle.std.proofs.lemmas.Option.{slice_get_within}
use Rattle.stations.specs.Members.{put}
use Rattle.network.specs.declared.entry.Entry.{Entry}
use Rattle.operation_log.specs.declared.log.OperationLog.{OperationLog}
use Rattle.operation_log.specs.Entries.{latest_of, log_of, places, can_open, can_count, counts_may_rise, latest_entry, SameMemory}
use Rattle.network.specs.Logs.{Log, at_latest}
use Rattle.operation_log.proofs.Places.{changed_none, changed_some, put_latest}

module _ {R : Type 0} (l : OperationLog R) where
  -- the lent entries
  abbrev lent : List (Entry R)
  lent = l.entries.now

  -- a log with the same latest entries
  abbrev with_entries : List (Entry R) → Log R
  with_entries es = record { entries = es; latest = latest_of l.latest }

  -- what a log of these parts shows
  abbrev view : ℕ → List (Entry R) → List ℕ → Log R
  view k es places = record { entries = take k es; latest = latest_of places }

  module _ (p : ℕ) where
    -- the place of p's latest entry
    abbrev place : ℕ
    place = get_or l.latest p 0

    pub none_after : (f : Entry R → Entry R) → None ≡ latest_entry p (log_of l) → log_of l ≡ cond (can_count p (log_of l)) (at_latest p f (log_of l)) (log_of l)
    none_after f none = ap with_entries (sym (changed_none f _ _ (sym none))) ∙ sym (cond-true _ _ _ (sym (ap counts_may_rise none)))

    module _ (e : Entry R) (some : Some e ≡ latest_entry p (log_of l)) where
      opened : (place < l.len) × (place < length lent)
      opened = let h = simp length-take at (slice_get_within (take l.len lent) place e (sym some)) in (omega arith, omega arith)

      pub within : place < length lent
      within = opened.1

      -- the log n once the entry is written
      module _ (y : Entry R) (n : OperationLog R) (written : n.entries.now ≡ set lent place y) (len : n.len ≡ l.len) where
        pub some_memory : n.entries.ghost_name ≡ l.entries.ghost_name → SameMemory l n
        some_memory same = record {
          rest = ap (drop n.len) written ∙ drop-set-lt n.len lent place y (omega (arith, opened));
          size = ap length written ∙ simp length-set;
          named = same;
        }

        pub some_after : n.latest ≡ l.latest → (f : Entry R → Entry R) → true ≡ counts_may_rise (Some e) → y ≡ f e
            → log_of n ≡ cond (can_count p (log_of l)) (at_latest p f (log_of l)) (log_of l)
        some_after latest f low changed =
            ap (λ (k : ℕ). view k n.entries.now n.latest) len ∙ ap (λ es. view l.len es n.latest) written
            ∙ ap (view l.len (set lent place y)) latest
            ∙ ap with_entries (take-set-lt l.len lent place y (opened.0) ∙ ap (set (take l.len lent) place) changed ∙ sym (changed_some f _ _ e (sym some)))
            ∙ sym (cond-true _ _ _ (sym (low ∙ ap counts_may_rise some)))

  -- where there is room, the next entry is one of the lent
  pub next_lent : true ≡ can_open (places l) (log_of l) → l.len < length lent
  next_lent has_room = grind (arith, common_steps, nat_tests)

  -- the log n with one entry more, of p
  module _ (p : ℕ) (e y : Entry R) (made : y ≡ e) (has_room : true ≡ can_open (places l) (log_of l)) (stations : p < length l.latest) (n : OperationLog R)
      (written : n.entries.now ≡ set lent l.len y) (len : n.len ≡ l.len + 1) (latest : n.latest ≡ set l.latest p l.len) where
    number : l.len ≡ length (take l.len lent)
    number = simp length-take (omega (arith, next_lent has_room))

    pub open_after : log_of n ≡ cond (can_open (places l) (log_of l)) (record { entries = take l.len lent ++ (e ∷ []); latest = put (latest_of l.latest) p (length (take l.len lent)) }) (log_of l)
    open_after =
        ap (λ (k : ℕ). view k n.entries.now n.latest) len ∙ ap (λ es. view (l.len + 1) es n.latest) (written ∙ ap (set lent l.len) made)
        ∙ ap (view (l.len + 1) (set lent l.len e)) latest
        ∙ ap (λ es. record { entries = es; latest = latest_of (set l.latest p l.len) }) (take_more_set lent l.len e (next_lent has_room))
        ∙ ap (λ (w : ℕ → ℕ). record { entries = take l.len lent ++ (e ∷ []); latest = w }) (put_latest l.latest p l.len stations ∙ ap (put (latest_of l.latest) p) number)
        ∙ sym (cond-true _ _ _ (sym has_room))
