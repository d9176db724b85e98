use Rattle.std.proofs.Common.{◌≡◌, ℕ, ◌+◌, ◌-◌, ◌<◌, ◌≤◌, Bool, true, false, cond, ◌&&◌, eqb, length, get_or, drop, set, Some, None, sym, refl, ap, ◌∙◌, arith, rules}
use mir.Val.{bool_byte}
use Rattle.std.specs.List.{prefix_len}
use Rattle.std.proofs.lemmas.List.{length-take-le}
use Rattle.std.proofs.lemmas.List.Sums.{prefix_len-le-length}
use Rattle.std.proofs.lemmas.Bool.{and_from, and_right, eq-eqb, ne_eqb, cond-true, cond-false}
use Rattle.rack.specs.declared.entry.Entry.{Entry}
use Rattle.rack.specs.Entries.{held_under, dead, changed, changed_entry}
use Rattle.rack.specs.Racks.{kept, stored, capacity}
use Rattle.rack.proofs.Keys.{changed_at}
use Rattle.rack.proofs.Searching.{look_past, look_here}
use Rattle.rack.proofs.Shifting.{in_front, length_with}
use Rattle.rack.proofs.Keeping.{sound, sound_as, unchanged, changed_held, changed_key, changed_sent, changed_live, rewritten_held, rewritten_some, rewritten}
use Rattle.rack.proofs.rack.Rack.change.Goals as goal
use Rattle.rack.proofs.rack.Rack.change.Goals.{then-old-key-via-then-old-key, then-old-key-via-else-old-key+then-not-old}

one_if : (b : Bool) → bool_byte b ≡ cond b 1 0
one_if true = refl
one_if false = refl

pub returns-in_default-clause-after : goal.returns-in_default-clause-after
unfolding stored
returns-in_default-clause-after g c =
    let r = c.args.self.now in
    let k = c.new-key.result.rank in
    let i = c.place-i.result in
    let past : length c.used.result.now ≤ i = search rules in
    let gone = look_past (kept r) r.order k i c.place-i.ensures.value (omega (arith, past, ap length c.used.ensures.records)) in
    changed_at r (kept r) k c.args.number c.args.station c.args.content c.ranges.station.fits c.new-key.ensures (unchanged (held_under (kept r)) k c.args.content gone)

pub returns-then-old-key-clause-after : goal.returns-then-old-key-clause-after
unfolding stored
returns-then-old-key-clause-after g c =
    let r = c.args.self.now in
    let k = c.new-key.result.rank in
    let i = c.place-i.result in
    let x = c.in-Some.old in
    let some : i < length c.used.result.now = search rules in
    let found : x ≡ get_or c.used.result.now i x = search rules in
    let here = look_here (kept r) r.order k i c.place-i.ensures.value x (omega (arith, some, ap length c.used.ensures.records)) (found ∙ ap (λ l. get_or l i x) c.used.ensures.records) c.new-key.result.small in
    let off : (x.live && eqb k x.key) ≡ false =
    elim c.then-old-key.branch [
      | then-old-key-via-then-old-key w ↦ and_right x.live _ (ne_eqb k x.key (λ q. w.if-old-key.true (sym q)))
      | then-old-key-via-else-old-key+then-not-old w ↦ ap (λ (b : Bool). b && eqb k x.key) w.if-not-old.true
    ] in
    changed_at r (kept r) k c.args.number c.args.station c.args.content c.ranges.station.fits c.new-key.ensures
    (unchanged (held_under (kept r)) k c.args.content (here ∙ cond-false _ _ _ off))

pub put_over-first-requires-clause-known : goal.put_over-first-requires-clause-known
put_over-first-requires-clause-known g c = let r = c.args.self.now in omega (arith, r.front, prefix_len-le-length dead (kept r))

pub overflow_sub-self : goal.overflow_sub-self
overflow_sub-self g c =
    let r = c.args.self.now in
    let i = c.place-i.result in
    let x = c.in-Some.old in
    let some : i < length c.used.result.now = search rules in
    let found : x ≡ get_or c.used.result.now i x = search rules in
    let read : x ≡ get_or (kept r) i x = found ∙ ap (λ l. get_or l i x) c.used.ensures.records in
    let place : i < length (kept r) = omega (arith, some, ap length c.used.ensures.records) in
    let key : c.changed.result.key ≡ x.key = ap (λ (e : Entry g.row.V.Denot). e.key) c.changed.ensures ∙ changed_key x c.args.content in
    let sent = ap (λ (e : Entry g.row.V.Denot). e.held.sent) c.changed.ensures ∙ changed_sent x c.args.content in
    rewritten_some (kept r) i x c.changed.result place read r.order key r.live r.first r.timely (sound r) c.if-not-old.false sent

pub invariant_of-self : goal.invariant_of-self
invariant_of-self g c =
    let r = c.args.self.now in
    let i = c.place-i.result in
    let x = c.in-Some.old in
    let new = c.changed.result in
    let some : i < length c.used.result.now = search rules in
    let found : x ≡ get_or c.used.result.now i x = search rules in
    let read : x ≡ get_or (kept r) i x = found ∙ ap (λ l. get_or l i x) c.used.ensures.records in
    let place : i < length (kept r) = omega (arith, some, ap length c.used.ensures.records) in
    let key = ap (λ (e : Entry g.row.V.Denot). e.key) c.changed.ensures ∙ changed_key x c.args.content in
    let sent = ap (λ (e : Entry g.row.V.Denot). e.held.sent) c.changed.ensures ∙ changed_sent x c.args.content in
    let s = rewritten (kept r) i x new place read r.order key r.live r.first r.timely (sound r) c.if-not-old.false sent in
    let is = in_front c.put_over-first.new.records (drop r.len r.records.now) r.len (c.put_over-first.auto.records ∙ length-take-le r.len r.records.now r.within) ∙ c.put_over-first.ensures.after in
    let alive : new.live ≡ c.is_some-stays.result = ap (λ (e : Entry g.row.V.Denot). e.live) c.changed.ensures ∙ changed_live x c.args.content ∙ sym c.is_some-stays.ensures in
    let count : (r.live - 1) + bool_byte c.is_some-stays.result ≡ (r.live - 1) + cond new.live 1 0 =
    ap (λ (n : ℕ). (r.live - 1) + n) (one_if c.is_some-stays.result ∙ ap (λ (b : Bool). cond {A = ℕ} b 1 0) (sym alive)) in
    let t = sound_as _ _ _ _ _ _ _ s is count (c.put_over-first.ensures.front ∙ ap (λ l. r.first + prefix_len dead (drop r.first l)) c.put_over-first.ensures.after) in
    record {
      within = omega (arith, length_with r.records.now c.put_over-first.new.records r.len r.within c.put_over-first.auto.records, r.within);
      order = t.order;
      count = t.count;
      front = t.front;
      ticks = t.ticks;
    }

pub returns-clause-after : goal.returns-clause-after
unfolding stored
returns-clause-after g c =
    let r = c.args.self.now in
    let k = c.new-key.result.rank in
    let i = c.place-i.result in
    let x = c.in-Some.old in
    let new = changed_entry x c.args.content in
    let some : i < length c.used.result.now = search rules in
    let found : x ≡ get_or c.used.result.now i x = search rules in
    let read : x ≡ get_or (kept r) i x = found ∙ ap (λ l. get_or l i x) c.used.ensures.records in
    let place : i < length (kept r) = omega (arith, some, ap length c.used.ensures.records) in
    let is = in_front c.put_over-first.new.records (drop r.len r.records.now) r.len (c.put_over-first.auto.records ∙ length-take-le r.len r.records.now r.within)
    ∙ c.put_over-first.ensures.after ∙ ap (set (kept r) i) c.changed.ensures in
    let here = look_here (kept r) r.order k i c.place-i.ensures.value x place read c.new-key.result.small
    ∙ cond-true _ _ _ (and_from _ _ c.if-not-old.false (eq-eqb k x.key (sym c.if-old-key.false))) in
    changed_at r _ k c.args.number c.args.station c.args.content c.ranges.station.fits c.new-key.ensures (λ j.
    ap (λ l. held_under l j) is
    ∙ rewritten_held (kept r) i x new place read r.order (changed_key x c.args.content) j
    ∙ ap (λ (n : ℕ). cond (eqb j n) (cond new.live (Some new.held) None) (held_under (kept r) j)) c.if-old-key.false
    ∙ ap (λ o. cond (eqb j k) o (held_under (kept r) j)) (changed_held x c.args.content ∙ sym (ap (changed c.args.content) here)))

pub returns-clause-same : goal.returns-clause-same
unfolding capacity
returns-clause-same g c =
    let r = c.args.self.now in
    length_with r.records.now c.put_over-first.new.records r.len r.within c.put_over-first.auto.records
