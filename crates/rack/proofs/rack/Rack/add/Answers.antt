use Rattle.std.proofs.Common.{◌≡◌, ◌+◌, ◌<◌, true, ◌∷◌, ◌++◌, length, take, drop, sym, refl, ap, ◌∙◌, arith, rules}
use Rattle.std.proofs.lemmas.List.{length-take-le}
use Rattle.rack.specs.declared.entry.Entry.{Entry}
use Rattle.rack.specs.Entries.{held_under}
use Rattle.rack.specs.Racks.{kept, capacity}
use Rattle.rack.proofs.Shifting.{put_in_front, length_with}
use Rattle.rack.proofs.Sifting.{lives_le}
use Rattle.rack.proofs.Keeping.{sound, sound_as, added_held, added_sound}
use Rattle.rack.proofs.rack.Rack.add.Goals as goal

pub slice_bounds-put_at-end : goal.slice_bounds-put_at-end
unfolding capacity
slice_bounds-put_at-end g c = omega (arith, c.requires.spare)

pub slice_bounds-put_at-end-2 : goal.slice_bounds-put_at-end-2
unfolding capacity
slice_bounds-put_at-end-2 g c = sym (length-take-le _ _ (omega (arith, c.requires.spare)))

pub put_at-requires : goal.put_at-requires
put_at-requires g c = omega (arith, c.place-i.ensures.bound, slice_bounds-put_at-end-2 g c)

pub overflow_add-self-3 : goal.overflow_add-self-3
unfolding capacity
overflow_add-self-3 g c =
    let r = c.args.self.now in
    let h : r.live < length r.records.now = omega (arith, lives_le (kept r), length-take-le r.len r.records.now r.within, r.count, c.requires.spare) in
    search rules

pub invariant_of-self : goal.invariant_of-self
unfolding capacity
invariant_of-self g c =
    let r = c.args.self.now in
    let xs = r.records.now in
    let e : Entry g.row.V.Denot = record { key = c.args.key.rank; live = true; held = c.args.held } in
    let i = c.place-i.result in
    let ys = c.put_at.new.records in
    let is : take (r.len + 1) (ys ++ drop (r.len + 1) xs) ≡ take i (kept r) ++ e ∷ drop i (kept r) =
    put_in_front xs ys r.len i e c.requires.spare c.place-i.ensures.bound c.put_at.ensures in
    let s = added_sound (kept r) r.order e i c.place-i.ensures.value refl c.args.key.small c.requires.free r.live r.first r.timely c.continues-timely.result (sound r) c.continues-timely.ensures in
    let t = sound_as _ _ _ _ _ _ _ s is refl c.min-self.ensures in
    record {
      within = omega (arith, length_with xs ys (r.len + 1) (omega (arith, c.requires.spare)) c.put_at.auto.records, c.requires.spare);
      order = t.order;
      count = t.count;
      front = t.front;
      ticks = t.ticks;
    }

pub returns-clause-same : goal.returns-clause-same
unfolding capacity
returns-clause-same g c = length_with c.args.self.now.records.now c.put_at.new.records (c.args.self.now.len + 1) (omega (arith, c.requires.spare)) c.put_at.auto.records

pub returns-clause-after : goal.returns-clause-after
unfolding capacity
returns-clause-after g c =
    let r = c.args.self.now in
    let e : Entry g.row.V.Denot = record { key = c.args.key.rank; live = true; held = c.args.held } in
    λ j. ap (λ l. held_under l j) (put_in_front r.records.now c.put_at.new.records r.len c.place-i.result e c.requires.spare c.place-i.ensures.bound c.put_at.ensures)
    ∙ added_held (kept r) r.order e c.place-i.result c.place-i.ensures.value refl c.args.key.small c.requires.free j
