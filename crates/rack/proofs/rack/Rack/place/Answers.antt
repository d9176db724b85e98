use Rattle.std.proofs.Common.{◌≡◌, ◌+◌, ◌-◌, ◌/◌, ◌<◌, ◌≤◌, get_or, ap, ◌∙◌, arith}
use Rattle.std.proofs.lemmas.List.{length-take-le}
use Rattle.std.proofs.lemmas.List.Sums.{prefix_len-le-length}
use Rattle.rack.specs.declared.entry.Entry.{Entry}
use Rattle.rack.specs.Entries.{before}
use Rattle.rack.specs.Racks.{kept}
use Rattle.rack.proofs.Searching.{seek_past, seek_not}
use Rattle.rack.proofs.rack.Rack.place.Goals as goal

pub loop-low-init : goal.loop-low-init
loop-low-init g c =
    let r = c.args.self.now in
    (omega arith, omega (arith, prefix_len-le-length (before c.args.key.rank) (kept r), length-take-le r.len r.records.now r.within, c.used-records.ensures.len), omega (arith, c.used-records.ensures.len))

pub loop-low-preserved-then-records-middle : goal.loop-low-preserved-then-records-middle
loop-low-preserved-then-records-middle g c =
    let r = c.args.self.now in
    let x = c.index-records-middle.result in
    let i = c.loop-low.low + (c.loop-low.high - c.loop-low.low) / 2 in
    let read : x ≡ get_or (kept r) i x = c.index-records-middle.is ∙ ap (λ l. get_or l i x) c.used-records.ensures.records in
    let low : x.key < c.args.key.rank = omega (arith, c.if-records-middle.true, ap (λ (e : Entry g.row.V.Denot). e.key) c.index-records-middle.is) in (
      seek_past (kept r) r.order c.args.key.rank i x (omega (arith, length-take-le r.len r.records.now r.within)) read low,
      c.loop-low.invariant.1,
      c.loop-low.invariant.2,
    )

pub loop-low-preserved : goal.loop-low-preserved
loop-low-preserved g c =
    let r = c.args.self.now in
    let x = c.index-records-middle.result in
    let i = c.loop-low.low + (c.loop-low.high - c.loop-low.low) / 2 in
    let read : x ≡ get_or (kept r) i x = c.index-records-middle.is ∙ ap (λ l. get_or l i x) c.used-records.ensures.records in
    let high : c.args.key.rank ≤ x.key = omega (arith, c.if-records-middle.false, ap (λ (e : Entry g.row.V.Denot). e.key) c.index-records-middle.is) in (
      c.loop-low.invariant.0,
      seek_not (kept r) r.order c.args.key.rank i x (omega (arith, length-take-le r.len r.records.now r.within)) read high,
      omega arith,
    )
