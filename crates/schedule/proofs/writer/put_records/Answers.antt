use Rattle.std.proofs.Common.{ℕ, ◌+◌, ap, arith, rules, length-take, length-drop}
use Rattle.schedule.specs.Items.{shown}
use Rattle.schedule.specs.Kinds.{spell}
use Rattle.schedule.proofs.Remaining.{record_at}
use Rattle.schedule.proofs.Puts.{put_after, put_to_start, put_fits, put_past, put_to_end}
use Rattle.schedule.proofs.writer.put_records.Goals as goal

pub loop-item-init : goal.loop-item-init
loop-item-init c = put_to_start c.args.records.now c.args.buffer.now

pub put-at-requires : goal.put-at-requires
put-at-requires c =
    let p = put_fits c.args.records.now c.loop-item.item-index c.loop-item.at c.loop-item.buffer c.args.buffer.now
    (omega (arith, c.requires.fits, c.loop-item.auto.buffer)) c.loop-item.invariant c.loop-item-test.true in
    let n = length-drop c.loop-item.at c.loop-item.buffer in
    record { fits = simp (length-take, length-drop) (omega (arith, c.requires.fits, c.loop-item.auto.buffer)); short = omega (arith, c.requires.short) }

pub overflow_add-at : goal.overflow_add-at
overflow_add-at c =
    let p = put_fits c.args.records.now c.loop-item.item-index c.loop-item.at c.loop-item.buffer c.args.buffer.now
    (omega (arith, c.requires.fits, c.loop-item.auto.buffer)) c.loop-item.invariant c.loop-item-test.true in
    let n = c.put-at.ensures.value in
    let s = c.requires.short in
    search rules

pub slice_bounds-put-count : goal.slice_bounds-put-count
slice_bounds-put-count c = omega (arith, c.loop-item.invariant.place, c.requires.fits, c.loop-item.auto.buffer)

pub loop-item-preserved : goal.loop-item-preserved
loop-item-preserved c =
    put_past c.args.records.now c.loop-item.item-index c.loop-item.at c.loop-item.buffer c.args.buffer.now
    (omega (arith, c.requires.fits, c.loop-item.auto.buffer)) c.loop-item.invariant (c.loop-item.at + c.put-at.result) _
    c.loop-item-test.true (ap (λ (n : ℕ). c.loop-item.at + n) c.put-at.ensures.value)
    (put_after c.loop-item.at (spell (shown (record_at c.args.records.now c.loop-item.item-index))) c.loop-item.buffer c.put-at.new.out
    (omega (arith, c.loop-item.invariant.place, c.requires.fits, c.loop-item.auto.buffer)) c.put-at.ensures.after)

pub returns : goal.returns
returns c =
    put_to_end c.args.records.now c.loop-item.item-index c.loop-item.at c.loop-item.buffer c.args.buffer.now
    (omega (arith, c.requires.fits, c.loop-item.auto.buffer)) c.loop-item.invariant c.loop-item-test.false
