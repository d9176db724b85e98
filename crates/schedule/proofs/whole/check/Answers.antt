use Rattle.std.proofs.Common.{sym, ap, ◌∙◌, arith}
use Rattle.std.proofs.lemmas.Result.{err_from_is_err_and}
use Rattle.schedule.specs.Items.{shown_placed}
use Rattle.schedule.specs.Readers.{verdict}
use Rattle.schedule.proofs.Lists.{verdict_ahead}
use Rattle.schedule.proofs.Readings.{Moved, next_item, next_end, next_fault}
use Rattle.schedule.proofs.whole.check.Goals as goal
use Rattle.schedule.proofs.whole.check.Goals.{In-Some}

moved : (c : In-Some) → Moved c.args.file.now c.loop.reader c.next.new.self (shown_placed c.in-Some.field-0)
moved c = next_item _ _ _ _ _ c.loop.invariant.1 c.next.ensures.file c.in-Some.is c.in_ok-next.ensures.answer c.next.ensures.stage c.next.ensures.place

pub returns-in_err-next : goal.returns-in_err-next
returns-in_err-next c =
    let p = err_from_is_err_and c.from_residual-in_err-next.result c.from_residual-in_err-next.ensures.1 in
    rw (p.1, p.2) (sym (c.loop.invariant.0 ∙ next_fault c.loop.reader c.in_err-next.field-0.0 c.in_err-next.ensures.answer))

pub loop-smaller : goal.loop-smaller
loop-smaller c = let m = moved (goal.at.loop-smaller c).In-Some in omega (arith, m.further, m.within)

pub loop-preserved : goal.loop-preserved
loop-preserved c =
    let m = moved (goal.at.loop-preserved c).In-Some in
    (c.loop.invariant.0 ∙ ap verdict m.read ∙ verdict_ahead _ _, m.same)

pub returns : goal.returns
returns c = sym (c.loop.invariant.0 ∙ ap verdict (next_end c.loop.reader _ c.in_default.is c.in_ok-next.ensures.answer))
