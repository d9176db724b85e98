use Rattle.std.proofs.Common.{sym, ap, ◌∙◌, arith}
use Rattle.std.proofs.lemmas.Result.{err_from_is_err_and}
use Rattle.schedule.specs.Items.{shown_placed}
use Rattle.schedule.specs.Readers.{to_come}
use Rattle.schedule.proofs.Readings.{Moved, next_item, next_end, next_fault}
use Rattle.judge.specs.declared.contents.Contents.{Contents}
use Rattle.judge.specs.Contents.{steps}
use Rattle.judge.specs.Judging.{said_of}
use Rattle.judge.proofs.Gathering.{said_ahead, said_fault, steps_noted}
use Rattle.judge.proofs.judging.survey.Goals as goal
use Rattle.judge.proofs.judging.survey.Goals.{In-Some}

moved : (c : In-Some) → Moved c.args.file.now c.loop-placed.reader c.next.new.self (shown_placed c.in-Some.placed)
moved c = next_item _ _ _ _ _ c.loop-placed.invariant.1 c.next.ensures.file c.in-Some.is c.in_ok-placed.ensures.answer c.next.ensures.stage c.next.ensures.place

pub returns-in_err-placed : goal.returns-in_err-placed
returns-in_err-placed c =
    let p = err_from_is_err_and c.from_residual-in_err-placed.result c.from_residual-in_err-placed.ensures.1 in
    let r = c.loop-placed.reader in
    rw (p.1, p.2)
    (sym (c.loop-placed.invariant.0
    ∙ said_fault c.loop-placed.contents (to_come r) _ (next_fault r c.in_err-placed.field-0.0 c.in_err-placed.ensures.answer)))

pub loop-placed-smaller : goal.loop-placed-smaller
loop-placed-smaller c = let m = moved (goal.at.loop-placed-smaller c).In-Some in omega (arith, m.further, m.within)

pub loop-placed-preserved : goal.loop-placed-preserved
loop-placed-preserved c =
    let m = moved (goal.at.loop-placed-preserved c).In-Some in
    let n = c.next.new.self in
    let x = shown_placed c.in-Some.placed in
    let s = steps_noted c.loop-placed.contents x.item in (
      c.loop-placed.invariant.0 ∙ ap (said_of c.loop-placed.contents) m.read
          ∙ said_ahead c.loop-placed.contents x (to_come n)
          ∙ ap (λ (k : Contents). said_of k (to_come n)) (sym c.note.ensures),
      m.same,
      omega (arith, m.further, ap (λ (k : Contents). steps k.counts) c.note.ensures),
      m.within,
    )

pub returns : goal.returns
returns c =
    sym (c.loop-placed.invariant.0 ∙ ap (said_of c.loop-placed.contents) (next_end c.loop-placed.reader _ c.in_default.is c.in_ok-placed.ensures.answer))
