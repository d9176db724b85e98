use Rattle.std.proofs.Common.{ℕ, ◌+◌, Err, ap, sym, ◌∙◌, subst, rules}
use borrow.Author.Tests.{true-leb, false-leb}
use Rattle.std.proofs.lemmas.Result.{MatchResult-weaker, err_from_is_err_and}
use Rattle.schedule.specs.declared.fault.FileFault.{FileFault}
use Rattle.schedule.specs.Faults.{told}
use Rattle.schedule.proofs.Places.{ToldAt, told_err, told_ok}
use Rattle.schedule.proofs.Checks.{ComeTo, come_to_start, oversize, size_small, come_to_flaw, come_past, come_to_end}
use Rattle.schedule.proofs.writer.check_records.Goals as goal

pub returns-then-not-fit_in_file : goal.returns-then-not-fit_in_file
returns-then-not-fit_in_file c = oversize c.args.records.now (false-leb _ _ c.if-not-fit_in_file.ensures)

pub loop-item-init : goal.loop-item-init
loop-item-init c = come_to_start c.args.records.now (true-leb _ _ c.if-not-fit_in_file.ensures)

pub returns-in_err-stage : goal.returns-in_err-stage
returns-in_err-stage c =
    let p = err_from_is_err_and c.from_residual.result c.from_residual.ensures.1 in
    let t : ToldAt c.past.result c.loop-item.at (Err c.in_err-stage.field-0.0) =
    MatchResult-weaker c.past.result c.in_err-stage.ensures.cases (λ x e. e) (λ f e. search rules) in
    let m = told_err c.past.result c.loop-item.at c.in_err-stage.field-0.0 t in
    let f = come_to_flaw c.args.records.now c.loop-item.item-index c.loop-item.stage c.loop-item.at
    (true-leb _ _ c.if-not-fit_in_file.ensures) c.loop-item.invariant m.0 c.loop-item-test.true (sym m.1 ∙ c.past.ensures) in
    rw (p.1, p.2) (ap (λ (e : FileFault). Err (told e)) m.2 ∙ f)

pub overflow_add-at : goal.overflow_add-at
overflow_add-at c =
    let small = size_small c.args.records.now c.loop-item.item-index c.loop-item.stage c.loop-item.at
    (true-leb _ _ c.if-not-fit_in_file.ensures) c.loop-item.invariant c.loop-item-test.true in
    search rules

pub loop-item-preserved : goal.loop-item-preserved
loop-item-preserved c =
    let rs = c.args.records.now in
    let past = told_ok c.past.result c.loop-item.at c.in_ok-stage.stage c.in_ok-stage.ensures.cases in
    subst (λ (n : ℕ). ComeTo rs (c.loop-item.item-index + 1) c.in_ok-stage.stage (c.loop-item.at + n)) (sym c.size.ensures)
    (come_past rs c.loop-item.item-index c.loop-item.stage c.loop-item.at
    (true-leb _ _ c.if-not-fit_in_file.ensures) c.loop-item.invariant c.in_ok-stage.stage c.loop-item-test.true (sym past ∙ c.past.ensures))

pub returns-in-Steps : goal.returns-in-Steps
returns-in-Steps c =
    let e = come_to_end c.args.records.now c.loop-item.item-index c.loop-item.stage c.loop-item.at
    (true-leb _ _ c.if-not-fit_in_file.ensures) c.loop-item.invariant c.loop-item-test.false in
    search rules

pub returns-in_default : goal.returns-in_default
returns-in_default c =
    let e = come_to_end c.args.records.now c.loop-item.item-index c.loop-item.stage c.loop-item.at
    (true-leb _ _ c.if-not-fit_in_file.ensures) c.loop-item.invariant c.loop-item-test.false in
    search rules
