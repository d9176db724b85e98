use Rattle.std.proofs.Common.{sym, ap, ◌∙◌}
use Rattle.std.proofs.lemmas.Result.{err_from_is_err_and}
use Rattle.schedule.specs.declared.Record.{Record}
use Rattle.schedule.specs.Items.{shown}
use Rattle.schedule.specs.Writing.{stage_past_item}
use Rattle.schedule.proofs.Starts.{spelled_flaw}
use Rattle.schedule.proofs.stage.Stage.past.Goals as goal

pub returns-in_err-judge-in_default-Start : goal.returns-in_err-judge-in_default-Start
returns-in_err-judge-in_default-Start c =
    let p = err_from_is_err_and c.from_residual.result c.from_residual.ensures.1 in
    let s = c.in_default-Start.start in
    let e = spelled_flaw c.args.self s.class s.table s.present s.first.now c.in_err-judge-in_default-Start.field-0.0 c.judge.ensures.short.0 c.judge.ensures.short.1 c.in_err-judge-in_default-Start.ensures.value in
    rw (p.1, p.2) (e ∙ ap (λ (r : Record). stage_past_item c.args.self (shown r)) (sym c.in_default-Start.is-1))
