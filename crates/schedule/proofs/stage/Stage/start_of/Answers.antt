use Rattle.std.proofs.Common.{◌≡◌, ℕ, List, drop, Err, Result, sym, ap, ◌∙◌, ap₂}
use Rattle.std.proofs.lemmas.List.{take_rest}
use Rattle.std.proofs.lemmas.Result.{err_from_is_err_and}
use Rattle.fields.specs.Numbers.{two}
use Rattle.schedule.specs.declared.fault.Flaw.{Flaw}
use Rattle.schedule.specs.Items.{start}
use Rattle.schedule.specs.Rules.{start_judged}
use Rattle.schedule.proofs.Starts.{said, judged_start}
use Rattle.schedule.proofs.stage.Stage.start_of.Goals as goal

pub returns-in_err-judge : goal.returns-in_err-judge
returns-in_err-judge c =
    let p = err_from_is_err_and c.from_residual.result c.from_residual.ensures.1 in
    let w = take_rest c.args.body.now 6 in
    let j = judged_start c.args.self c.args.class c.args.body.now c.in-len6-up.len_at_least c.requires.known in
    let bs : List ℕ = c.args.body.now in
    let e : Err c.in_err-judge.field-0.0 ≡ start_judged c.args.self c.args.class (two bs 2) (two bs 4) (drop 6 bs) =
    c.in_err-judge.ensures.value
    ∙ ap (start_judged c.args.self c.args.class c.from_le_bytes.result c.from_le_bytes-2.result) w
    ∙ ap₂ (λ (t k : ℕ). start_judged c.args.self c.args.class t k (drop 6 bs)) c.from_le_bytes.ensures c.from_le_bytes-2.ensures in
    rw (p.1, p.2) (ap (λ (r : Result Unit Flaw). said r (start c.args.class (two bs 2) (two bs 4) (drop 6 bs))) e ∙ sym j)
