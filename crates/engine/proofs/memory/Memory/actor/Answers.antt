use Rattle.std.proofs.Common.{◌∙◌}
use Rattle.std.proofs.lemmas.Result.{err_from_is_err_and}
use Rattle.engine.specs.Memories.{state_of, setup_of}
use Rattle.engine.proofs.Acting.{no_station, not_present, has_crashed, may_act}
use Rattle.engine.proofs.memory.Memory.actor.Goals as goal

pub returns-in_err-hold : goal.returns-in_err-hold
returns-in_err-hold g c =
    let m = c.args.self.now in
    let e = err_from_is_err_and c.from_residual.result c.from_residual.ensures.1 in
    rw (e.1, e.2) (no_station (setup_of g.C.Carrier.room m) (state_of g.C.Carrier.waits m) c.args.p c.in_err-hold.field-0.0 c.in_err-hold.ensures)

pub returns-in_err-hold-2 : goal.returns-in_err-hold-2
returns-in_err-hold-2 g c =
    let m = c.args.self.now in
    let e = err_from_is_err_and c.from_residual-in_err-hold-2.result c.from_residual-in_err-hold-2.ensures.1 in
    rw (e.1, e.2)
    (not_present (setup_of g.C.Carrier.room m) (state_of g.C.Carrier.waits m) c.args.p c.contains.result (c.contains.ensures ∙ c.requires.kept.present c.args.p) c.in_ok-hold.ensures
    c.in_err-hold-2.field-0.0 c.in_err-hold-2.ensures)

pub returns-in_err-hold-3 : goal.returns-in_err-hold-3
returns-in_err-hold-3 g c =
    let m = c.args.self.now in
    let e = err_from_is_err_and c.from_residual-in_err-hold-3.result c.from_residual-in_err-hold-3.ensures.1 in
    rw (e.1, e.2)
    (has_crashed (setup_of g.C.Carrier.room m) (state_of g.C.Carrier.waits m) c.args.p c.contains.result (c.contains.ensures ∙ c.requires.kept.present c.args.p) c.in_ok-hold.ensures
    c.contains-2.result (c.contains-2.ensures ∙ c.requires.kept.active c.args.p) c.in_ok-hold-2.ensures c.in_err-hold-3.field-0.0 c.in_err-hold-3.ensures)

pub returns : goal.returns
returns g c =
    let m = c.args.self.now in
    may_act (setup_of g.C.Carrier.room m) (state_of g.C.Carrier.waits m) c.args.p c.contains.result (c.contains.ensures ∙ c.requires.kept.present c.args.p) c.in_ok-hold.ensures
    c.contains-2.result (c.contains-2.ensures ∙ c.requires.kept.active c.args.p) c.in_ok-hold-2.ensures c.in_ok-hold-3.ensures
