use Rattle.std.proofs.lemmas.Result.{err_from_is_err_and}
use Rattle.engine.specs.Memories.{state_of, setup_of}
use Rattle.engine.proofs.Ticking.{due_kept, due_told, end_told}
use Rattle.engine.proofs.memory.Memory.test_tick.Goals as goal

pub returns-in_err-hold : goal.returns-in_err-hold
returns-in_err-hold g c =
    let m = c.args.self.now in
    let asked = due_kept (g.C.Carrier.waits m.carrier) c.choice.result m.settings.choice m.clock c.oldest.result c.is_due-due.result c.is_due-due.ensures c.choice.ensures c.oldest.ensures in
    let p = err_from_is_err_and c.from_residual.result c.from_residual.ensures.1 in
    rw (p.1, p.2) (due_told (setup_of g.C.Carrier.room m) (state_of g.C.Carrier.waits m) c.is_due-due.result asked c.in_err-hold.field-0.0 c.in_err-hold.ensures)

pub returns : goal.returns
returns g c =
    let m = c.args.self.now in
    let asked = due_kept (g.C.Carrier.waits m.carrier) c.choice.result m.settings.choice m.clock c.oldest.result c.is_due-due.result c.is_due-due.ensures c.choice.ensures c.oldest.ensures in
    end_told (setup_of g.C.Carrier.room m) (state_of g.C.Carrier.waits m) c.is_due-due.result asked c.hold-2.result c.in_ok-hold.ensures c.hold-2.ensures
