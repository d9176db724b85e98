use Rattle.std.proofs.Common.{Bool, ap, ap₂, sym, ◌∙◌}
use Rattle.std.proofs.lemmas.Result.{err_from_is_err_and}
use Rattle.network.specs.declared.fault.StepFault.{StepFault}
use Rattle.network.specs.Refusals.{unless}
use Rattle.engine.specs.Memories.{passed}
use Rattle.engine.proofs.Faults.{fails_first, passes_on, last_decides}
use Rattle.engine.proofs.memory.Memory.test_places.Goals as goal

pub returns-in_err-test_room : goal.returns-in_err-test_room
returns-in_err-test_room g c =
    let e = err_from_is_err_and c.from_residual.result c.from_residual.ensures.1 in
    rw (e.1, e.2) (fails_first _ _ c.in_err-test_room.field-0.0 c.in_err-test_room.ensures)

pub returns : goal.returns
returns g c =
    c.hold.ensures
    ∙ ap₂ (λ (b : Bool) (f : StepFault). passed (unless b f)) c.has_room.ensures c.from.ensures
    ∙ ap passed (sym (last_decides _) ∙ sym (passes_on _ _ c.in_ok-test_room.ensures))
