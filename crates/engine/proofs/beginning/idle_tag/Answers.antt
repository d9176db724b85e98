use Rattle.std.proofs.Common.{⊎_elim, ap}
use Rattle.std.proofs.lemmas.Result.{err_from_is_err_and}
use Rattle.network.specs.Keeping.{under_way}
use Rattle.engine.proofs.Tasks.{not_joined, idle_told, busy_told}
use Rattle.engine.proofs.beginning.idle_tag.Goals as goal

pub returns-in_err-hold : goal.returns-in_err-hold
returns-in_err-hold g c =
    let x = c.args.station.now in
    let e = err_from_is_err_and c.from_residual.result c.from_residual.ensures.1 in
    rw (e.1, e.2) (not_joined x.operation x.joined c.in_err-hold.field-0.0 c.in_err-hold.ensures)

pub returns-in-Idle : goal.returns-in-Idle
returns-in-Idle g c =
    let x = c.args.station.now in
    idle_told x.operation x.joined c.in_ok-hold.ensures c.in-Idle.tag c.in-Idle.is

pub returns-in-PhaseOne : goal.returns-in-PhaseOne
returns-in-PhaseOne g c =
    let x = c.args.station.now in
    busy_told x.operation x.joined c.in_ok-hold.ensures (⊎_elim (λ h. ap under_way h.2) (λ h. ap under_way h.3) c.in-PhaseOne.is)
