use Rattle.std.proofs.Common.{refl, ap, ◌∙◌}
use Rattle.network.specs.Keeping.{with_life}
use Rattle.network.specs.Shown.{shown}
use Rattle.network.specs.declared.station.Life.TheVariants.{Left}
use Rattle.engine.proofs.Stations.{read_any}
use Rattle.engine.proofs.leaving.leave_at.Goals as goal

pub returns : goal.returns
returns g c =
    let a = c.args in
    record { to = c.leave.new.self; put = refl; shows = λ d. c.leave.ensures ∙ ap (λ x. with_life Left (shown x)) (read_any a.stations.now a.q c.index-stations-q.result d c.requires) }
