use Rattle.std.proofs.Common.{refl, ap, ◌∙◌}
use Rattle.network.specs.Keeping.{with_crashed}
use Rattle.network.specs.Shown.{shown}
use Rattle.engine.proofs.Stations.{read_any}
use Rattle.engine.proofs.crashes.crash_at.Goals as goal

pub returns : goal.returns
returns g c =
    let a = c.args in
    record { to = c.crash.new.self; put = refl; shows = λ d. c.crash.ensures ∙ ap (λ x. with_crashed (shown x)) (read_any a.stations.now a.q c.index-stations-q.result d c.requires) }
