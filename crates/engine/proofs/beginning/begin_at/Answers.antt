use Rattle.std.proofs.Common.{refl, ap, ◌∙◌}
use Rattle.network.specs.Changes.{begin}
use Rattle.network.specs.Shown.{shown}
use Rattle.engine.proofs.Stations.{read_any}
use Rattle.engine.proofs.Tasks.{chosen}
use Rattle.engine.proofs.beginning.begin_at.Goals as goal

pub returns : goal.returns
returns g c =
    let a = c.args in
    record {
      to = c.begin.new.self;
      put = refl;
      shows = λ d.
          chosen _ _ _ _ c.begin.ensures.after (c.requires.rises c.index-stations-q.result)
          ∙ ap (λ x. begin a.task (shown x)) (read_any a.stations.now a.q c.index-stations-q.result d c.requires.within);
    }
