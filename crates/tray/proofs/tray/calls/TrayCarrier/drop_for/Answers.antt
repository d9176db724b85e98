use Rattle.std.proofs.Common.{ap, ◌∙◌}
use Rattle.carrier.specs.Counts.{by_copy, fits}
use Rattle.tray.proofs.Leaving.{left_except}
use Rattle.tray.proofs.tray.calls.TrayCarrier.drop_for.Goals as goal

pub returns : goal.returns
returns g c = record { after = c.sift.ensures.after ∙ left_except c.args.station _; same = ap (fits by_copy) c.sift.ensures.same }
