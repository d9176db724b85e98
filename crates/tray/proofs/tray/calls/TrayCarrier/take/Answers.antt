use Rattle.std.proofs.Common.{◌≡◌, None, rules}
use Rattle.carrier.proofs.Copies.{at_same}
use Rattle.rack.specs.Racks.{stored}
use Rattle.tray.proofs.tray.calls.TrayCarrier.take.Goals as goal

pub returns-in_err-held-clause-after : goal.returns-in_err-held-clause-after
returns-in_err-held-clause-after g c =
    let w = stored c.args.self.now.rack in
    let gone : w c.args.number c.args.station ≡ None = search rules in
    at_same w c.args.number c.args.station None gone
