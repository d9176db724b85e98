use Rattle.std.proofs.Common.{sym, ◌∙◌, arith}
use Rattle.rack.specs.Racks.{kept, stored}
use Rattle.rack.proofs.Counts.{copies_lives}
use Rattle.rack.proofs.Numbers.{stored_bound}
use Rattle.rack.proofs.rack.Rack.count.Goals as goal

pub returns : goal.returns
unfolding stored
returns g c =
    let r = c.args.self.now in
    let value = r.count ∙ sym (copies_lives (kept r) r.order) in
    record { value = value; bound = omega (arith, value, stored_bound r) }
