use Rattle.std.proofs.Common.{◌-◌, length, get_or, ap, ◌∙◌, arith}
use Rattle.std.proofs.lemmas.List.{length-take-le}
use Rattle.std.proofs.lemmas.Bool.{leb-true}
use Rattle.rack.specs.Racks.{kept}
use Rattle.rack.proofs.Keeping.{steady_flag, last_some}
use Rattle.rack.proofs.rack.Rack.continues.Goals as goal

pub returns-in-Some : goal.returns-in-Some
returns-in-Some g c =
    let r = c.args.self.now in
    let is = c.used.ensures.records in
    let x = c.in-Some.last.now in
    let found = c.in-Some.ensures.item in
    let last = last_some (kept r) x (omega (arith, found.3.0, ap length is)) (found.1 ∙ ap (λ l. get_or l (length l - 1) x) is) in
    λ t. record {
      end = omega (arith, c.if-i-self.false, length-take-le r.len r.records.now r.within);
      so_far = steady_flag r c.if-not-self.false;
      next = omega (arith, last, leb-true x.held.sent c.args.sent t);
    }
