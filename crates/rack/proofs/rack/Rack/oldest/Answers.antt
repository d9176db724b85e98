use Rattle.std.proofs.Common.{◌≡◌, ◌<◌, ◌≤◌, length, get_or, sym, ap, ◌∙◌, arith}
use Rattle.std.specs.List.{prefix_len}
use Rattle.rack.specs.Entries.{dead, soonest}
use Rattle.rack.specs.Racks.{kept, stored}
use Rattle.rack.proofs.Ticks.{soonest_none, soonest_first, soonest_reduced, soonest_earliest}
use Rattle.rack.proofs.Keeping.{steady_flag}
use Rattle.rack.proofs.rack.Rack.oldest.Goals as goal

pub returns-in_err-first : goal.returns-in_err-first
unfolding stored
returns-in_err-first g c =
    let r = c.args.self.now in
    let past : length (kept r) ≤ prefix_len dead (kept r) = omega (arith, c.in_err-first.ensures.lookup.3, ap length c.used.ensures.records, r.front) in
    c.from_residual.ensures ∙ sym (soonest_none (kept r) past) ∙ soonest_earliest (kept r) r.order

pub returns-then-self : goal.returns-then-self
unfolding stored
returns-then-self g c =
    let r = c.args.self.now in
    let x = c.in_ok-first.first.now in
    let found = c.in_ok-first.ensures.lookup in
    let within : prefix_len dead (kept r) < length (kept r) = omega (arith, found.3.0, ap length c.used.ensures.records, r.front) in
    let read : x ≡ get_or (kept r) (prefix_len dead (kept r)) x = found.1 ∙ ap (λ l. get_or l r.first x) c.used.ensures.records ∙ ap (λ n. get_or (kept r) n x) r.front in
    sym (soonest_first 0 (kept r) x (steady_flag r c.if-self.true) within read) ∙ soonest_earliest (kept r) r.order

pub returns-else-self : goal.returns-else-self
unfolding stored
returns-else-self g c =
    let r = c.args.self.now in
    c.earliest_sent.ensures ∙ sym (soonest_reduced c.used-else-self.result.now) ∙ ap soonest c.used-else-self.ensures.records ∙ soonest_earliest (kept r) r.order
