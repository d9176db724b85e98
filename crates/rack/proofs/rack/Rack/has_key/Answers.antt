use Rattle.std.proofs.Common.{◌≡◌, ◌<◌, ◌≤◌, false, eqb, length, get_or, ap, ◌∙◌, arith, rules}
use Rattle.rack.specs.declared.entry.Entry.{Entry}
use Rattle.rack.specs.Entries.{keyed}
use Rattle.rack.specs.Racks.{kept}
use Rattle.rack.proofs.Searching.{keyed_past, keyed_here}
use Rattle.rack.proofs.rack.Rack.has_key.Goals as goal

pub returns : goal.returns
returns g c =
    let r = c.args.self.now in
    let k = c.args.key.rank in
    let i = c.place.result in
    let is = c.used.ensures.records in
    let past : length c.used.result.now ≤ i → keyed k (kept r) ≡ false = λ h. keyed_past (kept r) r.order k i c.place.ensures.value (omega (arith, h, ap length is)) in
    let here : (x : Entry g.row.V.Denot) → i < length c.used.result.now → x ≡ get_or c.used.result.now i x → keyed k (kept r) ≡ eqb x.key k =
    λ x h e. keyed_here (kept r) r.order k i c.place.ensures.value x (omega (arith, h, ap length is)) (e ∙ ap (λ l. get_or l i x) is) c.args.key.small in
    search rules
