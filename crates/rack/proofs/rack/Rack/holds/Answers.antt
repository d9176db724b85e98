use Rattle.std.proofs.Common.{ℕ, ◌+◌, drop, sym, ap, ◌∙◌}
use Rattle.std.specs.List.{prefix_len}
use Rattle.rack.specs.Entries.{busy, before}
use Rattle.rack.specs.Racks.{kept, stored}
use Rattle.rack.proofs.Shifting.{part_from}
use Rattle.rack.proofs.Numbers.{busy_taken, busy_under}
use Rattle.rack.proofs.rack.Rack.holds.Goals as goal

pub returns : goal.returns
unfolding stored
returns g c =
    let r = c.args.self.now in
    let k = c.new-key.result.rank in
    let i = c.place.result in
    c.busy_below.ensures
    ∙ sym (busy_taken (k + 256) _)
    ∙ ap (busy (k + 256)) (part_from c.used.result.now i ∙ ap (drop i) c.used.ensures.records ∙ ap (λ (n : ℕ). drop n (kept r)) c.place.ensures.value)
    ∙ ap (λ (n : ℕ). busy (n + 256) (drop (prefix_len (before n) (kept r)) (kept r))) c.new-key.ensures
    ∙ busy_under (kept r) c.args.number r.order c.ranges.number.fits
