use Rattle.std.proofs.Common.{◌≡◌, ◌<◌, Bool, true, false, cond, ◌&&◌, eqb, length, get_or, Some, None, sym, refl, ap, ◌∙◌, arith}
use Rattle.std.specs.Bool.{then_some}
use Rattle.rack.specs.Entries.{held_under}
use Rattle.rack.specs.Racks.{kept}
use Rattle.rack.proofs.Keys.{stored_under}
use Rattle.rack.proofs.Searching.{same_test, look_past, look_here}
use Rattle.rack.proofs.rack.Rack.get.Goals as goal
use Rattle.rack.proofs.rack.Rack.get.Goals.{then-entry, else-entry}

pub returns-in_err-entry : goal.returns-in_err-entry
returns-in_err-entry g c =
    let r = c.args.self.now in
    let past = c.in_err-entry.ensures.lookup.3 in
    c.from_residual.ensures
    ∙ sym (stored_under r c.args.number c.args.station c.ranges.station.fits ∙ ap (held_under (kept r)) (sym c.new-key.ensures)
    ∙ look_past (kept r) r.order c.new-key.result.rank c.place.result c.place.ensures.value (omega (arith, past, ap length c.used.ensures.records)))

pub returns : goal.returns
returns g c =
    let r = c.args.self.now in
    let k = c.new-key.result.rank in
    let i = c.place.result in
    let x = c.in_ok-entry.entry.now in
    let found = c.in_ok-entry.ensures.lookup in
    let within : i < length (kept r) = omega (arith, found.3.0, ap length c.used.ensures.records) in
    let read : x ≡ get_or (kept r) i x = found.1 ∙ ap (λ l. get_or l i x) c.used.ensures.records in
    let here = look_here (kept r) r.order k i c.place.ensures.value x within read c.new-key.result.small in
    let test : c.if-entry.then_some ≡ (x.live && eqb k x.key) =
    elim c.if-entry.branch [
      | then-entry w ↦ w.then_some-is ∙ same_test x.key k ∙ ap (λ (b : Bool). b && eqb k x.key) (sym w.if-entry.true)
      | else-entry w ↦ w.then_some-is ∙ w.if-entry.false ∙ ap (λ (b : Bool). b && eqb k x.key) (sym w.if-entry.false)
    ] in
    c.then_some.ensures
    ∙ then_some_is c.if-entry.then_some x.held
    ∙ ap (λ (b : Bool). cond b (Some x.held) None) test
    ∙ sym (stored_under r c.args.number c.args.station c.ranges.station.fits ∙ ap (held_under (kept r)) (sym c.new-key.ensures) ∙ here) where
      then_some_is : {X : Type 0} (b : Bool) (x : X) → then_some b x ≡ cond b (Some x) None
      then_some_is true x = refl
      then_some_is false x = refl
