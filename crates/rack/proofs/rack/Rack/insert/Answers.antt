use Rattle.std.proofs.Common.{◌≡◌, ℕ, ◌<◌, true, false, cond, eqb, is_some, Some, None, Option, sym, refl, ap, ◌∙◌, arith}
use Rattle.std.proofs.lemmas.Bool.{and_from, lt-ltb, not_from_false, cond-true}
use Rattle.carrier.specs.Counts.{copies}
use Rattle.rack.specs.Entries.{key_of, held_under}
use Rattle.rack.specs.Racks.{kept, stored, capacity, spare}
use Rattle.rack.proofs.Counts.{copies_lives}
use Rattle.rack.proofs.Keys.{stored_under, waiting_changed}
use Rattle.rack.proofs.rack.Rack.insert.Goals as goal

none_of : {X : Type 0} (o : Option X) → is_some o ≡ false → o ≡ None
none_of None h = refl
none_of (Some x) h = cc

pub make_way-requires-clause-gone : goal.make_way-requires-clause-gone
make_way-requires-clause-gone g c =
    let r = c.args.self.now in
    ap (held_under (kept r)) c.new-key.ensures ∙ sym (stored_under r c.args.number c.args.station c.ranges.station.fits)
    ∙ none_of _ (ap is_some (sym c.get.ensures) ∙ sym c.is_some.ensures ∙ c.if-is_some.false)

pub make_way-requires-clause-spare : goal.make_way-requires-clause-spare
unfolding stored
make_way-requires-clause-spare g c =
    let r = c.args.self.now in
    omega (arith, c.count.ensures, copies_lives (kept r) r.order, r.count, c.capacity.ensures, c.if-count-capacity.false)

pub returns-clause-after : goal.returns-clause-after
unfolding stored
returns-clause-after g c =
    let r = c.args.self.now in
    let n = c.args.number in
    let q = c.args.station in
    let held = c.args.held in
    let few : copies (stored r) < capacity r = omega (arith, c.count.ensures, c.capacity.ensures, c.if-count-capacity.false) in
    let free : spare r n q ≡ true = and_from _ _ (not_from_false _ (ap is_some (sym c.get.ensures) ∙ sym c.is_some.ensures ∙ c.if-is_some.false)) (lt-ltb _ _ few) in
    waiting_changed (kept r) _ n q (Some held) c.ranges.station.fits
    (λ j. c.add.ensures.after j ∙ ap (λ (k : ℕ). cond (eqb j k) (Some held) (held_under (kept c.make_way.new.self) j)) c.new-key.ensures
    ∙ ap (λ o. cond (eqb j (key_of n q)) (Some held) o) (c.make_way.ensures.after j))
    ∙ sym (cond-true _ _ _ free)
