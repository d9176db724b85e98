use Rattle.std.proofs.Common.{sym, ◌∙◌, arith}
use Rattle.std.proofs.lemmas.Bool.{eqb-true, eqb-false}
use Rattle.carrier.specs.Counts.{receivers}
use Rattle.carrier.proofs.Asking.{silent_one, one_full, one_asked}
use Rattle.carrier.proofs.room.one_fits.Goals as goal

pub returns-then-is_empty : goal.returns-then-is_empty
unfolding receivers
returns-then-is_empty g c =
    let s = c.args.carrier.now in
    sym (silent_one g.C.Counted.cost g.C.Counted.free (g.C.Counted.size s) (g.C.Counted.counted s) c.args.item.now (eqb-true _ 0 (sym c.is_empty.ensures ∙ c.if-is_empty.true)) (g.C.Counted.held s))

pub returns-then-cost-left : goal.returns-then-cost-left
returns-then-cost-left g c =
    let s = c.args.carrier.now in
    sym (one_full g.C.Counted.cost g.C.Counted.free (g.C.Counted.size s) (g.C.Counted.counted s) c.args.item.now (omega (arith, c.left.ensures, c.cost.ensures.value, c.if-cost-left.true)))

pub returns : goal.returns
unfolding receivers
returns g c =
    let s = c.args.carrier.now in
    one_asked g.C.Counted.cost g.C.Counted.free (g.C.Counted.size s) (g.C.Counted.counted s) c.args.item.now
    (eqb-false _ 0 (sym c.is_empty.ensures ∙ c.if-is_empty.false))
    (omega (arith, c.left.ensures, c.cost.ensures.value, c.if-cost-left.false))
    c.holds.result c.holds.ensures
