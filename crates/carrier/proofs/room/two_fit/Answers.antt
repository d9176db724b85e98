use Rattle.std.proofs.Common.{sym, ◌∙◌, arith}
use Rattle.std.proofs.lemmas.Bool.{eqb-true, eqb-false, not-true, not-false}
use Rattle.carrier.specs.Counts.{receivers}
use Rattle.carrier.proofs.Asking.{silent_first, silent_second, two_full, two_same, two_first_waits, two_asked}
use Rattle.carrier.proofs.room.two_fit.Goals as goal

pub returns-then-is_empty : goal.returns-then-is_empty
unfolding receivers
returns-then-is_empty g c =
    let s = c.args.carrier.now in
    c.one_fits.ensures
    ∙ sym (silent_first g.C.Counted.cost g.C.Counted.free (g.C.Counted.size s) (g.C.Counted.counted s) c.args.first.now (eqb-true _ 0 (sym c.is_empty.ensures ∙ c.if-is_empty.true)) c.args.second.now)

pub returns-then-is_empty-2 : goal.returns-then-is_empty-2
unfolding receivers
returns-then-is_empty-2 g c =
    let s = c.args.carrier.now in
    c.one_fits-then-is_empty-2.ensures
    ∙ sym (silent_second g.C.Counted.cost g.C.Counted.free (g.C.Counted.size s) (g.C.Counted.counted s) c.args.second.now (eqb-true _ 0 (sym c.is_empty-2.ensures ∙ c.if-is_empty-2.true)) c.args.first.now)

pub returns-then-cost-left : goal.returns-then-cost-left
unfolding receivers
returns-then-cost-left g c =
    let s = c.args.carrier.now in
    sym (two_full g.C.Counted.cost g.C.Counted.free (g.C.Counted.size s) (g.C.Counted.counted s) c.args.first.now c.args.second.now
    (eqb-false _ 0 (sym c.is_empty.ensures ∙ c.if-is_empty.false)) (eqb-false _ 0 (sym c.is_empty-2.ensures ∙ c.if-is_empty-2.false))
    (omega (arith, c.left.ensures, c.cost.ensures.value, c.cost-2.ensures.value, c.if-cost-left.true)))

pub returns-then-first-second : goal.returns-then-first-second
unfolding receivers
returns-then-first-second g c =
    let s = c.args.carrier.now in
    sym (two_same g.C.Counted.cost g.C.Counted.free (g.C.Counted.size s) (g.C.Counted.counted s) c.args.first.now c.args.second.now
    (eqb-false _ 0 (sym c.is_empty.ensures ∙ c.if-is_empty.false)) (eqb-false _ 0 (sym c.is_empty-2.ensures ∙ c.if-is_empty-2.false))
    c.if-first-second.true)

pub returns-then-holds : goal.returns-then-holds
unfolding receivers
returns-then-holds g c =
    let s = c.args.carrier.now in
    sym (two_first_waits g.C.Counted.cost g.C.Counted.free (g.C.Counted.size s) (g.C.Counted.counted s) c.args.first.now c.args.second.now
    (eqb-false _ 0 (sym c.is_empty.ensures ∙ c.if-is_empty.false)) (eqb-false _ 0 (sym c.is_empty-2.ensures ∙ c.if-is_empty-2.false))
    (eqb-false _ 0 (not-true _ (sym c.holds.ensures ∙ c.if-holds.true))))

pub returns : goal.returns
unfolding receivers
returns g c =
    let s = c.args.carrier.now in
    two_asked g.C.Counted.cost g.C.Counted.free (g.C.Counted.size s) (g.C.Counted.counted s) c.args.first.now c.args.second.now
    (eqb-false _ 0 (sym c.is_empty.ensures ∙ c.if-is_empty.false)) (eqb-false _ 0 (sym c.is_empty-2.ensures ∙ c.if-is_empty-2.false))
    (omega (arith, c.left.ensures, c.cost.ensures.value, c.cost-2.ensures.value, c.if-cost-left.false))
    c.if-first-second.false (eqb-true _ 0 (not-false _ (sym c.holds.ensures ∙ c.if-holds.false)))
    c.holds-2.result c.holds-2.ensures
