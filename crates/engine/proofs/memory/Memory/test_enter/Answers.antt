use Rattle.std.proofs.Common.{Bool, ap, ◌∙◌, arith}
use Rattle.std.proofs.lemmas.Bool.{ltb-true}
use Rattle.std.proofs.lemmas.Result.{err_from_is_err_and}
use Rattle.settings.specs.declared.choice.Choice.{Choice}
use Rattle.network.specs.declared.fault.StepFault.TheVariants.{Used, Churn}
use Rattle.network.specs.Books.{allows}
use Rattle.network.specs.Refusals.{in_table, unless, churn_test}
use Rattle.book.specs.Rings.{book_of}
use Rattle.engine.specs.Memories.{state_of, setup_of, passed}
use Rattle.engine.proofs.Arrivals.{fresh}
use Rattle.engine.proofs.Faults.{fails_first, fault_with, second_told, third_told, three_passed, test_held}
use Rattle.engine.proofs.Stations.{unused_shown}
use Rattle.engine.proofs.memory.Memory.test_enter.Goals as goal

pub is_unused-requires : goal.is_unused-requires
is_unused-requires g c = omega (arith, ltb-true _ _ (test_held _ _ c.in_ok-hold.ensures), c.requires.kept.table.1)

pub returns-in_err-hold : goal.returns-in_err-hold
returns-in_err-hold g c =
    let m = c.args.self.now in
    let u = setup_of g.C.Carrier.room m in
    let s = state_of g.C.Carrier.waits m in
    let e = err_from_is_err_and c.from_residual.result c.from_residual.ensures.1 in
    rw (e.1, e.2) (fault_with c.args.p _ c.in_err-hold.field-0.0 (fails_first (in_table u c.args.p) _ c.in_err-hold.field-0.0 c.in_err-hold.ensures))

pub returns-in_err-hold-2 : goal.returns-in_err-hold-2
returns-in_err-hold-2 g c =
    let m = c.args.self.now in
    let p = c.args.p in
    let u = setup_of g.C.Carrier.room m in
    let s = state_of g.C.Carrier.waits m in
    let f = c.in_err-hold-2.field-0.0 in
    let low = ltb-true _ _ (test_held _ _ c.in_ok-hold.ensures) in
    let used = unused_shown m.first m.table m.stations.now p low c.requires.kept.table.1 c.is_unused.result c.is_unused.ensures in
    let e = err_from_is_err_and c.from_residual-in_err-hold-2.result c.from_residual-in_err-hold-2.ensures.1 in
    rw (e.1, e.2)
    (fault_with p _ f (second_told (in_table u p) (fresh u s p) (churn_test u s) f c.in_ok-hold.ensures (c.in_err-hold-2.ensures ∙ ap (λ (b : Bool). passed (unless b Used)) used)))

pub returns-in_err-hold-3 : goal.returns-in_err-hold-3
returns-in_err-hold-3 g c =
    let m = c.args.self.now in
    let p = c.args.p in
    let u = setup_of g.C.Carrier.room m in
    let s = state_of g.C.Carrier.waits m in
    let f = c.in_err-hold-3.field-0.0 in
    let low = ltb-true _ _ (test_held _ _ c.in_ok-hold.ensures) in
    let used = unused_shown m.first m.table m.stations.now p low c.requires.kept.table.1 c.is_unused.result c.is_unused.ensures in
    let allowed = c.allows.ensures ∙ ap (λ (h : Choice). allows h.alpha m.clock (book_of m.book)) c.choice-alpha.ensures in
    let e = err_from_is_err_and c.from_residual-in_err-hold-3.result c.from_residual-in_err-hold-3.ensures.1 in
    rw (e.1, e.2)
    (fault_with p _ f
    (third_told (in_table u p) (fresh u s p) (churn_test u s) f c.in_ok-hold.ensures (c.in_ok-hold-2.ensures ∙ ap (λ (b : Bool). passed (unless b Used)) used)
    (c.in_err-hold-3.ensures ∙ ap (λ (b : Bool). passed (unless b Churn)) allowed)))

pub returns : goal.returns
returns g c =
    let m = c.args.self.now in
    let p = c.args.p in
    let u = setup_of g.C.Carrier.room m in
    let s = state_of g.C.Carrier.waits m in
    let low = ltb-true _ _ (test_held _ _ c.in_ok-hold.ensures) in
    let used = unused_shown m.first m.table m.stations.now p low c.requires.kept.table.1 c.is_unused.result c.is_unused.ensures in
    let allowed = c.allows.ensures ∙ ap (λ (h : Choice). allows h.alpha m.clock (book_of m.book)) c.choice-alpha.ensures in
    three_passed p (in_table u p) (fresh u s p) (churn_test u s) c.in_ok-hold.ensures (c.in_ok-hold-2.ensures ∙ ap (λ (b : Bool). passed (unless b Used)) used)
    (c.in_ok-hold-3.ensures ∙ ap (λ (b : Bool). passed (unless b Churn)) allowed)
