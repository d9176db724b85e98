use Rattle.std.proofs.Common.{arith}
use Rattle.std.proofs.lemmas.Result.{err_from_is_err_and}
use Rattle.network.specs.Shown.{shown}
use Rattle.engine.specs.Memories.{state_of, setup_of}
use Rattle.engine.proofs.Tasks.{not_acting, acts_within, acts_same, not_free, is_free, next_fits, found}
use Rattle.engine.proofs.memory.Memory.test_ready.Goals as goal

pub returns-in_err-q : goal.returns-in_err-q
returns-in_err-q g c =
    let m = c.args.self.now in
    let e = err_from_is_err_and c.from_residual.result c.from_residual.ensures.1 in
    rw (e.1, e.2) (not_acting (setup_of g.C.Carrier.room m) (state_of g.C.Carrier.waits m) c.args.p _ c.in_err-q.field-0.0 c.in_err-q.ensures)

pub station_at-requires : goal.station_at-requires
station_at-requires g c =
    let m = c.args.self.now in
    let u = setup_of g.C.Carrier.room m in
    let s = state_of g.C.Carrier.waits m in
    omega (arith, acts_same u s c.args.p c.in_ok-q.q c.in_ok-q.ensures, acts_within u s c.args.p c.in_ok-q.q c.in_ok-q.ensures, c.requires.kept.table.1)

pub returns-in_err-tag : goal.returns-in_err-tag
returns-in_err-tag g c =
    let m = c.args.self.now in
    let u = setup_of g.C.Carrier.room m in
    let s = state_of g.C.Carrier.waits m in
    let e = err_from_is_err_and c.from_residual-in_err-tag.result c.from_residual-in_err-tag.ensures.1 in
    let y = c.station_at.result in
    let is = found m.first m.table m.stations.now c.args.p c.in_ok-q.q (acts_same u s c.args.p c.in_ok-q.q c.in_ok-q.ensures) (acts_within u s c.args.p c.in_ok-q.q c.in_ok-q.ensures) c.requires.kept.table.1 y c.station_at.ensures in
    rw (e.1, e.2) (not_free u s c.args.p c.in_ok-q.q c.in_ok-q.ensures (shown y) is _ c.in_err-tag.field-0.0 c.in_err-tag.ensures)

pub overflow_add-result : goal.overflow_add-result
overflow_add-result g c =
    let m = c.args.self.now in
    let u = setup_of g.C.Carrier.room m in
    let s = state_of g.C.Carrier.waits m in
    let y = c.station_at.result in
    let is = found m.first m.table m.stations.now c.args.p c.in_ok-q.q (acts_same u s c.args.p c.in_ok-q.q c.in_ok-q.ensures) (acts_within u s c.args.p c.in_ok-q.q c.in_ok-q.ensures) c.requires.kept.table.1 y c.station_at.ensures in
    omega (arith, next_fits u s c.args.p c.in_ok-q.q c.in_ok-q.ensures (shown y) is c.in_ok-tag.tag c.in_ok-tag.ensures c.requires.rises)

pub returns : goal.returns
returns g c =
    let m = c.args.self.now in
    let u = setup_of g.C.Carrier.room m in
    let s = state_of g.C.Carrier.waits m in
    let y = c.station_at.result in
    let is = found m.first m.table m.stations.now c.args.p c.in_ok-q.q (acts_same u s c.args.p c.in_ok-q.q c.in_ok-q.ensures) (acts_within u s c.args.p c.in_ok-q.q c.in_ok-q.ensures) c.requires.kept.table.1 y c.station_at.ensures in
    is_free u s c.args.p c.in_ok-q.q c.in_ok-q.ensures (shown y) is c.in_ok-tag.tag c.in_ok-tag.ensures
