use Rattle.std.proofs.Common.{◌<◌, length, rules}
use Rattle.operation_log.proofs.Counted.{open_after}
use Rattle.operation_log.proofs.log.OperationLog.open.Goals as goal

pub returns-clause-after : goal.returns-clause-after
returns-clause-after g c =
    let l = c.args.self.now in
    let stations : c.args.p < length l.latest = search rules in
    let put = c.push.ensures in
    open_after l c.args.p _ _ c.opened.ensures c.if-not-has_room.ensures stations c.push.new.self put.written put.opened put.latest
