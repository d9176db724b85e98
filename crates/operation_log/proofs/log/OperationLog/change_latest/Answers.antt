use Rattle.operation_log.proofs.Counted.{none_after, within, some_after, some_memory}
use Rattle.operation_log.proofs.log.OperationLog.change_latest.Goals as goal

pub put_latest-requires : goal.put_latest-requires
put_latest-requires g c = within c.args.self.now c.args.p c.in-Some.entry c.in-Some.ensures

pub returns-else-not-can_count-clause-after : goal.returns-else-not-can_count-clause-after
returns-else-not-can_count-clause-after g c =
    let put = c.put_latest.ensures in
    λ f gives. some_after c.args.self.now c.args.p c.in-Some.entry c.in-Some.ensures _ c.put_latest.new.self put.written put.opened put.latest f c.if-not-can_count.ensures (gives _ _ c.change.ensures)

pub returns-else-not-can_count-clause-memory : goal.returns-else-not-can_count-clause-memory
returns-else-not-can_count-clause-memory g c =
    let put = c.put_latest.ensures in
    some_memory c.args.self.now c.args.p c.in-Some.entry c.in-Some.ensures _ c.put_latest.new.self put.written put.opened put.named

pub returns-in_default-clause-after : goal.returns-in_default-clause-after
returns-in_default-clause-after g c = λ f gives. none_after c.args.self.now c.args.p f c.in_default.ensures
