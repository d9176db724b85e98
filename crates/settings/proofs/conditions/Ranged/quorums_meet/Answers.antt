use Rattle.std.proofs.Common.{add-le-add}
use mir.Facts.{Fits-below}
use Rattle.settings.proofs.Bounds.{apart_below, crashed_below, common_below}
use Rattle.settings.proofs.conditions.Ranged.quorums_meet.Goals as goal

pub overflow_mul-crashed-5 : goal.overflow_mul-crashed-5
overflow_mul-crashed-5 c =
    let s = c.args.self.now in
    Fits-below tt (crashed_below _ _ s.p2 s.m2 s.in_range.1.0.2 s.in_range.1.0.1 s.small.0 s.small.2)

pub overflow_mul-common-3 : goal.overflow_mul-common-3
overflow_mul-common-3 c = let s = c.args.self.now in Fits-below tt (common_below _ s.m3 s.p2 s.in_range.1.0.2 s.small.3 s.small.0)

pub overflow_add-result : goal.overflow_add-result
overflow_add-result c =
    let s = c.args.self.now in
    Fits-below tt
    (add-le-add
    (apart_below s.p3 s.m2 s.small.1 s.small.2)
    (crashed_below _ _ s.p2 s.m2 s.in_range.1.0.2 s.in_range.1.0.1 s.small.0 s.small.2))
