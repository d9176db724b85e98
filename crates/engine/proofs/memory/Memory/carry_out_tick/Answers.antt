use Rattle.std.proofs.Common.{arith}
use Rattle.stations.specs.Members.{member}
use Rattle.book.specs.Rings.{book_of}
use Rattle.engine.specs.Memories.{state_of, setup_of}
use Rattle.engine.proofs.Ticking.{clock_goes_on, ticked_on}
use Rattle.engine.proofs.memory.Memory.carry_out_tick.Goals as goal

pub overflow_add-self : goal.overflow_add-self
overflow_add-self g c =
    let m = c.args.self.now in
    omega (arith, clock_goes_on (setup_of g.C.Carrier.room m) (state_of g.C.Carrier.waits m) c.requires.accepted)

pub returns-clause-after : goal.returns-clause-after
returns-clause-after g c =
    let m = c.args.self.now in
    ticked_on (setup_of g.C.Carrier.room m) (state_of g.C.Carrier.waits m) (book_of c.end_tick.new.self) m.book.delay c.count.result (member m.present)
    c.end_tick.ensures.after c.requires.kept.delay c.count.ensures.value c.requires.kept.present
