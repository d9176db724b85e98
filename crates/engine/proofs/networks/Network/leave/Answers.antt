use Rattle.network.specs.declared.step.Step.TheVariants.{Leave}
use Rattle.engine.specs.Memories.{state_of, setup_of}
use Rattle.engine.proofs.Reaching.{comes_on}
use Rattle.engine.proofs.WhereCome.{can_move}
use Rattle.engine.proofs.networks.Network.leave.Goals as goal

pub leave-requires-clause-note : goal.leave-requires-clause-note
leave-requires-clause-note g c = let m = c.args.self.now.memory in can_move (setup_of g.C.Carrier.room m) (state_of g.C.Carrier.waits m) c.args.self.now.reached

pub invariant_of-self : goal.invariant_of-self
invariant_of-self g c =
    let n = c.args.self.now in
    record {
      kept = c.leave.ensures.kept;
      reached = comes_on (setup_of g.C.Carrier.room n.memory) (setup_of g.C.Carrier.room c.leave.new.self) (Leave c.args.p) (state_of g.C.Carrier.waits n.memory) (state_of g.C.Carrier.waits c.leave.new.self) n.reached c.leave.ensures.after c.leave.ensures.same;
    }
