use Rattle.network.specs.declared.step.Step.TheVariants.{Enter}
use Rattle.engine.specs.Memories.{state_of, setup_of}
use Rattle.engine.proofs.Reaching.{comes_on}
use Rattle.engine.proofs.WhereCome.{can_move, unused_idle}
use Rattle.engine.proofs.networks.Network.enter.Goals as goal

pub enter-requires-clause-note : goal.enter-requires-clause-note
enter-requires-clause-note g c = let m = c.args.self.now.memory in can_move (setup_of g.C.Carrier.room m) (state_of g.C.Carrier.waits m) c.args.self.now.reached

pub enter-requires-clause-idle : goal.enter-requires-clause-idle
enter-requires-clause-idle g c = let m = c.args.self.now.memory in unused_idle (setup_of g.C.Carrier.room m) (state_of g.C.Carrier.waits m) c.args.self.now.reached c.args.p

pub invariant_of-self : goal.invariant_of-self
invariant_of-self g c =
    let n = c.args.self.now in
    record {
      kept = c.enter.ensures.kept;
      reached = comes_on (setup_of g.C.Carrier.room n.memory) (setup_of g.C.Carrier.room c.enter.new.self) (Enter c.args.p) (state_of g.C.Carrier.waits n.memory) (state_of g.C.Carrier.waits c.enter.new.self) n.reached c.enter.ensures.after c.enter.ensures.same;
    }
