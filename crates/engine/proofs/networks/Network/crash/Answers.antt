use Rattle.network.specs.declared.step.Step.TheVariants.{Crash}
use Rattle.engine.specs.Memories.{state_of, setup_of}
use Rattle.engine.proofs.Reaching.{comes_on}
use Rattle.engine.proofs.networks.Network.crash.Goals as goal

pub invariant_of-self : goal.invariant_of-self
invariant_of-self g c =
    let n = c.args.self.now in
    record {
      kept = c.crash.ensures.kept;
      reached = comes_on (setup_of g.C.Carrier.room n.memory) (setup_of g.C.Carrier.room c.crash.new.self) (Crash c.args.p) (state_of g.C.Carrier.waits n.memory) (state_of g.C.Carrier.waits c.crash.new.self) n.reached c.crash.ensures.after c.crash.ensures.same;
    }
