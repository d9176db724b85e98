use Rattle.network.specs.declared.step.Step.TheVariants.{Read}
use Rattle.engine.specs.Memories.{state_of, setup_of}
use Rattle.engine.proofs.Reaching.{comes_on}
use Rattle.engine.proofs.Tasks.{tags_rise}
use Rattle.engine.proofs.networks.Network.read.Goals as goal

pub begin-requires-clause-rises : goal.begin-requires-clause-rises
begin-requires-clause-rises g c =
    let n = c.args.self.now in
    tags_rise (setup_of g.C.Carrier.room n.memory) (state_of g.C.Carrier.waits n.memory) c.args.p n.reached

pub invariant_of-self : goal.invariant_of-self
invariant_of-self g c =
    let n = c.args.self.now in
    record {
      kept = c.begin.ensures.kept;
      reached = comes_on (setup_of g.C.Carrier.room n.memory) (setup_of g.C.Carrier.room c.begin.new.self) (Read c.args.p) (state_of g.C.Carrier.waits n.memory) (state_of g.C.Carrier.waits c.begin.new.self) n.reached c.begin.ensures.after c.begin.ensures.same;
    }
