use Rattle.std.proofs.Common.{refl, [], ◌∷◌}
use Rattle.stations.specs.Members.{member}
use Rattle.network.specs.declared.content.Content.TheVariants.{Enter as EnterMessage}
use Rattle.network.specs.declared.step.Step.TheVariants.{Enter}
use Rattle.network.specs.Changes.{changed, said}
use Rattle.network.specs.Keeping.{active, newcomer}
use Rattle.network.specs.Saying.{to_all}
use Rattle.engine.specs.Mails.{shown_mails}
use Rattle.engine.specs.Memories.{state_of, setup_of}
use Rattle.engine.proofs.Sent.{agrees_put, mails_sent}
use Rattle.engine.proofs.memory.Memory.enter_mails.Goals as goal

pub returns : goal.returns
unfolding changed said
returns g c =
    let m = c.args.self.now in
    let q = c.args.q in
    let s = state_of g.C.Carrier.waits m in
    mails_sent (setup_of g.C.Carrier.room m) (Enter q) s (member c.insert.new.self) (to_all (EnterMessage q) ∷ []) (shown_mails c.mails_of.result) c.mails_of.ensures refl
    (agrees_put active s.stations (member m.active) (member c.insert.new.self) q (newcomer m.first q) c.requires.kept.active c.insert.ensures)
