use Rattle.std.proofs.Common.{refl, [], ◌∷◌}
use Rattle.stations.specs.Members.{member}
use Rattle.network.specs.declared.content.Content.TheVariants.{Leave as LeaveMessage}
use Rattle.network.specs.declared.station.Life.TheVariants.{Left}
use Rattle.network.specs.declared.step.Step.TheVariants.{Leave}
use Rattle.network.specs.Changes.{changed, said}
use Rattle.network.specs.Keeping.{active, with_life}
use Rattle.network.specs.Saying.{to_all}
use Rattle.engine.specs.Mails.{shown_mails}
use Rattle.engine.specs.Memories.{state_of, setup_of}
use Rattle.engine.proofs.Sent.{agrees_put, mails_sent}
use Rattle.engine.proofs.memory.Memory.leave_mails.Goals as goal

pub returns : goal.returns
unfolding changed said
returns g c =
    let m = c.args.self.now in
    let q = c.args.q in
    let s = state_of g.C.Carrier.waits m in
    mails_sent (setup_of g.C.Carrier.room m) (Leave q) s (member c.remove.new.self) (to_all (LeaveMessage q) ∷ []) (shown_mails c.mails_of.result) c.mails_of.ensures refl
    (agrees_put active s.stations (member m.active) (member c.remove.new.self) q (with_life Left (s.stations q)) c.requires.kept.active c.remove.ensures.meaning)
