use Rattle.std.proofs.Common.{arith}
use Rattle.engine.specs.Mails.{posts_of}
use Rattle.engine.proofs.Sending.{fit_kept, next_on}
use Rattle.engine.proofs.memory.Memory.post.Goals as goal

pub post_all-requires : goal.post_all-requires
post_all-requires g c =
    let m = c.args.self.now in
    fit_kept (g.C.Carrier.room m.carrier) (g.C.Carrier.waits m.carrier) m.next (posts_of c.args.mails.now) (g.C.Carrier.laws.idle m.carrier) c.requires.room

pub returns-clause-kept : goal.returns-clause-kept
returns-clause-kept g c =
    let m = c.args.self.now in
    record {
      present = c.requires.kept.present;
      active = c.requires.kept.active;
      delay = c.requires.kept.delay;
      next = omega (arith, c.count.ensures, next_on (g.C.Carrier.room m.carrier) (g.C.Carrier.waits m.carrier) m.next (posts_of c.args.mails.now) c.requires.room c.requires.kept.next);
      table = c.requires.kept.table;
    }
