use Rattle.std.proofs.Common.{cond, length, take, ap, sym, ◌∙◌, arith}
use Rattle.std.proofs.lemmas.List.{length-set}
use Rattle.stations.specs.Members.{member}
use Rattle.network.specs.declared.station.Life.TheVariants.{Left}
use Rattle.network.specs.Books.{with_move}
use Rattle.network.specs.Keeping.{is_present, active, with_life}
use Rattle.book.specs.Rings.{book_of}
use Rattle.operation_log.specs.Entries.{log_of}
use Rattle.engine.specs.Copies.{shown_waits}
use Rattle.engine.specs.Memories.{stations_of}
use Rattle.engine.proofs.Copies.{except_shown}
use Rattle.engine.proofs.Sent.{agrees_put}
use Rattle.engine.proofs.Stations.{turned_table}
use Rattle.engine.proofs.memory.Memory.carry_out_leave.Goals as goal

pub returns-clause-after : goal.returns-clause-after
returns-clause-after g c =
    let m = c.args.self.now in
    let q = c.args.q in
    let stations = turned_table m.first m.table m.stations.now q c.requires.within c.requires.kept.table.1 (with_life Left) _ c.leave_at.ensures in
    let waits = ap shown_waits c.drop_for.ensures.after ∙ except_shown q (g.C.Carrier.waits m.carrier) in
    let noted = c.note_move.ensures.after ∙ ap (λ b. cond b (with_move (book_of m.book)) (book_of m.book)) c.requires.note in
    λ i. record { stations = stations i; waits = waits i; next = m.next; log = log_of m.log; book = noted i; clock = m.clock }

pub returns-clause-kept : goal.returns-clause-kept
returns-clause-kept g c =
    let m = c.args.self.now in
    let q = c.args.q in
    let s = stations_of m.first (take m.table m.stations.now) in
    let stations = turned_table m.first m.table m.stations.now q c.requires.within c.requires.kept.table.1 (with_life Left) _ c.leave_at.ensures in
    record {
      present = λ p. agrees_put (λ x. is_present x.life) s (member m.present) _ q (with_life Left (s q)) c.requires.kept.present c.remove.ensures.meaning p ∙ sym (ap (λ s. is_present (s p).life) stations);
      active = λ p. agrees_put active s (member m.active) _ q (with_life Left (s q)) c.requires.kept.active c.remove-2.ensures.meaning p ∙ sym (ap (λ s. active (s p)) stations);
      delay = c.note_move.ensures.same ∙ c.requires.kept.delay;
      next = c.requires.kept.next;
      table = (c.requires.kept.table.0, omega (arith, c.requires.kept.table.1, ap length c.leave_at.ensures.put, length-set m.stations.now q c.leave_at.ensures.to));
    }
