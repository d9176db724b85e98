use Rattle.std.proofs.Common.{false, length, take, ap, sym, ◌∙◌, arith}
use Rattle.std.proofs.lemmas.List.{length-set}
use mathlib.Core.Path.{fun_ext}
use Rattle.stations.specs.Members.{put}
use Rattle.network.specs.Keeping.{is_present, active, with_crashed}
use Rattle.network.specs.Knowing.{Set}
use Rattle.book.specs.Rings.{book_of}
use Rattle.operation_log.specs.Entries.{log_of}
use Rattle.engine.specs.Copies.{shown_waits}
use Rattle.engine.specs.Memories.{stations_of}
use Rattle.engine.proofs.Copies.{except_shown}
use Rattle.engine.proofs.Stations.{turned_table, crashed_present, crashed_active}
use Rattle.engine.proofs.memory.Memory.carry_out_crash.Goals as goal

pub returns-clause-after : goal.returns-clause-after
returns-clause-after g c =
    let m = c.args.self.now in
    let stations = turned_table m.first m.table m.stations.now c.args.q c.requires.within c.requires.kept.table.1 with_crashed _ c.crash_at.ensures in
    let waits = ap shown_waits c.drop_for.ensures.after ∙ except_shown c.args.q (g.C.Carrier.waits m.carrier) in
    λ i. record { stations = stations i; waits = waits i; next = m.next; log = log_of m.log; book = book_of m.book; clock = m.clock }

pub returns-clause-kept : goal.returns-clause-kept
returns-clause-kept g c =
    let m = c.args.self.now in
    let q = c.args.q in
    let s = stations_of m.first (take m.table m.stations.now) in
    let stations = turned_table m.first m.table m.stations.now q c.requires.within c.requires.kept.table.1 with_crashed _ c.crash_at.ensures in
    record {
      present = λ p. c.requires.kept.present p ∙ sym (crashed_present s q p) ∙ sym (ap (λ s. is_present (s p).life) stations);
      active = λ p.
          ap (λ (f : Set). f p) c.remove.ensures.meaning ∙ ap (λ (f : Set). put f q false p) (fun_ext c.requires.kept.active) ∙ sym (crashed_active s q p) ∙ sym (ap (λ s. active (s p)) stations);
      delay = c.requires.kept.delay;
      next = c.requires.kept.next;
      table = (c.requires.kept.table.0, omega (arith, c.requires.kept.table.1, ap length c.crash_at.ensures.put, length-set m.stations.now q c.crash_at.ensures.to));
    }
