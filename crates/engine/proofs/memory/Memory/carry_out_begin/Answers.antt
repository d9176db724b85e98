use Rattle.std.proofs.Common.{length, ap, sym, ◌∙◌, arith}
use Rattle.std.proofs.lemmas.List.{length-set}
use Rattle.network.specs.Changes.{begin}
use Rattle.network.specs.Keeping.{is_present, active}
use Rattle.network.specs.Limits.{can_begin}
use Rattle.book.specs.Rings.{book_of}
use Rattle.engine.specs.Copies.{shown_waits}
use Rattle.engine.specs.Memories.{state_of, setup_of}
use Rattle.engine.proofs.Stations.{station_shown, turned_table}
use Rattle.engine.proofs.Tasks.{chosen, begun_present, begun_active}
use Rattle.engine.proofs.memory.Memory.carry_out_begin.Goals as goal

pub begin_at-requires-clause-rises : goal.begin_at-requires-clause-rises
begin_at-requires-clause-rises g c d =
    let m = c.args.self.now in
    sym (ap can_begin (station_shown m.first m.table m.stations.now c.args.q c.requires.within c.requires.kept.table.1 d)) ∙ c.requires.rises

pub returns-clause-after : goal.returns-clause-after
returns-clause-after g c =
    let m = c.args.self.now in
    let stations = turned_table m.first m.table m.stations.now c.args.q c.requires.within c.requires.kept.table.1 (begin c.args.task) _ c.begin_at.ensures in
    let log = chosen _ _ _ _ c.open.ensures.after c.requires.opens in
    λ i. record { stations = stations i; waits = shown_waits (g.C.Carrier.waits m.carrier); next = m.next; log = log i; book = book_of m.book; clock = m.clock }

pub returns-clause-kept : goal.returns-clause-kept
returns-clause-kept g c =
    let m = c.args.self.now in
    let q = c.args.q in
    let u = setup_of g.C.Carrier.room m in
    let s = state_of g.C.Carrier.waits m in
    let stations = turned_table m.first m.table m.stations.now q c.requires.within c.requires.kept.table.1 (begin c.args.task) _ c.begin_at.ensures in
    record {
      present = λ p. c.requires.kept.present p ∙ sym (begun_present u s q c.args.task p) ∙ sym (ap (λ s. is_present (s p).life) stations);
      active = λ p. c.requires.kept.active p ∙ sym (begun_active u s q c.args.task p) ∙ sym (ap (λ s. active (s p)) stations);
      delay = c.requires.kept.delay;
      next = c.requires.kept.next;
      table = (c.requires.kept.table.0, omega (arith, c.requires.kept.table.1, ap length c.begin_at.ensures.put, length-set m.stations.now q c.begin_at.ensures.to));
    }
