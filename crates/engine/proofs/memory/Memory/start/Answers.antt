use Rattle.std.proofs.Common.{ℕ, ◌-◌, ◌++◌, drop, replicate, ap, ◌∙◌, arith}
use Rattle.std.proofs.lemmas.List.{length-take-le}
use Rattle.engine.specs.Copies.{shown_waits}
use Rattle.engine.proofs.NewRuns.{new_stations, new_present, new_active, new_long}
use Rattle.engine.proofs.memory.Memory.start.Goals as goal

pub returns-clause-state : goal.returns-clause-state
returns-clause-state g c =
    let a = c.args in
    let (few, most, long) = c.requires.table in
    let settled = c.settle.ensures ∙ ap (λ (n : ℕ). replicate a.k c.founder-founder.result ++ replicate (n - a.k) c.unused.result) (length-take-le a.table a.stations.now long) in
    let stations = new_stations a.first a.k (omega arith) c.founder-founder.result c.unused.result c.founder-founder.ensures c.unused.ensures a.table c.settle.new.stations (drop a.table a.stations.now) settled few in
    λ i. record { stations = stations i; waits = shown_waits (c.clear.ensures.after i); next = 0; log = c.requires.log i; book = c.new.ensures.start i; clock = 0 }

pub returns-clause-kept : goal.returns-clause-kept
returns-clause-kept g c =
    let a = c.args in
    let (few, most, long) = c.requires.table in
    let settled = c.settle.ensures ∙ ap (λ (n : ℕ). replicate a.k c.founder-founder.result ++ replicate (n - a.k) c.unused.result) (length-take-le a.table a.stations.now long) in
    record {
      present = new_present a.first a.k (omega arith) c.founder-founder.result c.unused.result c.founder-founder.ensures c.unused.ensures a.table c.settle.new.stations (drop a.table a.stations.now) settled few;
      active = new_active a.first a.k (omega arith) c.founder-founder.result c.unused.result c.founder-founder.ensures c.unused.ensures a.table c.settle.new.stations (drop a.table a.stations.now) settled few;
      delay = c.new.ensures.same;
      next = omega arith;
      table = (most, new_long a.first a.k (omega arith) c.founder-founder.result c.unused.result c.founder-founder.ensures c.unused.ensures a.table c.settle.new.stations (drop a.table a.stations.now) settled few);
    }
