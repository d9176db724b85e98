use Rattle.std.proofs.Common.{ap}
use Rattle.carrier.specs.Counts.{by_message, fits}
use Rattle.pool.proofs.Messages.{dropped_whole, dropped_wanted, pooled_dropped}
use Rattle.pool.proofs.pool.calls.PoolCarrier.drop_for.Goals as goal

pub invariant_of-self : goal.invariant_of-self
invariant_of-self g c =
    let p = c.args.self.now in
    let t = c.sift.new.self in
    let done = c.sift.ensures in record {
      whole = dropped_whole p.rack t c.args.station done.after p.whole;
      wanted = dropped_wanted p.rack t c.args.station done.after p.wanted;
    }

pub returns : goal.returns
returns g c =
    let p = c.args.self.now in
    record {
      after = pooled_dropped p.rack c.sift.new.self c.args.station c.sift.ensures.after;
      same = ap (fits by_message) c.sift.ensures.same;
    }
