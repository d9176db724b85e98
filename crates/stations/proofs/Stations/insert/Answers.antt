use Rattle.std.proofs.Common.{◌/◌, refl, arith}
use lib.Bits.{or_lt}
use Rattle.stations.specs.Words.{words_small}
use Rattle.stations.proofs.Sets.{words_length, words_set}
use Rattle.stations.proofs.Words.{member_insert}
use Rattle.stations.proofs.Stations.insert.Goals as goal

pub invariant_of-self : goal.invariant_of-self
invariant_of-self c =
    let s = c.args.self.now in
    let old = words_small 4 s.words (c.args.p / 64) s.whole (omega (arith, c.ranges.p.fits)) in
    record { whole = words_set 4 s.words _ _ s.whole (or_lt 64 _ _ old (omega arith)) }

pub returns : goal.returns
returns c = let s = c.args.self.now in member_insert s _ c.args.p (words_length 4 s.words s.whole) c.ranges.p.fits refl
