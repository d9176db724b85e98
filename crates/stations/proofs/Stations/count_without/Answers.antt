use Rattle.std.proofs.Common.{rules, ◌∙◌, arith}
use Rattle.std.proofs.lemmas.Iterator.{YieldsList-from_slice, YieldsList-from_map, YieldsList-from_zip}
use Rattle.std.proofs.lemmas.Iterator.Consumers.{YieldsList-at, sum_from_yields_List, fits_from_yields_list}
use Rattle.stations.specs.Members.{member, only}
use Rattle.stations.proofs.Counting.{how_many_bound}
use Rattle.stations.proofs.Sets.{without_ones, counted_words}
use Rattle.stations.proofs.Stations.count_without.Goals as goal

pub sum-requires-clause-fits : goal.sum-requires-clause-fits
sum-requires-clause-fits c =
    let s = c.args.self.now in
    let t = c.args.other.now in
    let first = YieldsList-at c.zip-pairs.ensures.first (YieldsList-from_slice s.words cc) in
    let second = YieldsList-from_slice t.words c.zip-pairs.ensures.second.0 in
    let pairs = YieldsList-at c.map.ensures.source (YieldsList-from_zip first second) in
    fits_from_yields_list c.map.result _ (YieldsList-from_map _ without_ones pairs c.map.ensures.closure (λ x r q k. search rules))
    (omega (arith, counted_words s t, how_many_bound (only (member s) (member t)) 256))

pub returns : goal.returns
returns c =
    let s = c.args.self.now in
    let t = c.args.other.now in
    let first = YieldsList-at c.zip-pairs.ensures.first (YieldsList-from_slice s.words cc) in
    let second = YieldsList-from_slice t.words c.zip-pairs.ensures.second.0 in
    let pairs = YieldsList-at c.map.ensures.source (YieldsList-from_zip first second) in
    let value =
    sum_from_yields_List c.map.result _ c.sum.ensures.ran (YieldsList-from_map _ without_ones pairs c.map.ensures.closure (λ x r q k. search rules))
    ∙ counted_words s t in
    record { value = value; bound = omega (arith, value, how_many_bound (only (member s) (member t)) 256) }
