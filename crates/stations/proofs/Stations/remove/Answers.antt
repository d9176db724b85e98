use Rattle.std.proofs.Common.{ℕ, ◌/◌, ◌^◌, ◌<◌, get_or, refl, arith}
use lib.Bits.{bit_and, and_le_l}
use Rattle.stations.specs.Words.{words_small}
use Rattle.stations.proofs.Sets.{words_length, words_set}
use Rattle.stations.proofs.Removing.{removed_is}
use Rattle.stations.proofs.Words.{member_remove}
use Rattle.stations.proofs.Stations.remove.Goals as goal

lesser : (a b : ℕ) → a < 2 ^ 64 → bit_and a b < 2 ^ 64
lesser a b h = omega (arith, and_le_l a b)

pub invariant_of-self : goal.invariant_of-self
invariant_of-self c =
    let s = c.args.self.now in
    let i = c.args.p / 64 in
    let old = words_small 4 s.words i s.whole (omega (arith, c.ranges.p.fits)) in
    record { whole = words_set 4 s.words i _ s.whole (lesser (get_or s.words i 0) _ old) }

pub returns : goal.returns
returns c =
    let s = c.args.self.now in
    let meaning = member_remove s _ c.args.p (words_length 4 s.words s.whole) c.ranges.p.fits refl in
    record { value = removed_is s _ c.args.p meaning; meaning = meaning }
