use Rattle.std.proofs.Common.{◌≡◌, ℕ, ◌-◌, ◌^◌, ◌<◌, sym, ap, ◌∙◌, mod-eq_of_lt, arith}
use lib.Bits.{bit_and, and_le_l}
use lib.Count.{ones}
use Rattle.stations.specs.Members.{only, how_many}
use Rattle.stations.specs.Words.{bit_set}
use Rattle.stations.proofs.Digits.{set_without}
use Rattle.stations.proofs.Counting.{ones_count, how_many_same}
use Rattle.stations.proofs.calls.bits_without.Goals as goal

without : (w m : ℕ) → w < 2 ^ 64 → m < 2 ^ 64 → ones (bit_and w ((2 ^ 64 - 1) - m)) ≡ how_many (only (bit_set w) (bit_set m)) 64
without w m hw hm =
    let x : ℕ = bit_and w ((2 ^ 64 - 1) - m) in
    let lt : x < 2 ^ 64 = omega (arith, and_le_l w ((2 ^ 64 - 1) - m)) in
    ap ones (sym (mod-eq_of_lt lt)) ∙ ones_count x 64 ∙ how_many_same (bit_set x) (only (bit_set w) (bit_set m)) 64 (λ i h. set_without w m i h hm)

pub returns : goal.returns
returns c = without c.args.word c.args.mask c.ranges.word.fits c.ranges.mask.fits
