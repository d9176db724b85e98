use Rattle.std.proofs.Common.{ℕ, eqb, sym, refl, ap, ◌∙◌}
use lib.Bits.{and_mask}
use Rattle.stations.proofs.Words.{member_at}
use Rattle.stations.proofs.Stations.contains.Goals as goal

pub returns : goal.returns
returns c = ap (λ (x : ℕ). eqb x 1) (and_mask _ 1) ∙ sym (member_at c.args.self.now c.args.p _ _ c.ranges.p.fits refl refl)
