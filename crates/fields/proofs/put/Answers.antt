use Rattle.std.proofs.Common.{arith}
use Rattle.fields.proofs.put.Goals as goal

pub spell-requires : goal.spell-requires
spell-requires g c = omega (arith, g.met.T.Field.laws.short)

pub shared_whole_as_slice-put_bytes : goal.shared_whole_as_slice-put_bytes
shared_whole_as_slice-put_bytes g c = omega (arith, g.met.T.Field.laws.short)
