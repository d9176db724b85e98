use Rattle.std.proofs.Common.{◌-◌, ◌+◌, sym, ◌∙◌, arith}
use Rattle.settings.proofs.Admission.{in_range_facts}
use Rattle.settings.proofs.Bounds.{powers_below}
use Rattle.settings.proofs.conditions.Ranged.new.Goals as goal

pub invariant_of-result-clause-small : goal.invariant_of-result-clause-small
invariant_of-result-clause-small c =
    let range = in_range_facts c.args.choice (sym c.in_range.ensures ∙ c.if-not-in_range.false) in
    let up = powers_below (100 + c.args.choice.alpha) 115 (omega (arith, range.1.0.0)) in
    let down = powers_below (100 - c.args.choice.alpha) 100 (omega arith) in
    (up.0, up.1, down.0, down.1)
