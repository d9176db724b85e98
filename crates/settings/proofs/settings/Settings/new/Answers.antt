use Rattle.std.proofs.Common.{sym}
use Rattle.settings.proofs.Admission.{admitted_facts}
use Rattle.settings.proofs.settings.Settings.new.Goals as goal

pub invariant_of-result : goal.invariant_of-result
invariant_of-result c = record { admitted = admitted_facts _ (sym (c.in_ok-judge.ensures)) }
