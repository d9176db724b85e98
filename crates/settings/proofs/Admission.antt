-- A choice is admitted where nothing refuses it, and only there.
use Rattle.std.proofs.Common.{◌≡◌, Bool, true, Ok, Result, arith}
use Rattle.std.proofs.lemmas.Bool.Decides.{nat_tests}
use Rattle.refusals.specs.declared.Refusal.{Refusal}
use Rattle.settings.specs.declared.choice.Choice.{Choice}
use Rattle.settings.specs.declared.fault.SettingsFault.{SettingsFault}
use Rattle.settings.specs.declared.fault.SettingsFault.TheVariants.{Range}
use Rattle.settings.specs.Ranges.{in_range, InRange}
use Rattle.settings.specs.Admission.{unless, admission, conditions_met, Admitted, Conditions}

-- what is not refused has passed the test, and so has the rest
passed : {A : Type 0} (test : Bool) (fault : SettingsFault) (rest : Result A Refusal) (x : A) → unless test fault rest ≡ Ok x → (test ≡ true) × (rest ≡ Ok x)
passed test fault rest x e = grind arith

pub in_range_facts : (c : Choice) → in_range c ≡ true → InRange c
in_range_facts c e = grind (arith, nat_tests)

conditions_facts : (c : Choice) → conditions_met c ≡ Ok c → Conditions c
conditions_facts c e = grind (arith, nat_tests)

-- what is not refused meets every range and condition
pub admitted_facts : (c : Choice) → admission c ≡ Ok c → Admitted c
admitted_facts c e = (in_range_facts c (passed _ Range _ c e).0, conditions_facts c (passed (in_range c) Range _ c e).1)

-- what meets every range and condition is not refused
pub facts_admitted : (c : Choice) → Admitted c → admission c ≡ Ok c
facts_admitted c h = grind (arith, nat_tests)

-- what is admitted is the choice itself
pub admitted_same : (c x : Choice) → admission c ≡ Ok x → x ≡ c
admitted_same c x e = grind arith
