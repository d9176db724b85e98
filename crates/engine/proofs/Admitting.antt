-- Which new runs are refused, by what was found of the settings, of the memory and of the carrier.
use Rattle.std.proofs.Common.{◌≡◌, ℕ, ◌<◌, ◌≤◌, Bool, true, false, leb, Result, Ok, Err, refl, ap, sym, arith}
use Rattle.std.proofs.lemmas.Bool.Decides.{nat_tests}
use Rattle.refusals.specs.declared.Refusal.{Refusal}
use Rattle.settings.specs.declared.choice.Choice.{Choice}
use Rattle.settings.specs.declared.fault.SettingsFault.TheVariants.{Range, TooFewStations, MemorySize}
use Rattle.settings.specs.Admission.{unless, start_admission, start_in_range}
use Rattle.settings.specs.Faults.{told}
use Rattle.network.specs.Knowing.{most_stations}
use Rattle.network.specs.Runs.{memory_fits, then_memory}
use Rattle.operation_log.specs.Entries.{log_size}

-- what does not fit is refused 17, where nothing was refused ahead of it
pub refused_last : (b : Bool) (r : Result (Unit {0}) Refusal) → Ok tt ≡ r → b ≡ false → Err (told MemorySize) ≡ then_memory b r
refused_last b (Ok u) e f = sym (ap (λ (b : Bool). then_memory b (Ok u)) f)
refused_last b (Err x) e f = cc

-- what fits is not refused
pub not_refused : (b : Bool) (r : Result (Unit {0}) Refusal) → Ok tt ≡ r → b ≡ true → Ok tt ≡ then_memory b r
not_refused b (Ok u) e f = sym (ap (λ (b : Bool). then_memory b (Ok u)) f)
not_refused b (Err x) e f = cc

-- a log is refused for its size alone
pub log_refused : {A : Type 0} (b : Bool) (x : A) (r : Refusal) → Err r ≡ unless b MemorySize (Ok x) → (b ≡ false) × (told MemorySize ≡ r)
log_refused true x r e = cc
log_refused false x r e = (refl, cc)

pub log_made : {A : Type 0} (b : Bool) (x y : A) → Ok y ≡ unless b MemorySize (Ok x) → (b ≡ true) × (y ≡ x)
log_made true x y e = (refl, cc)
log_made false x y e = cc

module _ (table stations entries : ℕ) where
  pub no_log : log_size entries ≡ false → memory_fits table stations entries ≡ false
  no_log e = grind (arith, nat_tests)

  pub no_stations : stations < table → memory_fits table stations entries ≡ false
  no_stations l = grind (arith, nat_tests)

  pub all_fit : table ≤ stations → log_size entries ≡ true → memory_fits table stations entries ≡ true
  all_fit l e = grind (arith, nat_tests)

pub start_held : (c : Choice) (table k : ℕ) → Ok tt ≡ start_admission c table k → (k ≤ table) × (table ≤ most_stations)
start_held c table k e = ranges (start_in_range table k) (unless (leb c.nmin k) TooFewStations (Ok tt)) e refl where
  ranges : (b : Bool) (r : Result (Unit {0}) Refusal) → Ok tt ≡ unless b Range r → b ≡ start_in_range table k → (k ≤ table) × (table ≤ most_stations)
  ranges true r e f = grind (arith, nat_tests)
  ranges false r e f = cc

pub log_held : (entries : ℕ) → log_size entries ≡ true → (1 ≤ entries) × (entries ≤ 65535)
log_held entries e = grind (arith, nat_tests)
