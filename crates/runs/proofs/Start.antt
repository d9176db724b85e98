-- The start of a run: what its admission says, each fact by name, and how stations are at position 0.
-- Rests on `Positions`, and on the settings crate's facts of an admitted choice.
use Rattle.std.proofs.Common.{◌≡◌, ℕ, ◌≤◌, Bool, true, false, cond, ltb, Ok, ap, ◌∙◌, arith}
use Rattle.std.proofs.lemmas.Bool.Decides.{nat_tests}
use Rattle.settings.specs.Admission.{Admitted, start_admission}
use Rattle.settings.specs.declared.choice.Choice.{Choice}
use Rattle.settings.proofs.Admission.{admitted_facts}
use Rattle.settings.proofs.Facts.{d_low}
use Rattle.network.specs.declared.station.Station.{Station}
use Rattle.network.specs.Keeping.{unused_station, founder}
use Rattle.network.specs.Knowing.{Set}
use Rattle.runs.proofs.Positions.{Run, state_start, station, D}

start_facts : (c : Choice) (table k : ℕ) → start_admission c table k ≡ Ok tt → (table ≤ 256) × (1 ≤ k) × (k ≤ table) × (c.nmin ≤ k)
start_facts c table k e = (grind (arith, nat_tests), grind (arith, nat_tests), grind (arith, nat_tests), grind (arith, nat_tests))

module _ {R : Type 0} (z : Run R) where
  -- every range and every condition
  pub settings_met : Admitted z.setup.choice
  settings_met = admitted_facts z.setup.choice z.admitted.settings

  pub table_high : z.setup.table ≤ 256
  table_high = (start_facts z.setup.choice z.setup.table z.founders z.admitted.start).0

  pub some_founder : 1 ≤ z.founders
  some_founder = (start_facts z.setup.choice z.setup.table z.founders z.admitted.start).1

  pub founders_fit : z.founders ≤ z.setup.table
  founders_fit = (start_facts z.setup.choice z.setup.table z.founders z.admitted.start).2

  pub founders_enough : z.setup.choice.nmin ≤ z.founders
  founders_enough = (start_facts z.setup.choice z.setup.table z.founders z.admitted.start).3

  pub delay_some : 1 ≤ D z
  delay_some = d_low z.setup.choice settings_met

  -- a founder, or not used
  pub station_start : (q : ℕ) → station z 0 q ≡ cond (ltb q z.founders) (founder z.setup.first z.founders) (unused_station z.setup.first)
  station_start q = ap (λ s. s.stations q) (state_start z)

  -- what founders and unused stations have alike, every station has at the start
  pub at_start : {A : Type 0} (f : Station R Set → A) (a : A) → f (founder z.setup.first z.founders) ≡ a → f (unused_station z.setup.first) ≡ a → (q : ℕ) → f (station z 0 q) ≡ a
  at_start f a g h q = ap f (station_start q) ∙ by (ltb q z.founders)
    where
      by : (b : Bool) → f (cond b (founder z.setup.first z.founders) (unused_station z.setup.first)) ≡ a
      by true = g
      by false = h
