-- A run: a new one, and then any list of steps, refused ones included; and which new runs are refused.
use Rattle.std.specs.Prelude.{◌≡◌, ℕ, ◌≤◌, Bool, cond, ◌&&◌, List, [], ◌∷◌, take, Ok, Err, Result, nat_le}
use Rattle.refusals.specs.declared.Refusal.{Refusal}
use Rattle.settings.specs.declared.choice.Choice.{Choice}
use Rattle.settings.specs.declared.fault.SettingsFault.TheVariants.{MemorySize}
use Rattle.settings.specs.Faults.{told}
use Rattle.settings.specs.Admission.{admission, start_admission}
use Rattle.network.specs.declared.step.Step.{Step}
use Rattle.network.specs.States.{Setup, State, new_run}
use Rattle.network.specs.Steps.{after}

module _ {R : Type 0} where
  -- the state after a list of steps
  unfoldable pub run : Setup R → List (Step R) → State R → State R
  run u [] s = s
  run u (x ∷ xs) s = run u xs (after u x s)

  -- the state before step i of a run of k stations: the steps are numbered from 0
  abbrev pub state_at : Setup R → ℕ → List (Step R) → ℕ → State R
  state_at u k xs i = run u (take i xs) (new_run u k)

  -- settings that are admitted, a start that is not refused, and a log of 1 to 65,535 entries
  pub record AdmittedStart (u : Setup R) (k : ℕ) : Type 0 where
    pub settings : admission u.choice ≡ Ok u.choice
    pub start : start_admission u.choice u.table k ≡ Ok tt
    pub log_some : 1 ≤ u.places
    pub log_most : u.places ≤ 65535

-- memory for every station of the table, and a log of 1 to 65,535 entries
abbrev pub memory_fits : ℕ → ℕ → ℕ → Bool
memory_fits table stations entries = nat_le table stations && nat_le 1 entries && nat_le entries 65535

abbrev pub then_memory : Bool → Result (Unit {0}) Refusal → Result (Unit {0}) Refusal
then_memory fits (Err r) = Err r
then_memory fits (Ok u) = cond fits (Ok tt) (Err (told MemorySize))

-- the refusal of a new run with k stations present: 10, 16, and last 17
abbrev pub start_refusal : Choice → ℕ → ℕ → ℕ → ℕ → Result (Unit {0}) Refusal
start_refusal c table k stations entries = then_memory (memory_fits table stations entries) (start_admission c table k)

-- and 17 too where the carrier has not enough memory for the messages of a single step
abbrev pub run_refusal : Choice → ℕ → ℕ → ℕ → ℕ → Bool → Result (Unit {0}) Refusal
run_refusal c table k stations entries ample = then_memory ample (start_refusal c table k stations entries)
