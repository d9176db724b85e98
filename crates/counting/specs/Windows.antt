-- Churn over windows: what limits it in one window, and what follows for several.
use Rattle.std.specs.Prelude.{◌≡◌, ℕ, ◌+◌, ◌*◌, ◌^◌, ◌≤◌}
use Rattle.settings.specs.declared.choice.Choice.{Choice}
use Rattle.settings.specs.Conditions.{P, M}
use Rattle.settings.specs.Admission.{Admitted}
use Rattle.counting.specs.Marks.{Marks, Near}

-- How many stations are present at a position, and how many entered and left between two.
-- These numbers balance and add up, and from a mark through one window few enter or leave.
pub record Windows {last : ℕ} (m : Marks last) (c : Choice) : Type 0 where
  pub present : ℕ → ℕ
  pub entered : ℕ → ℕ → ℕ
  pub left : ℕ → ℕ → ℕ
  pub balance : (a b : ℕ) → a ≤ b → b ≤ last → present b + left a b ≡ present a + entered a b
  pub entered_parts : (a e b : ℕ) → a ≤ e → e ≤ b → b ≤ last → entered a b ≤ entered a e + entered e b
  pub left_parts : (a e b : ℕ) → a ≤ e → e ≤ b → b ≤ last → left a b ≤ left a e + left e b
  pub churn : (t b : ℕ) → Near m c.d 1 t b → 100 * (entered (m.mark t) b + left (m.mark t) b) ≤ c.alpha * present (m.mark t)

-- Four numbers over i windows: so many were present before, entered since, left since, and are present after.
pub record Growth (c : Choice) (i before entered left after : ℕ) : Type 0 where
  pub balance : after + left ≡ before + entered
  pub few_entered : 100 ^ i * (before + entered) ≤ P c ^ i * before
  pub few_left : M c ^ i * before + 100 ^ i * left ≤ 100 ^ i * before

-- from the mark of a tick through one to four windows, arrivals and departures stay in their bounds
abbrev pub GrowthOverWindows : Type 0
GrowthOverWindows =
    (last : ℕ) (m : Marks last) (c : Choice) → Admitted c → (w : Windows m c) (i t b : ℕ) → 1 ≤ i → i ≤ 4 → Near m c.d i t b
    → Growth c i (w.present (m.mark t)) (w.entered (m.mark t) b) (w.left (m.mark t) b) (w.present b)
