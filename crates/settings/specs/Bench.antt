-- Worked cases, at a longest delay of two ticks.
use Rattle.std.specs.Prelude.{◌≡◌, ℕ, Ok, Err}
use Rattle.settings.specs.Faults.{numbered}
use Rattle.settings.specs.Admission.{admission}
use Rattle.settings.specs.Shipped.{row}

-- these numbers are admitted: alpha, delta, beta, gamma and nmin
abbrev pub Passes : ℕ → ℕ → ℕ → ℕ → ℕ → Type 0
Passes a dl b g n = admission (row a dl b g n 2) ≡ Ok (row a dl b g n 2)

-- these numbers are refused, with the number in front
abbrev pub Refused : ℕ → ℕ → ℕ → ℕ → ℕ → ℕ → Type 0
Refused number a dl b g n = admission (row a dl b g n 2) ≡ Err (numbered number)

-- eleven cases at the edges of the conditions
abbrev pub SettingsCases : Type 0
SettingsCases =
    Passes 4 3 76 75 25
    × Passes 4 3 75 75 25
    × Passes 4 3 78 75 25
    × Refused 15 4 3 74 75 25
    × Refused 14 4 3 79 75 25
    × Refused 13 4 3 76 76 25
    × Passes 4 3 76 75 3
    × Refused 12 4 3 76 75 2
    × Passes 0 0 51 50 2
    × Refused 15 0 0 50 50 2
    × Refused 11 0 1 51 50 1
