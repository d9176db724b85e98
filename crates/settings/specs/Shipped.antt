-- The five choices that are shipped.
use Rattle.std.specs.Prelude.{ℕ, ◌≤◌, List, [], ◌∷◌}
use Rattle.std.specs.List.{AllByRecursion}
use Rattle.settings.specs.declared.choice.Choice.{Choice}
use Rattle.settings.specs.Admission.{Admitted}

-- a choice by its six numbers: alpha, delta, beta, gamma, nmin and d
abbrev pub row : ℕ → ℕ → ℕ → ℕ → ℕ → ℕ → Choice
row a dl b g n d = record { alpha = a; delta = dl; beta = b; gamma = g; nmin = n; d = d }

-- one row for each churn, at a longest delay of d
abbrev pub shipped_rows : ℕ → List Choice
shipped_rows d =
    row 0 20 70 75 5 d
    ∷ row 1 12 72 80 100 d
    ∷ row 2 8 74 78 50 d
    ∷ row 3 5 75 76 34 d
    ∷ row 4 3 76 75 25 d
    ∷ []

-- each of the five is admitted, at every delay in its range
abbrev pub ShippedAdmitted : Type 0
ShippedAdmitted = (d : ℕ) → 1 ≤ d → d ≤ 32 → AllByRecursion Admitted (shipped_rows d)
