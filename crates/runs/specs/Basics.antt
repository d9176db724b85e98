-- First statements of every run over one kind of record.
use Rattle.std.specs.Prelude.{◌≡◌, ℕ, ◌*◌, ◌≤◌, List, None}
use Rattle.network.specs.declared.step.Step.{Step}
use Rattle.network.specs.Runs.{state_at, AdmittedStart}
use Rattle.network.specs.States.{Setup, present_total, crashed_total}

-- a later place of a run has no earlier clock
abbrev pub ClockNeverGoesBack : Type 0 → Type 0
ClockNeverGoesBack R =
    (u : Setup R) (k : ℕ) (xs : List (Step R)) → AdmittedStart u k
    → (i j : ℕ) → i ≤ j → (state_at u k xs i).clock ≤ (state_at u k xs j).clock

-- nothing waits under the next message number, or under any after it
abbrev pub NumbersStayBelowTheNext : Type 0 → Type 0
NumbersStayBelowTheNext R =
    (u : Setup R) (k : ℕ) (xs : List (Step R)) → AdmittedStart u k
    → (i n q : ℕ) → (state_at u k xs i).next ≤ n → (state_at u k xs i).waits n q ≡ None

-- at every place at least nmin stations are present, and at most delta hundredths of them are crashed
abbrev pub EnoughStationsWork : Type 0 → Type 0
EnoughStationsWork R =
    (u : Setup R) (k : ℕ) (xs : List (Step R)) → AdmittedStart u k
    → (i : ℕ) → (u.choice.nmin ≤ present_total (state_at u k xs i)) × (100 * crashed_total (state_at u k xs i) ≤ u.choice.delta * present_total (state_at u k xs i))
