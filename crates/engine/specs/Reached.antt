-- Where a network has come to: from a new run, by some list of steps.
use Rattle.std.specs.Prelude.{◌≡◌, ℕ, List}
use Rattle.network.specs.declared.step.Step.{Step}
use Rattle.network.specs.Runs.{run, AdmittedStart}
use Rattle.network.specs.States.{Setup, State, new_run}

pub record Reached {R : Type 0} (u : Setup R) (s : State R) : Type 0 where
  -- how many stations were present at the start
  pub k : ℕ
  pub steps : List (Step R)
  pub start : AdmittedStart u k
  pub came : s ≡ run u steps (new_run u k)
