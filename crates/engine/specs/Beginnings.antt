-- The step by which a station begins a task.
use Rattle.std.specs.Prelude.{ℕ}
use Rattle.network.specs.declared.operation.Task.{Task}
use Rattle.network.specs.declared.operation.Task.TheVariants as task
use Rattle.network.specs.declared.step.Step.{Step}
use Rattle.network.specs.declared.step.Step.TheVariants.{Read, Write}

abbrev pub beginning : {R : Type 0} → ℕ → Task R → Step R
beginning p task.Read = Read p
beginning p (task.Write r) = Write p r
