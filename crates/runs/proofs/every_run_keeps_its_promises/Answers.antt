use Rattle.runs.proofs.Promises.{promises_kept, logs_stand}
use Rattle.runs.proofs.every_run_keeps_its_promises.Goals as goal

pub returns : goal.returns
returns g c = record { promises = promises_kept _; logs = logs_stand _ }
