use Rattle.runs.proofs.ExamplesComputed.{newcomer_reads_what_was_written, unfinished_write_is_read, operation_has_its_time}
use Rattle.runs.proofs.examples.examples_meet_the_premises.Goals as goal

pub returns : goal.returns
returns c = record { newcomer = newcomer_reads_what_was_written; unfinished = unfinished_write_is_read; time = operation_has_its_time }
