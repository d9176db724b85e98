-- The examples, computed. Rests on the rules alone.
use Rattle.std.proofs.Common.{refl, ap, lit≤}
use Rattle.stations.specs.Members.{how_many, put}
use Rattle.carrier.specs.Counts.{least}
use Rattle.carrier.specs.Waits.{at, except}
use Rattle.network.specs.Stamps.{higher, newer}
use Rattle.network.specs.Hearing.{hear}
use Rattle.network.specs.Saying.{says}
use Rattle.network.specs.Books.{within_churn}
use Rattle.network.specs.Logs.{changed_at}
use Rattle.network.specs.Posting.{mails, with_mail}
use Rattle.network.specs.Changes.{log_heard, changed, said}
use Rattle.network.specs.Refusals.{first_of, mail_test, tests, refusal}
use Rattle.network.specs.Keeping.{active}
use Rattle.network.specs.States.{new_run}
use Rattle.network.specs.Steps.{next}
use Rattle.network.specs.Worked.{two_stations}
use Rattle.network.proofs.Quick.{quick_refusal, quick_after, quick_run, quick_told, same_run, same_told}
use Rattle.runs.specs.Examples.{open_network, newcomers_run, NewcomerReadsWhatWasWritten, closed_network, crashed_writers_run, UnfinishedWriteIsRead, quiet_run, OperationHasItsTime}

pub unfinished_write_is_read : UnfinishedWriteIsRead
unfolding how_many put at except least higher newer hear says within_churn changed_at mails with_mail log_heard changed said first_of mail_test tests refusal next quick_refusal quick_after quick_run quick_told
unfinished_write_is_read = (
  record { settings = refl; start = refl; log_some = lit≤ tt; log_most = lit≤ tt },
  same_told closed_network 1 crashed_writers_run (new_run closed_network 4) (lit≤ tt) (λ m q l. refl),
  ap (λ s. s.log.entries) (same_run closed_network crashed_writers_run (new_run closed_network 4) (lit≤ tt) (λ m q l. refl)),
)

pub newcomer_reads_what_was_written : NewcomerReadsWhatWasWritten
unfolding how_many put at except least higher newer hear says within_churn changed_at mails with_mail log_heard changed said first_of mail_test tests refusal next quick_refusal quick_after quick_run quick_told
newcomer_reads_what_was_written = (
  record { settings = refl; start = refl; log_some = lit≤ tt; log_most = lit≤ tt },
  same_told open_network 1 newcomers_run (new_run open_network 25) (lit≤ tt) (λ m q l. refl),
  ap (λ s. (s.stations 25).joined) (same_run open_network newcomers_run (new_run open_network 25) (lit≤ tt) (λ m q l. refl)),
  ap (λ s. s.log.entries) (same_run open_network newcomers_run (new_run open_network 25) (lit≤ tt) (λ m q l. refl)),
)

pub operation_has_its_time : OperationHasItsTime
unfolding how_many put at except least higher newer hear says within_churn changed_at mails with_mail log_heard changed said first_of mail_test tests refusal next quick_refusal quick_after quick_run quick_told
operation_has_its_time = (
  record { settings = refl; start = refl; log_some = lit≤ tt; log_most = lit≤ tt },
  same_told two_stations 1 quiet_run (new_run two_stations 2) (lit≤ tt) (λ m q l. refl),
  ap (λ s. s.clock) (same_run two_stations quiet_run (new_run two_stations 2) (lit≤ tt) (λ m q l. refl)),
  ap (λ s. active (s.stations 0)) (same_run two_stations quiet_run (new_run two_stations 2) (lit≤ tt) (λ m q l. refl)),
  ap (λ s. s.log.entries) (same_run two_stations quiet_run (new_run two_stations 2) (lit≤ tt) (λ m q l. refl)),
)
