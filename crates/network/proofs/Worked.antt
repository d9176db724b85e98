-- The worked cases, computed.
use Rattle.std.proofs.Common.{◌∷◌, ◌++◌, refl, ap, lit≤}
use Rattle.settings.specs.Bench.{SettingsCases}
use Rattle.stations.specs.Members.{how_many, put}
use Rattle.carrier.specs.Counts.{least}
use Rattle.carrier.specs.Waits.{at, except}
use Rattle.network.specs.declared.step.Step.TheVariants.{Tick}
use Rattle.network.specs.Stamps.{higher, newer}
use Rattle.network.specs.Hearing.{hear}
use Rattle.network.specs.Saying.{says}
use Rattle.network.specs.Books.{within_churn}
use Rattle.network.specs.Logs.{changed_at}
use Rattle.network.specs.Posting.{mails, with_mail}
use Rattle.network.specs.Changes.{log_heard, changed, said}
use Rattle.network.specs.Refusals.{first_of, mail_test, tests, refusal}
use Rattle.network.specs.States.{new_run}
use Rattle.network.specs.Steps.{next}
use Rattle.network.specs.Worked.{two_stations, worked_steps, WorkedExample, survey_network, joins, reads, NewcomerReads, churn_steps, LimitCases, WorkedCases}
use Rattle.network.proofs.Quick.{quick_refusal, quick_after, quick_run, quick_told, same_run, same_told}

settings_cases : SettingsCases
settings_cases = (refl, refl, refl, refl, refl, refl, refl, refl, refl, refl, refl)

worked_example : WorkedExample
unfolding how_many put at except least higher newer hear says within_churn changed_at mails with_mail log_heard changed said first_of mail_test tests refusal next quick_refusal quick_after quick_run quick_told
worked_example = (
  ap (λ s. s.log.entries) (same_run two_stations worked_steps (new_run two_stations 2) (lit≤ tt) (λ m q l. refl)),
  same_told two_stations 1 worked_steps (new_run two_stations 2) (lit≤ tt) (λ m q l. refl),
)

limit_cases : LimitCases
unfolding how_many put at except least higher newer hear says within_churn changed_at mails with_mail log_heard changed said first_of mail_test tests refusal next quick_refusal quick_after quick_run quick_told
limit_cases = same_told survey_network 1 churn_steps (new_run survey_network 25) (lit≤ tt) (λ m q l. refl)

newcomer_reads : NewcomerReads
unfolding how_many put at except least higher newer hear says within_churn changed_at mails with_mail log_heard changed said first_of mail_test tests refusal next quick_refusal quick_after quick_run quick_told
newcomer_reads = (
  ap (λ s. (s.stations 25).joined) (same_run survey_network (Tick ∷ joins) (new_run survey_network 25) (lit≤ tt) (λ m q l. refl)),
  ap (λ s. s.log.entries) (same_run survey_network (Tick ∷ (joins ++ reads)) (new_run survey_network 25) (lit≤ tt) (λ m q l. refl)),
)

pub worked_cases : WorkedCases
worked_cases = (settings_cases, limit_cases, worked_example, newcomer_reads)
