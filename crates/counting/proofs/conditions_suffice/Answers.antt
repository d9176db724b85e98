use Rattle.counting.proofs.Conditions.{someone_lasts, someone_counted_lasts, echoes_suffice, replies_suffice, quorums_overlap}
use Rattle.counting.proofs.conditions_suffice.Goals as goal

pub returns : goal.returns
returns c = record { survivors = someone_lasts; joiners = someone_counted_lasts; joins = echoes_suffice; phases = replies_suffice; quorums = quorums_overlap }
