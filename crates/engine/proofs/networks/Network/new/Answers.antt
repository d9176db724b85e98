use Rattle.std.proofs.Common.{false, Err, refl, ap, sym, ◌∙◌, arith, length}
use Rattle.std.proofs.lemmas.Result.{err_from_is_err_and}
use Rattle.settings.specs.Admission.{start_admission}
use Rattle.network.specs.Runs.{AdmittedStart}
use Rattle.settings.proofs.Admission.{facts_admitted}
use Rattle.operation_log.specs.Entries.{places}
use Rattle.engine.specs.Copies.{shown_room}
use Rattle.engine.specs.Memories.{state_of, setup_of}
use Rattle.engine.proofs.Reaching.{starts}
use Rattle.engine.proofs.Admitting.{refused_last, not_refused, log_refused, log_made, no_log, no_stations, all_fit, start_held, log_held}
use Rattle.engine.proofs.networks.Network.new.Goals as goal
use Rattle.engine.proofs.networks.Network.new.Goals.{then-stations-table-via-then-stations-table, then-stations-table-via-else-stations-table+then-not-is_ample}

pub returns-in_err-log-clause-value : goal.returns-in_err-log-clause-value
returns-in_err-log-clause-value g c ample =
    let a = c.args in
    let p = err_from_is_err_and c.from_residual-in_err-log.result c.from_residual-in_err-log.ensures.1 in
    let l = log_refused _ _ _ c.in_err-log.ensures.value in
    rw (p.1, p.2) (ap Err (sym l.1) ∙ refused_last _ (start_admission a.settings.choice a.table a.k) c.in_ok-admit_start.ensures (no_log a.table (length a.stations.now) (length a.entries.now) l.0))

pub returns-in_err-log-clause-small : goal.returns-in_err-log-clause-small
returns-in_err-log-clause-small g c not_ample =
    let a = c.args in
    let p = err_from_is_err_and c.from_residual-in_err-log.result c.from_residual-in_err-log.ensures.1 in
    let l = log_refused _ _ _ c.in_err-log.ensures.value in
    rw (p.1, p.2) (ap Err (sym l.1) ∙ refused_last false (start_admission a.settings.choice a.table a.k) c.in_ok-admit_start.ensures refl)

pub returns-then-stations-table-clause-value : goal.returns-then-stations-table-clause-value
returns-then-stations-table-clause-value g c ample =
    let a = c.args in
    elim c.then-stations-table.branch [
      | then-stations-table-via-then-stations-table w ↦
          refused_last _ (start_admission a.settings.choice a.table a.k) c.in_ok-admit_start.ensures (no_stations a.table (length a.stations.now) (length a.entries.now) (omega (arith, w.if-stations-table)))
      | then-stations-table-via-else-stations-table+then-not-is_ample w ↦
          let h = w.if-not-is_ample.ensures.1 ample in cc
    ]

pub returns-then-stations-table-clause-small : goal.returns-then-stations-table-clause-small
returns-then-stations-table-clause-small g c not_ample =
    let a = c.args in
    refused_last false (start_admission a.settings.choice a.table a.k) c.in_ok-admit_start.ensures refl

pub start-memory-requires-clause-table : goal.start-memory-requires-clause-table
start-memory-requires-clause-table g c = let h = start_held c.args.settings.choice c.args.table c.args.k c.in_ok-admit_start.ensures in (h.0, h.1, omega (arith, c.if-stations-table.false))

pub start-memory-requires-clause-log : goal.start-memory-requires-clause-log
start-memory-requires-clause-log g c = (log_made _ _ _ c.in_ok-log.ensures.value).1

pub invariant_of-result : goal.invariant_of-result
invariant_of-result g c =
    let a = c.args in
    let m = c.start-memory.result in
    let size = log_held (length a.entries.now) (log_made _ _ _ c.in_ok-log.ensures.value).0 in
    let same = ap length c.in_ok-log.ensures.held in
    let start : AdmittedStart (record { choice = a.settings.choice; table = a.table; first = a.first; room = shown_room (g.C.Carrier.room a.carrier); places = places c.in_ok-log.log }) a.k =
    record { settings = facts_admitted a.settings.choice a.settings.admitted; start = sym c.in_ok-admit_start.ensures; log_some = omega (arith, size, same); log_most = omega (arith, size, same) } in
    record {
      kept = c.start-memory.ensures.kept;
      reached = starts (setup_of g.C.Carrier.room m) _ a.k (state_of g.C.Carrier.waits m) c.start-memory.ensures.setup start c.start-memory.ensures.state;
    }

pub returns-clause-value : goal.returns-clause-value
returns-clause-value g c ample =
    let a = c.args in
    not_refused _ (start_admission a.settings.choice a.table a.k) c.in_ok-admit_start.ensures (all_fit a.table (length a.stations.now) (length a.entries.now) (omega (arith, c.if-stations-table.false)) (log_made _ _ _ c.in_ok-log.ensures.value).0)

pub returns-clause-small : goal.returns-clause-small
returns-clause-small g c not_ample = absurd (not_ample (c.if-not-is_ample.ensures.0 refl))
