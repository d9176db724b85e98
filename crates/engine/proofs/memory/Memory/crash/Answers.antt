use Rattle.std.proofs.Common.{None, Ok, refl, ap, ◌∙◌, arith}
use Rattle.std.proofs.lemmas.Result.{err_from_is_err_and}
use Rattle.network.specs.declared.step.Step.TheVariants.{Crash}
use Rattle.network.specs.Changes.{changed, said, crashed}
use Rattle.engine.specs.Memories.{state_of, setup_of}
use Rattle.engine.proofs.Faults.{is_none, fault_without, passed_without}
use Rattle.engine.proofs.Crashing.{crash_within, crash_keeps}
use Rattle.engine.proofs.Outcomes.{refused_told, refused_stays, silent_told, silent_leads}
use Rattle.engine.proofs.memory.Memory.crash.Goals as goal

pub returns-in_err-q-clause-value : goal.returns-in_err-q-clause-value
returns-in_err-q-clause-value g c =
    let m = c.args.self.now in
    let e = err_from_is_err_and c.from_residual.result c.from_residual.ensures.1 in
    rw (e.1, e.2) (refused_told (setup_of g.C.Carrier.room m) (Crash c.args.p) (state_of g.C.Carrier.waits m) c.in_err-q.field-0.0 (fault_without c.args.p _ c.in_err-q.field-0.0 c.in_err-q.ensures))

pub returns-in_err-q-clause-after : goal.returns-in_err-q-clause-after
returns-in_err-q-clause-after g c =
    let m = c.args.self.now in
    refused_stays (setup_of g.C.Carrier.room m) (Crash c.args.p) (state_of g.C.Carrier.waits m) c.in_err-q.field-0.0 (fault_without c.args.p _ c.in_err-q.field-0.0 c.in_err-q.ensures)

pub carry_out_crash-requires-clause-within : goal.carry_out_crash-requires-clause-within
carry_out_crash-requires-clause-within g c =
    let m = c.args.self.now in
    let accepted = passed_without c.args.p c.in_ok-q.q _ c.in_ok-q.ensures in
    omega (arith, accepted.1, crash_within (setup_of g.C.Carrier.room m) (state_of g.C.Carrier.waits m) c.args.p (is_none _ accepted.0))

pub returns-clause-value : goal.returns-clause-value
unfolding said
returns-clause-value g c =
    let m = c.args.self.now in
    let u = setup_of g.C.Carrier.room m in
    let s = state_of g.C.Carrier.waits m in
    let accepted = passed_without c.args.p c.in_ok-q.q _ c.in_ok-q.ensures in
    ap Ok (c.nothing_sent.ensures ∙ ap (λ s. record { sent = 0; from = s.next; ended = None }) c.carry_out_crash.ensures.after)
    ∙ silent_told u (Crash c.args.p) s (is_none _ accepted.0) refl (crash_keeps u s c.args.p)

pub returns-clause-after : goal.returns-clause-after
unfolding changed said
returns-clause-after g c =
    let m = c.args.self.now in
    let u = setup_of g.C.Carrier.room m in
    let s = state_of g.C.Carrier.waits m in
    let accepted = passed_without c.args.p c.in_ok-q.q _ c.in_ok-q.ensures in
    c.carry_out_crash.ensures.after ∙ ap (λ q. crashed q s) accepted.1 ∙ silent_leads u (Crash c.args.p) s (is_none _ accepted.0) refl (crash_keeps u s c.args.p)
