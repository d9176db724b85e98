use Rattle.std.proofs.Common.{None, Ok, refl, ap, ◌∙◌}
use Rattle.std.proofs.lemmas.Result.{err_from_is_err_and}
use Rattle.network.specs.declared.step.Step.TheVariants.{Tick}
use Rattle.network.specs.Changes.{changed, said}
use Rattle.engine.specs.Memories.{state_of, setup_of}
use Rattle.engine.proofs.Faults.{is_none}
use Rattle.engine.proofs.Outcomes.{refused_told, refused_stays, silent_told, silent_leads}
use Rattle.engine.proofs.memory.Memory.tick.Goals as goal

pub returns-in_err-test_tick-clause-value : goal.returns-in_err-test_tick-clause-value
returns-in_err-test_tick-clause-value g c =
    let m = c.args.self.now in
    let p = err_from_is_err_and c.from_residual.result c.from_residual.ensures.1 in
    rw (p.1, p.2) (refused_told (setup_of g.C.Carrier.room m) Tick (state_of g.C.Carrier.waits m) c.in_err-test_tick.field-0.0 c.in_err-test_tick.ensures)

pub returns-in_err-test_tick-clause-after : goal.returns-in_err-test_tick-clause-after
returns-in_err-test_tick-clause-after g c =
    let m = c.args.self.now in
    refused_stays (setup_of g.C.Carrier.room m) Tick (state_of g.C.Carrier.waits m) c.in_err-test_tick.field-0.0 c.in_err-test_tick.ensures

pub carry_out_tick-requires-clause-accepted : goal.carry_out_tick-requires-clause-accepted
carry_out_tick-requires-clause-accepted g c = is_none _ c.in_ok-test_tick.ensures

pub returns-clause-value : goal.returns-clause-value
unfolding changed said
returns-clause-value g c =
    let m = c.args.self.now in
    ap Ok (c.nothing_sent.ensures ∙ ap (λ s. record { sent = 0; from = s.next; ended = None }) c.carry_out_tick.ensures.after)
    ∙ silent_told (setup_of g.C.Carrier.room m) Tick (state_of g.C.Carrier.waits m) (is_none _ c.in_ok-test_tick.ensures) refl refl

pub returns-clause-after : goal.returns-clause-after
unfolding changed said
returns-clause-after g c =
    let m = c.args.self.now in
    c.carry_out_tick.ensures.after ∙ silent_leads (setup_of g.C.Carrier.room m) Tick (state_of g.C.Carrier.waits m) (is_none _ c.in_ok-test_tick.ensures) refl refl
