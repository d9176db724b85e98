use Rattle.std.proofs.Common.{◌≡◌, None, Ok, ap, ◌∙◌, arith}
use Rattle.std.proofs.lemmas.Result.{err_from_is_err_and}
use Rattle.network.specs.declared.step.Step.TheVariants.{Enter}
use Rattle.network.specs.Changes.{changed, entered}
use Rattle.network.specs.Refusals.{step_mails}
use Rattle.engine.specs.Mails.{shown_mails}
use Rattle.engine.specs.Memories.{state_of, setup_of, passed}
use Rattle.engine.proofs.Arrivals.{not_arriving, same_number, arrives_within, was_unused, no_room, may_enter, enter_ends_none}
use Rattle.engine.proofs.Outcomes.{refused_told, refused_stays}
use Rattle.engine.proofs.Sent.{test_sent, sent_leads, sent_told}
use Rattle.engine.proofs.memory.Memory.enter.Goals as goal

pub returns-in_err-q-clause-value : goal.returns-in_err-q-clause-value
returns-in_err-q-clause-value g c =
    let m = c.args.self.now in
    let u = setup_of g.C.Carrier.room m in
    let s = state_of g.C.Carrier.waits m in
    let e = err_from_is_err_and c.from_residual.result c.from_residual.ensures.1 in
    rw (e.1, e.2) (refused_told u (Enter c.args.p) s c.in_err-q.field-0.0 (not_arriving u s c.args.p c.in_err-q.field-0.0 c.in_err-q.ensures))

pub returns-in_err-q-clause-after : goal.returns-in_err-q-clause-after
returns-in_err-q-clause-after g c =
    let m = c.args.self.now in
    let u = setup_of g.C.Carrier.room m in
    let s = state_of g.C.Carrier.waits m in
    refused_stays u (Enter c.args.p) s c.in_err-q.field-0.0 (not_arriving u s c.args.p c.in_err-q.field-0.0 c.in_err-q.ensures)

pub enter_mails-mails-requires-clause-within : goal.enter_mails-mails-requires-clause-within
enter_mails-mails-requires-clause-within g c =
    let m = c.args.self.now in
    let u = setup_of g.C.Carrier.room m in
    let s = state_of g.C.Carrier.waits m in
    omega (arith, same_number u s c.args.p c.in_ok-q.q c.in_ok-q.ensures, arrives_within u s c.args.p c.in_ok-q.q c.in_ok-q.ensures)

pub returns-in_err-test_room-clause-value : goal.returns-in_err-test_room-clause-value
returns-in_err-test_room-clause-value g c =
    let m = c.args.self.now in
    let p = c.args.p in
    let q = c.in_ok-q.q in
    let u = setup_of g.C.Carrier.room m in
    let s = state_of g.C.Carrier.waits m in
    let ms = shown_mails c.enter_mails-mails.result in
    let sent : ms ≡ step_mails u (Enter p) s = c.enter_mails-mails.ensures ∙ ap (λ q. step_mails u (Enter q) s) (same_number u s p q c.in_ok-q.ensures) in
    let e = err_from_is_err_and c.from_residual-in_err-test_room.result c.from_residual-in_err-test_room.ensures.1 in
    rw (e.1, e.2)
    (refused_told u (Enter p) s c.in_err-test_room.field-0.0
    (no_room u s p q c.in_ok-q.ensures c.in_err-test_room.field-0.0 (c.in_err-test_room.ensures ∙ ap passed (test_sent u (Enter p) s ms sent))))

pub returns-in_err-test_room-clause-after : goal.returns-in_err-test_room-clause-after
returns-in_err-test_room-clause-after g c =
    let m = c.args.self.now in
    let p = c.args.p in
    let q = c.in_ok-q.q in
    let u = setup_of g.C.Carrier.room m in
    let s = state_of g.C.Carrier.waits m in
    let ms = shown_mails c.enter_mails-mails.result in
    let sent : ms ≡ step_mails u (Enter p) s = c.enter_mails-mails.ensures ∙ ap (λ q. step_mails u (Enter q) s) (same_number u s p q c.in_ok-q.ensures) in
    refused_stays u (Enter p) s c.in_err-test_room.field-0.0
    (no_room u s p q c.in_ok-q.ensures c.in_err-test_room.field-0.0 (c.in_err-test_room.ensures ∙ ap passed (test_sent u (Enter p) s ms sent)))

pub carry_out_enter-requires-clause-within : goal.carry_out_enter-requires-clause-within
carry_out_enter-requires-clause-within g c =
    let m = c.args.self.now in
    let u = setup_of g.C.Carrier.room m in
    let s = state_of g.C.Carrier.waits m in
    omega (arith, same_number u s c.args.p c.in_ok-q.q c.in_ok-q.ensures, arrives_within u s c.args.p c.in_ok-q.q c.in_ok-q.ensures)

pub returns-clause-value : goal.returns-clause-value
returns-clause-value g c =
    let m = c.args.self.now in
    let p = c.args.p in
    let q = c.in_ok-q.q in
    let u = setup_of g.C.Carrier.room m in
    let s = state_of g.C.Carrier.waits m in
    let ms = shown_mails c.enter_mails-mails.result in
    let sent : ms ≡ step_mails u (Enter p) s = c.enter_mails-mails.ensures ∙ ap (λ q. step_mails u (Enter q) s) (same_number u s p q c.in_ok-q.ensures) in
    let accepted = may_enter u s p q c.in_ok-q.ensures (c.in_ok-test_room.ensures ∙ ap passed (test_sent u (Enter p) s ms sent)) in
    ap (λ n. Ok (record { sent = n; from = s.next; ended = None })) c.count.ensures
    ∙ sent_told u (Enter p) s ms sent accepted None (enter_ends_none u s p (c.requires.idle (was_unused u s p q c.in_ok-q.ensures)))

pub returns-clause-after : goal.returns-clause-after
unfolding changed
returns-clause-after g c =
    let m = c.args.self.now in
    let p = c.args.p in
    let q = c.in_ok-q.q in
    let u = setup_of g.C.Carrier.room m in
    let s = state_of g.C.Carrier.waits m in
    let same = same_number u s p q c.in_ok-q.ensures in
    let ms = shown_mails c.enter_mails-mails.result in
    let sent : ms ≡ step_mails u (Enter p) s = c.enter_mails-mails.ensures ∙ ap (λ q. step_mails u (Enter q) s) same in
    let accepted = may_enter u s p q c.in_ok-q.ensures (c.in_ok-test_room.ensures ∙ ap passed (test_sent u (Enter p) s ms sent)) in
    sent_leads u (Enter p) s ms sent accepted _ _ (c.carry_out_enter.ensures.after ∙ ap (λ q. entered u q s) same) c.post.ensures.after
