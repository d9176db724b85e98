use Rattle.std.proofs.Common.{◌≡◌, ℕ, None, Ok, ap, sym, ◌∙◌, arith}
use Rattle.std.proofs.lemmas.Result.{err_from_is_err_and}
use Rattle.network.specs.declared.step.Step.TheVariants.{Leave}
use Rattle.network.specs.Changes.{changed, departed}
use Rattle.network.specs.Refusals.{step_mails}
use Rattle.engine.specs.Mails.{shown_mails}
use Rattle.engine.specs.Memories.{state_of, setup_of, passed}
use Rattle.engine.proofs.Departures.{departing, not_acting, same_station, acts_within, not_departing, no_room, may_leave, leave_ends_none}
use Rattle.engine.proofs.Faults.{is_none}
use Rattle.engine.proofs.Outcomes.{refused_told, refused_stays}
use Rattle.engine.proofs.Sent.{test_sent, sent_leads, sent_told, room_stays}
use Rattle.engine.proofs.memory.Memory.leave.Goals as goal

pub returns-in_err-q-clause-value : goal.returns-in_err-q-clause-value
returns-in_err-q-clause-value g c =
    let m = c.args.self.now in
    let p = c.args.p in
    let u = setup_of g.C.Carrier.room m in
    let s = state_of g.C.Carrier.waits m in
    let e = err_from_is_err_and c.from_residual.result c.from_residual.ensures.1 in
    rw (e.1, e.2) (refused_told u (Leave p) s c.in_err-q.field-0.0 (not_acting u s p c.in_err-q.field-0.0 c.in_err-q.ensures))

pub returns-in_err-q-clause-after : goal.returns-in_err-q-clause-after
returns-in_err-q-clause-after g c =
    let m = c.args.self.now in
    let p = c.args.p in
    let u = setup_of g.C.Carrier.room m in
    let s = state_of g.C.Carrier.waits m in
    refused_stays u (Leave p) s c.in_err-q.field-0.0 (not_acting u s p c.in_err-q.field-0.0 c.in_err-q.ensures)

pub returns-in_err-test_leave-clause-value : goal.returns-in_err-test_leave-clause-value
returns-in_err-test_leave-clause-value g c =
    let m = c.args.self.now in
    let p = c.args.p in
    let u = setup_of g.C.Carrier.room m in
    let s = state_of g.C.Carrier.waits m in
    let q = c.in_ok-q.q in
    let same = same_station u s p q c.in_ok-q.ensures in
    let f = c.in_err-test_leave.field-0.0 in
    let e = err_from_is_err_and c.from_residual-in_err-test_leave.result c.from_residual-in_err-test_leave.ensures.1 in
    rw (e.1, e.2) (refused_told u (Leave p) s f (not_departing u s p q c.in_ok-q.ensures f (c.in_err-test_leave.ensures ∙ ap (λ (q : ℕ). passed (departing u s q)) same)))

pub returns-in_err-test_leave-clause-after : goal.returns-in_err-test_leave-clause-after
returns-in_err-test_leave-clause-after g c =
    let m = c.args.self.now in
    let p = c.args.p in
    let u = setup_of g.C.Carrier.room m in
    let s = state_of g.C.Carrier.waits m in
    let q = c.in_ok-q.q in
    let same = same_station u s p q c.in_ok-q.ensures in
    let f = c.in_err-test_leave.field-0.0 in
    refused_stays u (Leave p) s f (not_departing u s p q c.in_ok-q.ensures f (c.in_err-test_leave.ensures ∙ ap (λ (q : ℕ). passed (departing u s q)) same))

pub returns-in_err-test_room-clause-value : goal.returns-in_err-test_room-clause-value
returns-in_err-test_room-clause-value g c =
    let m = c.args.self.now in
    let p = c.args.p in
    let u = setup_of g.C.Carrier.room m in
    let s = state_of g.C.Carrier.waits m in
    let q = c.in_ok-q.q in
    let same = same_station u s p q c.in_ok-q.ensures in
    let departs = c.in_ok-test_leave.ensures ∙ ap (λ (q : ℕ). passed (departing u s q)) same in
    let ms = shown_mails c.leave_mails-mails.result in
    let sent : ms ≡ step_mails u (Leave p) s = c.leave_mails-mails.ensures ∙ ap (λ (q : ℕ). step_mails u (Leave q) s) same in
    let f = c.in_err-test_room.field-0.0 in
    let e = err_from_is_err_and c.from_residual-in_err-test_room.result c.from_residual-in_err-test_room.ensures.1 in
    rw (e.1, e.2) (refused_told u (Leave p) s f (no_room u s p q c.in_ok-q.ensures departs f (c.in_err-test_room.ensures ∙ ap passed (test_sent u (Leave p) s ms sent))))

pub returns-in_err-test_room-clause-after : goal.returns-in_err-test_room-clause-after
returns-in_err-test_room-clause-after g c =
    let m = c.args.self.now in
    let p = c.args.p in
    let u = setup_of g.C.Carrier.room m in
    let s = state_of g.C.Carrier.waits m in
    let q = c.in_ok-q.q in
    let same = same_station u s p q c.in_ok-q.ensures in
    let departs = c.in_ok-test_leave.ensures ∙ ap (λ (q : ℕ). passed (departing u s q)) same in
    let ms = shown_mails c.leave_mails-mails.result in
    let sent : ms ≡ step_mails u (Leave p) s = c.leave_mails-mails.ensures ∙ ap (λ (q : ℕ). step_mails u (Leave q) s) same in
    let f = c.in_err-test_room.field-0.0 in
    refused_stays u (Leave p) s f (no_room u s p q c.in_ok-q.ensures departs f (c.in_err-test_room.ensures ∙ ap passed (test_sent u (Leave p) s ms sent)))

pub carry_out_leave-requires-clause-within : goal.carry_out_leave-requires-clause-within
carry_out_leave-requires-clause-within g c =
    let m = c.args.self.now in
    let p = c.args.p in
    let u = setup_of g.C.Carrier.room m in
    let s = state_of g.C.Carrier.waits m in
    omega (arith, same_station u s p c.in_ok-q.q c.in_ok-q.ensures, acts_within u s p c.in_ok-q.q c.in_ok-q.ensures)

pub post-requires-clause-room : goal.post-requires-clause-room
unfolding changed
post-requires-clause-room g c =
    let m = c.args.self.now in
    let p = c.args.p in
    let u = setup_of g.C.Carrier.room m in
    let s = state_of g.C.Carrier.waits m in
    let q = c.in_ok-q.q in
    let same = same_station u s p q c.in_ok-q.ensures in
    let departs = c.in_ok-test_leave.ensures ∙ ap (λ (q : ℕ). passed (departing u s q)) same in
    let ms = shown_mails c.leave_mails-mails.result in
    let sent : ms ≡ step_mails u (Leave p) s = c.leave_mails-mails.ensures ∙ ap (λ (q : ℕ). step_mails u (Leave q) s) same in
    room_stays g.C.Carrier.laws m c.carry_out_leave.new.self (Leave p) ms sent (sym (test_sent u (Leave p) s ms sent) ∙ is_none _ c.in_ok-test_room.ensures)
    (c.carry_out_leave.ensures.after ∙ ap (λ (q : ℕ). departed q s) same) c.carry_out_leave.ensures.same

pub returns-clause-value : goal.returns-clause-value
returns-clause-value g c =
    let m = c.args.self.now in
    let p = c.args.p in
    let u = setup_of g.C.Carrier.room m in
    let s = state_of g.C.Carrier.waits m in
    let q = c.in_ok-q.q in
    let same = same_station u s p q c.in_ok-q.ensures in
    let departs = c.in_ok-test_leave.ensures ∙ ap (λ (q : ℕ). passed (departing u s q)) same in
    let ms = shown_mails c.leave_mails-mails.result in
    let sent : ms ≡ step_mails u (Leave p) s = c.leave_mails-mails.ensures ∙ ap (λ (q : ℕ). step_mails u (Leave q) s) same in
    let accepted = may_leave u s p q c.in_ok-q.ensures departs (c.in_ok-test_room.ensures ∙ ap passed (test_sent u (Leave p) s ms sent)) in
    ap (λ n. Ok (record { sent = n; from = s.next; ended = None })) c.count.ensures ∙ sent_told u (Leave p) s ms sent accepted None (leave_ends_none u s p)

pub returns-clause-after : goal.returns-clause-after
unfolding changed
returns-clause-after g c =
    let m = c.args.self.now in
    let p = c.args.p in
    let u = setup_of g.C.Carrier.room m in
    let s = state_of g.C.Carrier.waits m in
    let q = c.in_ok-q.q in
    let same = same_station u s p q c.in_ok-q.ensures in
    let departs = c.in_ok-test_leave.ensures ∙ ap (λ (q : ℕ). passed (departing u s q)) same in
    let ms = shown_mails c.leave_mails-mails.result in
    let sent : ms ≡ step_mails u (Leave p) s = c.leave_mails-mails.ensures ∙ ap (λ (q : ℕ). step_mails u (Leave q) s) same in
    let accepted = may_leave u s p q c.in_ok-q.ensures departs (c.in_ok-test_room.ensures ∙ ap passed (test_sent u (Leave p) s ms sent)) in
    sent_leads u (Leave p) s ms sent accepted _ _ (c.carry_out_leave.ensures.after ∙ ap (λ (q : ℕ). departed q s) same) c.post.ensures.after
