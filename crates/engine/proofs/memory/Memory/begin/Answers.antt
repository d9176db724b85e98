use Rattle.std.proofs.Common.{ℕ, None, Ok, ap, ◌∙◌}
use Rattle.std.proofs.lemmas.Result.{err_from_is_err_and}
use Rattle.stations.specs.Members.{member}
use Rattle.network.specs.Limits.{can_begin}
use Rattle.engine.specs.Beginnings.{beginning}
use Rattle.engine.specs.Mails.{shown_mails}
use Rattle.engine.specs.Memories.{state_of, setup_of}
use Rattle.engine.proofs.Outcomes.{refused_told, refused_stays}
use Rattle.engine.proofs.Sent.{sent_leads, sent_told, room_stays}
use Rattle.engine.proofs.Tasks.{not_ready, no_place, granted, none_ended}
use Rattle.engine.proofs.memory.Memory.begin.Goals as goal

pub returns-in_err-q-clause-value : goal.returns-in_err-q-clause-value
returns-in_err-q-clause-value g c =
    let m = c.args.self.now in
    let u = setup_of g.C.Carrier.room m in
    let s = state_of g.C.Carrier.waits m in
    let told = not_ready u s c.args.p c.args.task _ c.in_err-q.field-0.0 c.in_err-q.ensures in
    let e = err_from_is_err_and c.from_residual.result c.from_residual.ensures.1 in
    rw (e.1, e.2) (refused_told u (beginning c.args.p c.args.task) s c.in_err-q.field-0.0 told)

pub returns-in_err-q-clause-after : goal.returns-in_err-q-clause-after
returns-in_err-q-clause-after g c =
    let m = c.args.self.now in
    let u = setup_of g.C.Carrier.room m in
    let s = state_of g.C.Carrier.waits m in
    let told = not_ready u s c.args.p c.args.task _ c.in_err-q.field-0.0 c.in_err-q.ensures in
    refused_stays u (beginning c.args.p c.args.task) s c.in_err-q.field-0.0 told

pub returns-in_err-test_places-clause-value : goal.returns-in_err-test_places-clause-value
returns-in_err-test_places-clause-value g c =
    let m = c.args.self.now in
    let u = setup_of g.C.Carrier.room m in
    let s = state_of g.C.Carrier.waits m in
    let told = no_place u s c.args.p c.in_ok-q.q c.in_ok-q.tag c.in_ok-q.ensures c.args.task (member m.active) (shown_mails c.query-mails.result) c.query-mails.ensures c.requires.kept.active c.in_err-test_places.field-0.0 c.in_err-test_places.ensures in
    let e = err_from_is_err_and c.from_residual-in_err-test_places.result c.from_residual-in_err-test_places.ensures.1 in
    rw (e.1, e.2) (refused_told u (beginning c.args.p c.args.task) s c.in_err-test_places.field-0.0 told)

pub returns-in_err-test_places-clause-after : goal.returns-in_err-test_places-clause-after
returns-in_err-test_places-clause-after g c =
    let m = c.args.self.now in
    let u = setup_of g.C.Carrier.room m in
    let s = state_of g.C.Carrier.waits m in
    let told = no_place u s c.args.p c.in_ok-q.q c.in_ok-q.tag c.in_ok-q.ensures c.args.task (member m.active) (shown_mails c.query-mails.result) c.query-mails.ensures c.requires.kept.active c.in_err-test_places.field-0.0 c.in_err-test_places.ensures in
    refused_stays u (beginning c.args.p c.args.task) s c.in_err-test_places.field-0.0 told

pub carry_out_begin-requires-clause-within : goal.carry_out_begin-requires-clause-within
carry_out_begin-requires-clause-within g c =
    let m = c.args.self.now in
    let u = setup_of g.C.Carrier.room m in
    let s = state_of g.C.Carrier.waits m in
    let k = granted u s c.args.p c.in_ok-q.q c.in_ok-q.tag c.in_ok-q.ensures c.args.task (member m.active) (shown_mails c.query-mails.result) c.query-mails.ensures c.requires.kept.active c.in_ok-test_places.ensures in
    k.within

pub carry_out_begin-requires-clause-rises : goal.carry_out_begin-requires-clause-rises
carry_out_begin-requires-clause-rises g c =
    let m = c.args.self.now in
    let u = setup_of g.C.Carrier.room m in
    let s = state_of g.C.Carrier.waits m in
    let k = granted u s c.args.p c.in_ok-q.q c.in_ok-q.tag c.in_ok-q.ensures c.args.task (member m.active) (shown_mails c.query-mails.result) c.query-mails.ensures c.requires.kept.active c.in_ok-test_places.ensures in
    ap (λ (q : ℕ). can_begin (s.stations q)) k.same ∙ c.requires.rises

pub carry_out_begin-requires-clause-opens : goal.carry_out_begin-requires-clause-opens
carry_out_begin-requires-clause-opens g c =
    let m = c.args.self.now in
    let u = setup_of g.C.Carrier.room m in
    let s = state_of g.C.Carrier.waits m in
    let k = granted u s c.args.p c.in_ok-q.q c.in_ok-q.tag c.in_ok-q.ensures c.args.task (member m.active) (shown_mails c.query-mails.result) c.query-mails.ensures c.requires.kept.active c.in_ok-test_places.ensures in
    k.opens

pub post-requires-clause-room : goal.post-requires-clause-room
post-requires-clause-room g c =
    let m = c.args.self.now in
    let u = setup_of g.C.Carrier.room m in
    let s = state_of g.C.Carrier.waits m in
    let ms = shown_mails c.query-mails.result in
    let k = granted u s c.args.p c.in_ok-q.q c.in_ok-q.tag c.in_ok-q.ensures c.args.task (member m.active) ms c.query-mails.ensures c.requires.kept.active c.in_ok-test_places.ensures in
    room_stays g.C.Carrier.laws m c.carry_out_begin.new.self (beginning c.args.p c.args.task) ms k.sent k.fits (c.carry_out_begin.ensures.after ∙ k.leads) c.carry_out_begin.ensures.same

pub returns-clause-value : goal.returns-clause-value
returns-clause-value g c =
    let m = c.args.self.now in
    let u = setup_of g.C.Carrier.room m in
    let s = state_of g.C.Carrier.waits m in
    let ms = shown_mails c.query-mails.result in
    let k = granted u s c.args.p c.in_ok-q.q c.in_ok-q.tag c.in_ok-q.ensures c.args.task (member m.active) ms c.query-mails.ensures c.requires.kept.active c.in_ok-test_places.ensures in
    ap (λ (n : ℕ). Ok (record { sent = n; from = m.next; ended = None })) c.count.ensures
    ∙ sent_told u (beginning c.args.p c.args.task) s ms k.sent k.accepted None (none_ended u s c.args.p c.args.task)

pub returns-clause-after : goal.returns-clause-after
returns-clause-after g c =
    let m = c.args.self.now in
    let u = setup_of g.C.Carrier.room m in
    let s = state_of g.C.Carrier.waits m in
    let ms = shown_mails c.query-mails.result in
    let k = granted u s c.args.p c.in_ok-q.q c.in_ok-q.tag c.in_ok-q.ensures c.args.task (member m.active) ms c.query-mails.ensures c.requires.kept.active c.in_ok-test_places.ensures in
    sent_leads u (beginning c.args.p c.args.task) s ms k.sent k.accepted (state_of g.C.Carrier.waits c.carry_out_begin.new.self) (state_of g.C.Carrier.waits c.post.new.self)
    (c.carry_out_begin.ensures.after ∙ k.leads) c.post.ensures.after
