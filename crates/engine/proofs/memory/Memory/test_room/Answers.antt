use Rattle.std.proofs.Common.{ltb, leb, [], ◌∷◌, ap, sym, ◌∙◌, arith}
use Rattle.std.proofs.lemmas.Bool.Decides.{nat_tests}
use Rattle.network.specs.Refusals.{mail_test, last_number}
use Rattle.engine.specs.Copies.{shown_room, shown_waits}
use Rattle.engine.specs.Mails.{shown_mails}
use Rattle.engine.specs.Memories.{passed}
use Rattle.engine.proofs.Sending.{test_kept}
use Rattle.engine.proofs.memory.Memory.test_room.Goals as goal

pub returns-in-Nothing : goal.returns-in-Nothing
unfolding mail_test
returns-in-Nothing g c =
    let m = c.args.self.now in
    sym (ap (λ ms. passed (mail_test (shown_room (g.C.Carrier.room m.carrier)) (shown_waits (g.C.Carrier.waits m.carrier)) m.next (shown_mails ms))) c.in-Nothing.is)

pub returns-in-One : goal.returns-in-One
returns-in-One g c =
    let m = c.args.self.now in
    c.numbers_then_room.ensures
    ∙ ap passed (test_kept (g.C.Carrier.room m.carrier) (g.C.Carrier.waits m.carrier) m.next c.in-One.a [] (leb m.next last_number) c.room_one.result (grind (arith, nat_tests)) c.room_one.ensures)
    ∙ sym (ap (λ ms. passed (mail_test (shown_room (g.C.Carrier.room m.carrier)) (shown_waits (g.C.Carrier.waits m.carrier)) m.next (shown_mails ms))) c.in-One.is)

pub returns-in-Two : goal.returns-in-Two
returns-in-Two g c =
    let m = c.args.self.now in
    c.numbers_then_room-in-Two.ensures
    ∙ ap passed (test_kept (g.C.Carrier.room m.carrier) (g.C.Carrier.waits m.carrier) m.next c.in-Two.a (c.in-Two.b ∷ []) (ltb m.next last_number) c.room_two.result (grind (arith, nat_tests)) c.room_two.ensures)
    ∙ sym (ap (λ ms. passed (mail_test (shown_room (g.C.Carrier.room m.carrier)) (shown_waits (g.C.Carrier.waits m.carrier)) m.next (shown_mails ms))) c.in-Two.is)
