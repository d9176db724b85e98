use Rattle.std.proofs.Common.{ap, sym, ◌∙◌}
use Rattle.network.specs.Posting.{with_mail, with_mails}
use Rattle.engine.specs.Copies.{shown_post, shown_waits}
use Rattle.engine.specs.Mails.{shown_mails}
use Rattle.engine.proofs.Sending.{posted_shown}
use Rattle.engine.proofs.posting.post_all.Goals as goal

pub returns-in-One-clause-after : goal.returns-in-One-clause-after
returns-in-One-clause-after g c =
    let w = g.C.Carrier.waits c.args.carrier.now in
    ap shown_waits c.post_one.ensures.after
    ∙ posted_shown c.in-One.a w
    ∙ sym (ap (λ ms. with_mails (shown_mails ms) (shown_waits w)) c.in-One.is)

pub returns-in-Two-clause-after : goal.returns-in-Two-clause-after
returns-in-Two-clause-after g c =
    let w = g.C.Carrier.waits c.args.carrier.now in
    ap shown_waits c.post_one-in-Two-2.ensures.after
    ∙ posted_shown c.in-Two.b _
    ∙ ap (λ v. with_mail (shown_post c.in-Two.b) v) (ap shown_waits c.post_one-in-Two.ensures.after ∙ posted_shown c.in-Two.a w)
    ∙ sym (ap (λ ms. with_mails (shown_mails ms) (shown_waits w)) c.in-Two.is)
