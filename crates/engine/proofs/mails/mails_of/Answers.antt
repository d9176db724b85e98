use Rattle.std.proofs.Common.{◌+◌, Some, None, map, ap, sym, ◌∙◌}
use Rattle.network.specs.Posting.{mails}
use Rattle.network.specs.Saying.{letters}
use Rattle.network.specs.Shown.{shown_letter, shown_speech}
use Rattle.stations.specs.Members.{member}
use Rattle.engine.specs.Copies.{shown_post}
use Rattle.engine.proofs.Letters.{none_first, only_mail, two_mails}
use Rattle.engine.proofs.mails.mails_of.Goals as goal

pub returns-in-Silent : goal.returns-in-Silent
unfolding mails
returns-in-Silent g c = sym (ap (λ s. mails c.args.from c.args.clock (member c.args.active.now) c.args.next (letters (shown_speech s))) c.in-Silent.is)

pub returns-in-One : goal.returns-in-One
returns-in-One g c =
    ap (map shown_post) c.at_most_one.ensures
    ∙ only_mail c.args.from c.args.clock (member c.args.active.now) c.args.next (shown_letter c.in-One.a) c.mail_of.result c.mail_of.ensures
    ∙ sym (ap (λ s. mails c.args.from c.args.clock (member c.args.active.now) c.args.next (letters (shown_speech s))) c.in-One.is)

pub returns-in-None : goal.returns-in-None
returns-in-None g c =
    ap (map shown_post) c.at_most_one-in-None.ensures
    ∙ only_mail c.args.from c.args.clock (member c.args.active.now) c.args.next (shown_letter c.in-Two.b) c.mail_of-in-None.result c.mail_of-in-None.ensures
    ∙ none_first c.args.from c.args.clock (member c.args.active.now) c.args.next (shown_letter c.in-Two.a) _ c.in-None.ensures
    ∙ sym (ap (λ s. mails c.args.from c.args.clock (member c.args.active.now) c.args.next (letters (shown_speech s))) c.in-Two.is)

pub returns-in-None-mail_of : goal.returns-in-None-mail_of
returns-in-None-mail_of g c =
    two_mails c.args.from c.args.clock (member c.args.active.now) c.args.next (shown_letter c.in-Two.a) (shown_letter c.in-Two.b) (shown_post c.in-Some.first) None c.in-Some.ensures
    (only_mail c.args.from c.args.clock (member c.args.active.now) (c.args.next + 1) (shown_letter c.in-Two.b) None c.in-None-mail_of.ensures)
    ∙ sym (ap (λ s. mails c.args.from c.args.clock (member c.args.active.now) c.args.next (letters (shown_speech s))) c.in-Two.is)

pub returns-in-Some-mail_of : goal.returns-in-Some-mail_of
returns-in-Some-mail_of g c =
    two_mails c.args.from c.args.clock (member c.args.active.now) c.args.next (shown_letter c.in-Two.a) (shown_letter c.in-Two.b) (shown_post c.in-Some.first) (Some c.in-Some-mail_of.second) c.in-Some.ensures
    (only_mail c.args.from c.args.clock (member c.args.active.now) (c.args.next + 1) (shown_letter c.in-Two.b) (Some c.in-Some-mail_of.second) c.in-Some-mail_of.ensures)
    ∙ sym (ap (λ s. mails c.args.from c.args.clock (member c.args.active.now) c.args.next (letters (shown_speech s))) c.in-Two.is)
