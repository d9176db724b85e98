use Rattle.std.proofs.Common.{ℕ, Bool, leb, ap, ap₂, sym, ◌∙◌}
use Rattle.std.proofs.lemmas.Result.{err_from_is_err_and}
use Rattle.settings.specs.declared.choice.Choice.{Choice}
use Rattle.stations.specs.Members.{member, only, how_many}
use Rattle.network.specs.declared.fault.StepFault.TheVariants.{Churn, TooFewPresent, TooManyCrashed}
use Rattle.network.specs.Books.{allows, crashed_share}
use Rattle.network.specs.Knowing.{Set, most_stations}
use Rattle.network.specs.Refusals.{unless, churn_test}
use Rattle.book.specs.Rings.{book_of}
use Rattle.engine.specs.Memories.{state_of, setup_of, passed}
use Rattle.engine.proofs.Departures.{enough, share, stay_kept, crashed_kept}
use Rattle.engine.proofs.Faults.{fails_first, second_told, passes_on, last_decides}
use Rattle.engine.proofs.memory.Memory.test_leave.Goals as goal

pub returns-in_err-hold : goal.returns-in_err-hold
returns-in_err-hold g c =
    let m = c.args.self.now in
    let u = setup_of g.C.Carrier.room m in
    let s = state_of g.C.Carrier.waits m in
    let f = c.in_err-hold.field-0.0 in
    let allowed = c.allows.ensures ∙ ap (λ (h : Choice). allows h.alpha m.clock (book_of m.book)) c.choice-choice.ensures in
    let e = err_from_is_err_and c.from_residual.result c.from_residual.ensures.1 in
    rw (e.1, e.2) (fails_first (churn_test u s) _ f (c.in_err-hold.ensures ∙ ap (λ (b : Bool). passed (unless b Churn)) allowed))

pub returns-in_err-hold-2 : goal.returns-in_err-hold-2
returns-in_err-hold-2 g c =
    let m = c.args.self.now in
    let q = c.args.q in
    let u = setup_of g.C.Carrier.room m in
    let s = state_of g.C.Carrier.waits m in
    let f = c.in_err-hold-2.field-0.0 in
    let allowed = c.allows.ensures ∙ ap (λ (h : Choice). allows h.alpha m.clock (book_of m.book)) c.choice-choice.ensures in
    let stay = stay_kept s q (member m.present) (member m.active) c.requires.kept.present c.requires.kept.active c.count-stay.result (c.count-stay.ensures.value ∙ ap (λ (f : Set). how_many f most_stations) c.remove.ensures.meaning) in
    let e = err_from_is_err_and c.from_residual-in_err-hold-2.result c.from_residual-in_err-hold-2.ensures.1 in
    rw (e.1, e.2)
    (second_told (churn_test u s) (enough u s q) (share u s q) f (c.in_ok-hold.ensures ∙ ap (λ (b : Bool). passed (unless b Churn)) allowed)
    (c.in_err-hold-2.ensures ∙ ap₂ (λ (h : Choice) (n : ℕ). passed (unless (leb h.nmin n) TooFewPresent)) c.choice-choice.ensures stay))

pub returns : goal.returns
returns g c =
    let m = c.args.self.now in
    let q = c.args.q in
    let u = setup_of g.C.Carrier.room m in
    let s = state_of g.C.Carrier.waits m in
    let allowed = c.allows.ensures ∙ ap (λ (h : Choice). allows h.alpha m.clock (book_of m.book)) c.choice-choice.ensures in
    let stay = stay_kept s q (member m.present) (member m.active) c.requires.kept.present c.requires.kept.active c.count-stay.result (c.count-stay.ensures.value ∙ ap (λ (f : Set). how_many f most_stations) c.remove.ensures.meaning) in
    let crashed = crashed_kept s q (member m.present) (member m.active) c.requires.kept.present c.requires.kept.active c.count_without-crashed.result (c.count_without-crashed.ensures.value ∙ ap₂ (λ (f g : Set). how_many (only f g) most_stations) c.remove.ensures.meaning c.remove-2.ensures.meaning) in
    let few = c.share_allowed-allowed.ensures ∙ ap (λ (h : Choice). crashed_share h.delta c.count_without-crashed.result c.count-stay.result) c.choice-choice.ensures ∙ ap₂ (crashed_share m.settings.choice.delta) crashed stay in
    c.hold-3.ensures ∙ ap (λ (b : Bool). passed (unless b TooManyCrashed)) few
    ∙ ap passed
    (sym (last_decides (share u s q))
    ∙ sym (passes_on (enough u s q) _ (c.in_ok-hold-2.ensures ∙ ap₂ (λ (h : Choice) (n : ℕ). passed (unless (leb h.nmin n) TooFewPresent)) c.choice-choice.ensures stay))
    ∙ sym (passes_on (churn_test u s) _ (c.in_ok-hold.ensures ∙ ap (λ (b : Bool). passed (unless b Churn)) allowed)))
