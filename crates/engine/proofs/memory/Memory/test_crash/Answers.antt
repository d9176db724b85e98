use Rattle.std.proofs.Common.{◌≡◌, ℕ, false, ap, ◌∙◌}
use Rattle.std.proofs.lemmas.Result.{err_from_is_err_and}
use Rattle.settings.specs.declared.choice.Choice.{Choice}
use Rattle.stations.specs.Members.{member, put, only, how_many}
use Rattle.network.specs.Books.{crashed_share}
use Rattle.network.specs.Knowing.{Set, most_stations}
use Rattle.engine.specs.Memories.{state_of, setup_of}
use Rattle.engine.proofs.Crashing.{not_acting, same_station, too_many, may_crash, share_kept}
use Rattle.engine.proofs.memory.Memory.test_crash.Goals as goal

pub returns-in_err-q : goal.returns-in_err-q
returns-in_err-q g c =
    let m = c.args.self.now in
    let e = err_from_is_err_and c.from_residual.result c.from_residual.ensures.1 in
    rw (e.1, e.2) (not_acting (setup_of g.C.Carrier.room m) (state_of g.C.Carrier.waits m) c.args.p c.in_err-q.field-0.0 c.in_err-q.ensures)

pub returns-in_err-hold : goal.returns-in_err-hold
returns-in_err-hold g c =
    let m = c.args.self.now in
    let u = setup_of g.C.Carrier.room m in
    let s = state_of g.C.Carrier.waits m in
    let e = err_from_is_err_and c.from_residual-in_err-hold.result c.from_residual-in_err-hold.ensures.1 in
    let same = same_station u s c.args.p c.in_ok-q.q c.in_ok-q.ensures in
    let few : c.count_without-crashed.result ≡ how_many (only (member m.present) (put (member m.active) c.args.p false)) most_stations =
    c.count_without-crashed.ensures.value ∙ ap (λ (f : Set). how_many (only (member m.present) f) most_stations) (c.remove.ensures.meaning ∙ ap (λ (q : ℕ). put (member m.active) q false) same) in
    let asked =
    c.share_allowed-allowed.ensures ∙ ap (λ (h : Choice). crashed_share h.delta c.count_without-crashed.result c.count.result) c.choice.ensures
    ∙ share_kept s c.args.p (member m.present) (member m.active) c.requires.kept.present c.requires.kept.active m.settings.choice.delta c.count_without-crashed.result c.count.result few c.count.ensures.value in
    rw (e.1, e.2) (too_many u s c.args.p c.in_ok-q.q c.in_ok-q.ensures c.share_allowed-allowed.result asked c.in_err-hold.field-0.0 c.in_err-hold.ensures)

pub returns : goal.returns
returns g c =
    let m = c.args.self.now in
    let u = setup_of g.C.Carrier.room m in
    let s = state_of g.C.Carrier.waits m in
    let same = same_station u s c.args.p c.in_ok-q.q c.in_ok-q.ensures in
    let few : c.count_without-crashed.result ≡ how_many (only (member m.present) (put (member m.active) c.args.p false)) most_stations =
    c.count_without-crashed.ensures.value ∙ ap (λ (f : Set). how_many (only (member m.present) f) most_stations) (c.remove.ensures.meaning ∙ ap (λ (q : ℕ). put (member m.active) q false) same) in
    let asked =
    c.share_allowed-allowed.ensures ∙ ap (λ (h : Choice). crashed_share h.delta c.count_without-crashed.result c.count.result) c.choice.ensures
    ∙ share_kept s c.args.p (member m.present) (member m.active) c.requires.kept.present c.requires.kept.active m.settings.choice.delta c.count_without-crashed.result c.count.result few c.count.ensures.value in
    may_crash u s c.args.p c.in_ok-q.q c.in_ok-q.ensures c.share_allowed-allowed.result asked c.in_ok-hold.ensures
