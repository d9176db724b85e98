use Rattle.std.proofs.Common.{◌≡◌, ℕ, List, set, length, ap, ◌∙◌, rules}
use Rattle.book.specs.declared.book.TickRow.{TickRow}
use Rattle.network.specs.Books.{Row}
use Rattle.book.specs.Rings.{ring}
use Rattle.book.proofs.Rings.{ring_push}
use Rattle.book.proofs.book.LimitBook.end_tick.Goals as goal

pub returns-clause-after : goal.returns-clause-after
returns-clause-after c =
    let b = c.args.self.now in
    let n = c.push.new.self in
    let row : TickRow = record { moves = b.current.moves; present = c.args.present } in
    let whole : length b.rows ≡ 32 = search rules in
    ap (λ (m : ℕ). record { moves = m; past = ring n.rows n.newest n.kept }) c.default-self.ensures.0
    ∙ ap (λ (l : List Row). record { moves = 0; past = l })
    (ap (λ (l : List TickRow). ring l n.newest n.kept) c.push.ensures.rows ∙ ap (λ (i : ℕ). ring (set b.rows i row) i n.kept) c.push.ensures.newest
    ∙ ring_push b.rows b.newest row whole b.within.0 b.kept b.delay n.kept b.within.1 b.within.2 c.push.ensures.kept)
