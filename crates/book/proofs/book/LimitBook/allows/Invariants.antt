use Rattle.std.proofs.Common.{◌≡◌, ◌+◌, ◌-◌, ◌*◌, ◌^◌, ◌≤◌}
use Rattle.network.specs.Books.{within_churn}
use Rattle.book.specs.Rings.{ring}
use Rattle.book.proofs.book.LimitBook.allows.Given as goal

-- what is left of the test, from the i-th row on
abbrev pub invariant-loop-i : goal.invariant-loop-i
invariant-loop-i l =
    (within_churn l.alpha (l.self.current.moves + 1) (ring l.self.rows l.self.newest l.self.kept)
    ≡ within_churn l.alpha l.moves (ring l.self.rows (l.self.newest + l.i) (l.self.kept - l.i)))
    × (l.moves ≤ 2 ^ 32 * (l.i + 1))
