-- What the limit book's memory shows: the rows of its ring, the newest first.
use Rattle.std.specs.Prelude.{ℕ, zero, suc, ◌+◌, ◌%◌, Bool, List, [], ◌∷◌, slice_index_or}
use Rattle.book.specs.declared.book.LimitBook.{LimitBook}
use Rattle.book.specs.declared.book.TickRow.{TickRow}
use Rattle.network.specs.Books.{Row, Book}
use Rattle.network.specs.Limits.{may_rise}

abbrev pub row_of : TickRow → Row
row_of r = record { moves = r.moves; present = r.present }

-- a row in which nothing is noted
abbrev pub no_row : TickRow
no_row = record { moves = 0; present = 0 }

-- so many rows from a place on, round a ring of 32
unfoldable pub ring : List TickRow → ℕ → ℕ → List Row
ring rows at zero = []
ring rows at (suc n) = row_of (slice_index_or rows (at % 32) no_row) ∷ ring rows (at + 1) n

abbrev pub book_of : LimitBook → Book
book_of b = record { moves = b.current.moves; past = ring b.rows b.newest b.kept }

-- one arrival or departure more can be noted
abbrev pub can_note : Book → Bool
can_note b = may_rise b.moves
