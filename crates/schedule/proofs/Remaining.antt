-- The bytes of records that are not yet gone through.
use Rattle.std.proofs.Common.{◌≡◌, ℕ, ◌+◌, ◌<◌, ◌≤◌, List, [], ◌++◌, map, length, get_or, drop, sym, ap, ◌∙◌, add-one, length-append, drop-cons}
use Rattle.std.proofs.lemmas.List.{drop_all}
use Rattle.schedule.specs.declared.Record.{Record}
use Rattle.schedule.specs.declared.Record.TheVariants.{Settings}
use Rattle.schedule.specs.Items.{shown}
use Rattle.schedule.specs.Kinds.{spell}
use Rattle.schedule.specs.Writing.{spelled}

-- the bytes of all records
abbrev pub all_bytes : List Record → List ℕ
all_bytes rs = spelled (map shown rs)

-- the bytes of the records from an index on
abbrev pub bytes_from : ℕ → List Record → List ℕ
bytes_from i rs = spelled (map shown (drop i rs))

-- the record at an index; past the end some record, as the code's proofs have it
abbrev pub record_at : List Record → ℕ → Record
record_at rs i = get_or rs i (Settings (record { alpha = 0; delta = 0; beta = 0; gamma = 0; nmin = 0; d = 0 }))

pub bytes_next : (rs : List Record) (i : ℕ) → i < length rs
    → bytes_from i rs ≡ spell (shown (record_at rs i)) ++ bytes_from (i + 1) rs
bytes_next rs i h =
    ap all_bytes (drop-cons rs i _ h)
    ∙ ap (λ (n : ℕ). spell (shown (record_at rs i)) ++ bytes_from n rs) (sym (add-one i))

pub length_next : (rs : List Record) (i : ℕ) → i < length rs
    → length (bytes_from i rs) ≡ length (spell (shown (record_at rs i))) + length (bytes_from (i + 1) rs)
length_next rs i h = ap length (bytes_next rs i h) ∙ length-append (spell (shown (record_at rs i))) (bytes_from (i + 1) rs)

pub bytes_end : (rs : List Record) (i : ℕ) → length rs ≤ i → bytes_from i rs ≡ []
bytes_end rs i h = ap all_bytes (drop_all i rs h)

pub length_end : (rs : List Record) (i : ℕ) → length rs ≤ i → length (bytes_from i rs) ≡ 0
length_end rs i h = ap length (bytes_end rs i h)
