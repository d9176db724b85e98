-- The log of operations, in the order in which they began.
use Rattle.std.specs.Prelude.{ℕ, zero, suc, ◌+◌, List, [], ◌∷◌, ◌++◌, length, Some, None}
use Rattle.stations.specs.Members.{put}
use Rattle.network.specs.declared.entry.Entry.{Entry}
use Rattle.network.specs.declared.operation.Task.{Task}
use Rattle.network.specs.declared.operation.Task.TheVariants as task
use Rattle.network.specs.Hearing.{kind_of}

pub record Log (R : Type 0) : Type 0 where
  pub entries : List (Entry R)
  -- the place of each station's latest entry
  pub latest : ℕ → ℕ

abbrev pub new_log : {R : Type 0} → Log R
new_log = record { entries = []; latest = λ p. 0 }

-- the list with one element changed
unfoldable pub changed_at : {A : Type 0} → ℕ → (A → A) → List A → List A
changed_at i f [] = []
changed_at zero f (e ∷ es) = f e ∷ es
changed_at (suc i) f (e ∷ es) = e ∷ changed_at i f es

module _ {R : Type 0} where
  -- what an entry shows until its operation ends: of a write its record, of a read the first record
  abbrev pub opening_value : R → Task R → R
  opening_value first task.Read = first
  opening_value first (task.Write r) = r

  abbrev pub opened : R → ℕ → Task R → ℕ → Entry R
  opened first p t clock =
      record { station = p; kind = kind_of t; value = opening_value first t; begin = clock; end = None; replies_one = 0; replies_two = 0 }

  -- an operation of p begins
  abbrev pub open_entry : R → ℕ → Task R → ℕ → Log R → Log R
  open_entry first p t clock l = record { entries = l.entries ++ (opened first p t clock ∷ []); latest = put l.latest p (length l.entries) }

  -- p's latest entry changes
  abbrev pub at_latest : ℕ → (Entry R → Entry R) → Log R → Log R
  at_latest p f l = record { entries = changed_at (l.latest p) f l.entries; latest = l.latest }

  -- a reply more in phase one
  abbrev pub count_one : Entry R → Entry R
  count_one e = record { station = e.station; kind = e.kind; value = e.value; begin = e.begin; end = e.end; replies_one = e.replies_one + 1; replies_two = e.replies_two }

  -- a reply more in phase two
  abbrev pub count_two : Entry R → Entry R
  count_two e = record { station = e.station; kind = e.kind; value = e.value; begin = e.begin; end = e.end; replies_one = e.replies_one; replies_two = e.replies_two + 1 }

  -- the last reply of phase two: the operation ends, and shows its kept record
  abbrev pub close : R → ℕ → Entry R → Entry R
  close kept clock e = record { station = e.station; kind = e.kind; value = kept; begin = e.begin; end = Some clock; replies_one = e.replies_one; replies_two = e.replies_two + 1 }
