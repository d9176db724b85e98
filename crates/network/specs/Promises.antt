-- The three promises of every run, as statements, and that the log tells the operations.
use Rattle.std.specs.Prelude.{◌≡◌, ℕ, ◌+◌, ◌*◌, ◌<◌, ◌≤◌, Bool, true, false, ◌⊎◌, List, [], ◌∷◌, ◌++◌, length, is_some, Some, None, ◌==◌, slice_get}
use Rattle.std.specs.Option.{option_to_list}
use Rattle.network.specs.declared.entry.Entry.{Entry}
use Rattle.network.specs.declared.operation.Kind.{Kind}
use Rattle.network.specs.declared.operation.Kind.TheVariants.{Read, Write}
use Rattle.network.specs.declared.step.Step.{Step}
use Rattle.network.specs.declared.step.Step.TheVariants.{Tick, Enter, Leave, Crash, Deliver}
use Rattle.network.specs.declared.step.Step.TheVariants as step
use Rattle.network.specs.Keeping.{active}
use Rattle.network.specs.Refusals.{refusal}
use Rattle.network.specs.Runs.{state_at, AdmittedStart}
use Rattle.network.specs.States.{Setup}

-- the element x stands at some place of the list
abbrev pub In : {A : Type 0} → A → List A → Type 0
In x xs = (i : ℕ) × (slice_get xs i ≡ Some x)

-- x stands ahead of y in the list
abbrev pub Ahead : {A : Type 0} → A → A → List A → Type 0
Ahead x y xs = (i : ℕ) × (j : ℕ) × (i < j) × (slice_get xs i ≡ Some x) × (slice_get xs j ≡ Some y)

-- no element stands at two places
abbrev pub Distinct : {A : Type 0} → List A → Type 0
Distinct {A} xs = (i j : ℕ) (x : A) → slice_get xs i ≡ Some x → slice_get xs j ≡ Some x → i ≡ j

-- the elements at these places, in this order
abbrev pub picked : {A : Type 0} → List A → List ℕ → List A
picked xs [] = []
picked xs (i ∷ is) = option_to_list (slice_get xs i) ++ picked xs is

module _ {R : Type 0} where
  -- operations done one after the other on a single register that holds r: a write replaces it, a read gives it
  abbrev pub AsOneRegister : R → List (Entry R) → Type 0
  AsOneRegister r [] = Unit {0}
  AsOneRegister r (e ∷ es) = elim e.kind [ Read ↦ (e.value ≡ r) × AsOneRegister r es | Write ↦ AsOneRegister e.value es ]

  -- the step is a read or a write of station p
  abbrev pub begins_at : Step R → ℕ → Bool
  begins_at Tick p = false
  begins_at (Enter q) p = false
  begins_at (Leave q) p = false
  begins_at (Crash q) p = false
  begins_at (step.Read q) p = q == p
  begins_at (step.Write q r) p = q == p
  begins_at (Deliver n q) p = false

  -- what a read or a write orders
  abbrev pub kind_ordered : Step R → Kind
  kind_ordered Tick = Read
  kind_ordered (Enter q) = Read
  kind_ordered (Leave q) = Read
  kind_ordered (Crash q) = Read
  kind_ordered (step.Read q) = Read
  kind_ordered (step.Write q r) = Write
  kind_ordered (Deliver n q) = Read

  -- a value shows what the step orders: of a write its record; a read orders none
  abbrev pub ShowsOrdered : Step R → R → Type 0
  ShowsOrdered Tick v = Unit {0}
  ShowsOrdered (Enter q) v = Unit {0}
  ShowsOrdered (Leave q) v = Unit {0}
  ShowsOrdered (Crash q) v = Unit {0}
  ShowsOrdered (step.Read q) v = Unit {0}
  ShowsOrdered (step.Write q r) v = v ≡ r
  ShowsOrdered (Deliver n q) v = Unit {0}

  module _ (u : Setup R) (k : ℕ) (xs : List (Step R)) where
    -- the log's entries before step i
    abbrev pub log_at : ℕ → List (Entry R)
    log_at i = (state_at u k xs i).log.entries

    -- the log's entries at the end
    abbrev pub whole_log : List (Entry R)
    whole_log = log_at (length xs)

    -- operation x had ended at some place of the run at which operation y had not begun
    abbrev pub EndedBefore : ℕ → ℕ → Type 0
    EndedBefore x y = (i : ℕ) × (e : Entry R) × (slice_get (log_at i) x ≡ Some e) × (is_some e.end ≡ true) × (length (log_at i) ≤ y)

    -- one order of reads and writes: operations are named by their places in the log
    pub record OneOrder : Type 0 where
      pub order : List ℕ
      -- no operation stands in it twice
      pub distinct : Distinct order
      -- every operation that ended stands in it
      pub ended_ones : (x : ℕ) (e : Entry R) → slice_get whole_log x ≡ Some e → is_some e.end ≡ true → In x order
      -- and besides these only unfinished writes
      pub no_others : (x : ℕ) → In x order → (e : Entry R) × (slice_get whole_log x ≡ Some e) × ((is_some e.end ≡ true) ⊎ (e.kind ≡ Write))
      -- what ended before another began stands ahead of it
      pub in_time : (x y : ℕ) → In x order → In y order → EndedBefore x y → Ahead x y order
      -- each read gave what a single register would give in this order
      pub as_one : AsOneRegister u.first (picked whole_log order)

    -- a station that entered 2D ticks ago or more, and is present and not crashed, has joined
    abbrev pub JoinsInTime : Type 0
    JoinsInTime =
        (i j p : ℕ) → slice_get xs i ≡ Some (Enter p) → refusal u (Enter p) (state_at u k xs i) ≡ None → i < j
        → (state_at u k xs i).clock + 2 * u.choice.d ≤ (state_at u k xs j).clock
        → active ((state_at u k xs j).stations p) ≡ true → ((state_at u k xs j).stations p).joined ≡ true

    -- an operation that began 4D ticks ago or more, whose station is present and not crashed, has ended
    abbrev pub EndsInTime : Type 0
    EndsInTime =
        (i j p : ℕ) (x : Step R) → slice_get xs i ≡ Some x → begins_at x p ≡ true → refusal u x (state_at u k xs i) ≡ None → i < j
        → (state_at u k xs i).clock + 4 * u.choice.d ≤ (state_at u k xs j).clock
        → active ((state_at u k xs j).stations p) ≡ true
        → (e : Entry R) × (slice_get (log_at j) (length (log_at i)) ≡ Some e) × (is_some e.end ≡ true)

    -- the log's places are the operations: the accepted read or write of step i stands at the place where the log then ended
    abbrev pub LogTells : Type 0
    LogTells =
        (i p : ℕ) (x : Step R) → slice_get xs i ≡ Some x → begins_at x p ≡ true → refusal u x (state_at u k xs i) ≡ None
        → (j : ℕ) → i < j → j ≤ length xs → (e : Entry R) × (slice_get (log_at j) (length (log_at i)) ≡ Some e)
        × (e.station ≡ p) × (e.kind ≡ kind_ordered x) × (e.begin ≡ (state_at u k xs i).clock)

    -- and there are no other places
    abbrev pub LogOnlyTells : Type 0
    LogOnlyTells =
        (y : ℕ) (e : Entry R) → slice_get whole_log y ≡ Some e
        → (i : ℕ) × (x : Step R) × (slice_get xs i ≡ Some x) × (begins_at x e.station ≡ true) × (refusal u x (state_at u k xs i) ≡ None) × (y ≡ length (log_at i))

    -- what is promised of a run
    abbrev pub Promised : Type 0
    Promised = OneOrder × JoinsInTime × EndsInTime × LogTells × LogOnlyTells

    -- an operation's entry shows what its step orders
    abbrev pub LogShows : Type 0
    LogShows =
        (i p : ℕ) (x : Step R) → slice_get xs i ≡ Some x → begins_at x p ≡ true → refusal u x (state_at u k xs i) ≡ None
        → (j : ℕ) (e : Entry R) → i < j → slice_get (log_at j) (length (log_at i)) ≡ Some e → ShowsOrdered x e.value

    -- what an operation shows once it has ended, it shows from then on
    abbrev pub LogStays : Type 0
    LogStays = (i j y : ℕ) (e : Entry R) → i ≤ j → slice_get (log_at i) y ≡ Some e → is_some e.end ≡ true → slice_get (log_at j) y ≡ Some e

    -- what a log shows, it was ordered to show, and shows for good once the operation has ended
    abbrev pub LogStands : Type 0
    LogStands = LogShows × LogStays

-- the promises, of every run over one kind of record
abbrev pub PromisesKept : Type 0 → Type 0
PromisesKept R = (u : Setup R) (k : ℕ) (xs : List (Step R)) → AdmittedStart u k → Promised u k xs

-- the logs of every run over one kind of record stand
abbrev pub LogsStand : Type 0 → Type 0
LogsStand R = (u : Setup R) (k : ℕ) (xs : List (Step R)) → AdmittedStart u k → LogStands u k xs
