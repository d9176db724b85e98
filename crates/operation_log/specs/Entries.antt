-- What the log's memory shows, and which of its calls are refused.
use Rattle.std.specs.Prelude.{◌≡◌, ℕ, Bool, true, ◌&&◌, List, length, take, drop, Some, None, Option, nat_le, nat_lt, slice_index, slice_get}
use Rattle.network.specs.declared.entry.Entry.{Entry}
use Rattle.operation_log.specs.declared.log.OperationLog.{OperationLog}
use Rattle.network.specs.Limits.{may_rise}
use Rattle.network.specs.Logs.{Log}

-- memory for 1 to 65,535 entries
abbrev pub log_size : ℕ → Bool
log_size n = nat_le 1 n && nat_le n 65535

-- the place of each station's latest entry, as memory has it
abbrev pub latest_of : List ℕ → ℕ → ℕ
latest_of places p = slice_index places p

module _ {R : Type 0} where
  -- an entry whose counts can rise, or none
  abbrev pub counts_may_rise : Option (Entry R) → Bool
  counts_may_rise None = true
  counts_may_rise (Some e) = may_rise e.replies_one && may_rise e.replies_two

  -- p's latest entry
  abbrev pub latest_entry : ℕ → Log R → Option (Entry R)
  latest_entry p l = slice_get l.entries (l.latest p)

  -- a reply more can be counted in p's latest entry
  abbrev pub can_count : ℕ → Log R → Bool
  can_count p l = counts_may_rise (latest_entry p l)

  -- an operation more can be opened, of so many places
  abbrev pub can_open : ℕ → Log R → Bool
  can_open places l = nat_lt (length l.entries) places

  -- the entries that are opened, and the place of each station's latest
  abbrev pub log_of : OperationLog R → Log R
  log_of l = record { entries = take l.len l.entries.now; latest = latest_of l.latest }

  -- how many entries there are in all
  abbrev pub places : OperationLog R → ℕ
  places l = length l.entries.now

  -- the memory that is lent stays lent, and past the entries that are opened it is as it was;
  -- no invariant, since it ties a log to what it was before
  pub record SameMemory (old new : OperationLog R) : Type 0 where
    pub rest : drop new.len new.entries.now ≡ drop new.len old.entries.now
    pub size : places new ≡ places old
    pub named : new.entries.ghost_name ≡ old.entries.ghost_name
