-- What the items of a file say, noted one after the other.
use Rattle.std.specs.Prelude.{ℕ, ◌+◌, List, [], ◌∷◌}
use Rattle.records.specs.declared.class.Class.TheVariants.{Response}
use Rattle.schedule.specs.Items.{Item, PlacedItem, settings, start, tick, enter, leave, crash, read, write, deliver}
use Rattle.judge.specs.declared.contents.Contents.{Contents}
use Rattle.judge.specs.declared.contents.StepCounts.{StepCounts}

-- so many ticks, enters, leaves, crashes, reads, writes and delivers
abbrev pub counts_of : ℕ → ℕ → ℕ → ℕ → ℕ → ℕ → ℕ → StepCounts
counts_of t e l c r w d = record { ticks = t; enters = e; leaves = l; crashes = c; reads = r; writes = w; delivers = d }

-- what is known before any item
abbrev pub nothing : Contents
nothing = record {
  choice = record { alpha = 0; delta = 0; beta = 0; gamma = 0; nmin = 0; d = 0 };
  class = Response;
  table = 0;
  present = 0;
  counts = counts_of 0 0 0 0 0 0 0;
}

-- a step is one more of its sort
abbrev pub counted : StepCounts → Item → StepCounts
counted n (settings c) = n
counted n (start c t k r) = n
counted n tick = counts_of (n.ticks + 1) n.enters n.leaves n.crashes n.reads n.writes n.delivers
counted n (enter p) = counts_of n.ticks (n.enters + 1) n.leaves n.crashes n.reads n.writes n.delivers
counted n (leave p) = counts_of n.ticks n.enters (n.leaves + 1) n.crashes n.reads n.writes n.delivers
counted n (crash p) = counts_of n.ticks n.enters n.leaves (n.crashes + 1) n.reads n.writes n.delivers
counted n (read p) = counts_of n.ticks n.enters n.leaves n.crashes (n.reads + 1) n.writes n.delivers
counted n (write p r) = counts_of n.ticks n.enters n.leaves n.crashes n.reads (n.writes + 1) n.delivers
counted n (deliver m p) = counts_of n.ticks n.enters n.leaves n.crashes n.reads n.writes (n.delivers + 1)

-- the contents with one item more counted
abbrev pub stepped : Contents → Item → Contents
stepped c i = record { choice = c.choice; class = c.class; table = c.table; present = c.present; counts = counted c.counts i }

-- the contents after one item more: settings give the choice, a start the rest but the counts
abbrev pub noted : Contents → Item → Contents
noted c (settings s) = record { choice = s; class = c.class; table = c.table; present = c.present; counts = c.counts }
noted c (start l t k r) = record { choice = c.choice; class = l; table = t; present = k; counts = c.counts }
noted c tick = stepped c tick
noted c (enter p) = stepped c (enter p)
noted c (leave p) = stepped c (leave p)
noted c (crash p) = stepped c (crash p)
noted c (read p) = stepped c (read p)
noted c (write p r) = stepped c (write p r)
noted c (deliver m p) = stepped c (deliver m p)

-- the contents after all these items
abbrev pub gathered : Contents → List PlacedItem → Contents
gathered c [] = c
gathered c (x ∷ xs) = gathered (noted c x.item) xs

-- all steps together
abbrev pub steps : StepCounts → ℕ
steps n = n.ticks + n.enters + n.leaves + n.crashes + n.reads + n.writes + n.delivers
