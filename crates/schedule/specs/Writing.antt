-- Writing a schedule: the bytes of its items, and where a writer refuses them.
use Rattle.std.specs.Prelude.{◌≡◌, ℕ, ◌+◌, ◌<◌, cond, List, [], ◌∷◌, ◌++◌, map, length, drop, Ok, Err, Result, nat_lt}
use Rattle.std.specs.List.{AllByRecursion}
use Rattle.refusals.specs.declared.Refusal.{Refusal}
use Rattle.settings.specs.declared.fault.SettingsFault.TheVariants.{MemorySize}
use Rattle.settings.specs.Faults as settings_faults
use Rattle.schedule.specs.declared.fault.WriteFault.{WriteFault}
use Rattle.schedule.specs.declared.fault.WriteFault.TheVariants as write_fault
use Rattle.schedule.specs.declared.fault.Flaw.{Flaw}
use Rattle.schedule.specs.declared.stage.Stage.{Stage}
use Rattle.schedule.specs.Faults.{told}
use Rattle.schedule.specs.Items.{Item, PlacedItem, settings, start, tick, enter, leave, crash, read, write, deliver}
use Rattle.schedule.specs.Kinds.{kind_in, body_of, spell}
use Rattle.schedule.specs.Rules.{judged, stage_after}
use Rattle.schedule.specs.Reading.{Reading, most_bytes, read_of}

-- the bytes of items, one after the other
abbrev pub spelled : List Item → List ℕ
spelled [] = []
spelled (i ∷ is) = spell i ++ spelled is

-- a buffer under the most bytes of a file is refused last
abbrev pub into_room : ℕ → List ℕ → Result (List ℕ) Refusal
into_room room bs = cond (nat_lt room most_bytes) (Err (settings_faults.told MemorySize)) (Ok bs)

abbrev pub as_read : ℕ → List ℕ → Reading → Result (List ℕ) Refusal
as_read room bs (Err e) = Err (told e)
as_read room bs (Ok xs) = into_room room bs

-- a writer refuses what the reader would refuse of the bytes, and else gives the bytes
abbrev pub written : ℕ → List Item → Result (List ℕ) Refusal
written room items = as_read room (spelled items) (read_of (spelled items))

-- a buffer with bytes in place of its own at the front
abbrev pub at_front : List ℕ → List ℕ → List ℕ
at_front bs buffer = bs ++ drop (length bs) buffer

-- the buffer after a write: the bytes at its front, or as it was
abbrev pub buffer_after : Result (List ℕ) Refusal → List ℕ → List ℕ
buffer_after (Err e) buffer = buffer
buffer_after (Ok bs) buffer = at_front bs buffer

-- the stage after an item that a reader accepts at a stage, or its flaw
abbrev pub onward : Stage → Result Item Flaw → Result Stage Flaw
onward s (Err e) = Err e
onward s (Ok i) = Ok (stage_after s i)

abbrev pub stage_past_item : Stage → Item → Result Stage Flaw
stage_past_item s i = onward s (judged s (kind_in i) (body_of i))

-- how many bytes were written
abbrev pub how_long : Result (List ℕ) Refusal → Result ℕ Refusal
how_long (Err e) = Err e
how_long (Ok bs) = Ok (length bs)

abbrev pub told_write : WriteFault → Refusal
told_write (write_fault.File e) = told e
told_write (write_fault.Buffer e) = settings_faults.told e

abbrev pub wrote : Result ℕ WriteFault → Result ℕ Refusal
wrote (Ok n) = Ok n
wrote (Err e) = Err (told_write e)

-- items at their places, the first at a given one
abbrev pub placed_from : ℕ → List Item → List PlacedItem
placed_from at [] = []
placed_from at (i ∷ is) = record { at = at; item = i } ∷ placed_from (at + length (spell i)) is

-- a number of two bytes
abbrev pub Short : ℕ → Type 0
Short n = n < 65536

-- the numbers of an item fit their fields
abbrev pub Fitting : Item → Type 0
Fitting (settings c) = Short c.alpha × Short c.delta × Short c.beta × Short c.gamma × Short c.nmin × Short c.d
Fitting (start c t k r) = Short t × Short k
Fitting tick = Unit {0}
Fitting (enter p) = Short p
Fitting (leave p) = Short p
Fitting (crash p) = Short p
Fitting (read p) = Short p
Fitting (write p r) = Short p
Fitting (deliver m p) = (m < 4294967296) × Short p

-- what is written is read again: the same items, each at its place
abbrev pub WrittenIsRead : Type 0
WrittenIsRead =
    (room : ℕ) (items : List Item) → AllByRecursion Fitting items
    → (bs : List ℕ) → written room items ≡ Ok bs → read_of bs ≡ Ok (placed_from 0 items)

abbrev pub items_of : List PlacedItem → List Item
items_of xs = map (λ x. x.item) xs

-- what is read is what a writer gives of the items: a file has one spelling
abbrev pub ReadIsWritten : Type 0
ReadIsWritten =
    (bs : List ℕ) → AllByRecursion (λ b. b < 256) bs
    → (xs : List PlacedItem) → read_of bs ≡ Ok xs → written most_bytes (items_of xs) ≡ Ok bs
