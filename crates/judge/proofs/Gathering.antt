-- What a file says, item by item.
use Rattle.std.proofs.Common.{◌≡◌, ℕ, ◌+◌, ◌≤◌, Ok, Err, refl, arith}
use Rattle.refusals.specs.declared.Refusal.{Refusal}
use Rattle.schedule.specs.Items.{Item, PlacedItem, settings, start, tick, enter, leave, crash, read, write, deliver}
use Rattle.schedule.specs.Reading.{Reading, ahead}
use Rattle.schedule.specs.Readers.{verdict}
use Rattle.judge.specs.declared.contents.Contents.{Contents}
use Rattle.judge.specs.Contents.{noted, steps}
use Rattle.judge.specs.Judging.{said_of}

-- an item ahead of others is noted first
pub said_ahead : (c : Contents) (x : PlacedItem) (r : Reading) → said_of c (ahead x r) ≡ said_of (noted c x.item) r
said_ahead c x (Ok xs) = refl
said_ahead c x (Err e) = refl

-- a fault is told whatever was noted
pub said_fault : (c : Contents) (r : Reading) (f : Refusal) → verdict r ≡ Err f → said_of c r ≡ Err f
said_fault c (Ok xs) f e = let z : ◌≡◌ {A = ℕ} 0 1 = cc in let no : ⊥ = omega arith in absurd no
said_fault c (Err g) f e = cc

-- an item is one step more at most
pub steps_noted : (c : Contents) (i : Item) → steps (noted c i).counts ≤ steps c.counts + 1
steps_noted c (settings s) = omega arith
steps_noted c (start l t k r) = omega arith
steps_noted c tick = omega arith
steps_noted c (enter p) = omega arith
steps_noted c (leave p) = omega arith
steps_noted c (crash p) = omega arith
steps_noted c (read p) = omega arith
steps_noted c (write p r) = omega arith
steps_noted c (deliver m p) = omega arith
