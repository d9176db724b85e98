-- What a reader meets at a place of a file.
use Rattle.std.proofs.Common.{◌≡◌, ℕ, ◌+◌, ◌-◌, ◌<◌, ◌≤◌, true, false, cond, eqb, List, length, take, drop, Ok, Err, Result, refl, ap, ◌∙◌, arith, length-drop, length-take}
use Rattle.fields.specs.Numbers.{two}
use Rattle.schedule.specs.declared.fault.Flaw.{Flaw}
use Rattle.schedule.specs.declared.stage.Stage.{Stage}
use Rattle.schedule.specs.Items.{Item}
use Rattle.schedule.specs.Framing.{Parts, frame_of, frame_size}
use Rattle.schedule.specs.Rules.{decided}
use Rattle.schedule.specs.Reading.{Measured, measured, in_frame, record_of, turn_end, turn_record, turn}

pub turn_none : (s : Stage) (at : ℕ) (bs : List ℕ) → length bs ≡ 0 → turn s at bs ≡ turn_end s at
turn_none s at bs h = let e : eqb (length bs) 0 ≡ true = grind arith in ap (λ b. cond b (turn_end s at) (turn_record s at (record_of s bs))) e

pub turn_some : (s : Stage) (at : ℕ) (bs : List ℕ) → 0 < length bs → turn s at bs ≡ turn_record s at (record_of s bs)
turn_some s at bs h = let e : eqb (length bs) 0 ≡ false = grind arith in ap (λ b. cond b (turn_end s at) (turn_record s at (record_of s bs))) e

pub turn_past_end : (s : Stage) (at : ℕ) (file : List ℕ) → length file ≤ at → turn s at (drop at file) ≡ turn_end s at
turn_past_end s at file h = turn_none s at (drop at file) (simp length-drop (omega arith))

pub turn_here : (s : Stage) (at : ℕ) (file : List ℕ) → at < length file
    → turn s at (drop at file) ≡ turn_record s at (record_of s (drop at file))
turn_here s at file h = turn_some s at (drop at file) (simp length-drop (omega arith))

-- a frame's length says how much of the bytes is its body
pub record FramedAt (bs : List ℕ) (p : Parts) : Type 0 where
  pub low : 2 ≤ two bs 0
  pub fits : 2 + two bs 0 ≤ length bs
  pub kind_is : p.kind ≡ two bs 2
  pub body_is : p.body ≡ take (two bs 0 - 2) (drop 4 bs)

pub framed_at : (bs : List ℕ) (p : Parts) → frame_of bs ≡ Ok p → FramedAt bs p
framed_at bs p e = record { low = grind arith; fits = grind arith; kind_is = grind arith; body_is = grind arith }

pub frame_within : (bs : List ℕ) (p : Parts) → frame_of bs ≡ Ok p → frame_size p.body ≡ 2 + two bs 0
frame_within bs p e =
    let o = framed_at bs p e in
    let b : length p.body ≡ two bs 0 - 2 = ap length o.body_is ∙ simp (length-take, length-drop) (omega (arith, o.low, o.fits)) in
    omega (arith, o.low)

measured_size : (n : ℕ) (x : Result Item Flaw) (m : Measured) → measured n x ≡ Ok m → m.size ≡ n
measured_size n (Ok i) m e = cc
measured_size n (Err f) m e = let z : ◌≡◌ {A = ℕ} 0 1 = cc in let no : ⊥ = omega arith in absurd no

in_frame_size : (s : Stage) (bs : List ℕ) (f : Result Parts Flaw) (m : Measured) → frame_of bs ≡ f → in_frame s f ≡ Ok m
    → (4 ≤ m.size) × (m.size ≤ length bs)
in_frame_size s bs (Err e) m h g = let z : ◌≡◌ {A = ℕ} 0 1 = cc in let no : ⊥ = omega arith in absurd no
in_frame_size s bs (Ok p) m h g =
    let n = measured_size (frame_size p.body) (decided s p.kind p.body) m g in
    let w = frame_within bs p h in
    let o = framed_at bs p h in
    (omega (arith, o.low), omega (arith, o.fits))

-- a record takes some of the bytes, and no more than there are
pub record_size : (s : Stage) (bs : List ℕ) (m : Measured) → record_of s bs ≡ Ok m → (4 ≤ m.size) × (m.size ≤ length bs)
record_size s bs m e = in_frame_size s bs (frame_of bs) m refl e
