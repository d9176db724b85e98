-- A schedule record's frame: a two-byte length of what follows, a two-byte kind, and a body.
use Rattle.std.specs.Prelude.{ℕ, ◌+◌, ◌-◌, cond, List, ◌++◌, length, take, drop, Ok, Err, Result, nat_lt}
use Rattle.fields.specs.Numbers.{two, le2}
use Rattle.schedule.specs.declared.fault.Flaw.{Flaw}
use Rattle.schedule.specs.declared.fault.Flaw.TheVariants.{Short, Length}
use Rattle.schedule.specs.declared.frame.Frame.{Frame}

-- the number of a kind, and a body
pub record Parts : Type 0 where
  pub kind : ℕ
  pub body : List ℕ

-- the frame at the front of bytes, or what is wrong with it
abbrev pub frame_of : List ℕ → Result Parts Flaw
frame_of bs =
    cond (nat_lt (length bs) 2) (Err Short)
    (cond (nat_lt (length bs) (2 + two bs 0)) (Err Short)
    (cond (nat_lt (two bs 0) 2) (Err Length)
    (Ok (record { kind = two bs 2; body = take (two bs 0 - 2) (drop 4 bs) }))))

-- the bytes of a frame
abbrev pub framed : ℕ → List ℕ → List ℕ
framed kind body = le2 (2 + length body) ++ (le2 kind ++ body)

-- how many bytes a frame takes
abbrev pub frame_size : List ℕ → ℕ
frame_size body = 4 + length body

abbrev pub parts : Frame → Parts
parts f = record { kind = f.kind; body = f.body.now }

abbrev pub parts_of : Result Frame Flaw → Result Parts Flaw
parts_of (Ok f) = Ok (parts f)
parts_of (Err e) = Err e
