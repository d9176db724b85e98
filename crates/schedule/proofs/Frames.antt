-- The one way on which a frame is read.
use Rattle.std.proofs.Common.{◌≡◌, ℕ, ◌+◌, ◌-◌, ◌≤◌, List, length, take, drop, Ok, Result, arith}
use Rattle.fields.specs.Numbers.{two}
use Rattle.schedule.specs.declared.fault.Flaw.{Flaw}
use Rattle.schedule.specs.Framing.{Parts, frame_of}

pub frame_ok : (bs : List ℕ) (n k : ℕ) (body : List ℕ) → 4 ≤ length bs → n ≡ two bs 0 → k ≡ two bs 2 → 2 ≤ n
    → 2 + n ≤ length bs → body ≡ take (n - 2) (drop 4 bs)
    → ◌≡◌ {A = Result Parts Flaw} (Ok (record { kind = k; body = body })) (frame_of bs)
frame_ok bs n k body h en ek low fits eb = grind arith
