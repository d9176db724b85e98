use Rattle.std.proofs.Common.{◌*◌, ◌≤◌, take, ap, subst, arith}
use Rattle.network.proofs.Numbers.{new_run_below}
use Rattle.network.specs.States.{present_total, crashed_total}
use Rattle.runs.proofs.Bounds.{sound_size}
use Rattle.runs.proofs.Clocks.{clock_on}
use Rattle.runs.proofs.Positions.{Run, state_is}
use Rattle.runs.proofs.basics_hold.Goals as goal

pub returns : goal.returns
returns g c = record {
  clock = λ u k xs a i j l.
      (let z : Run _ = record { setup = u; founders = k; steps = xs; admitted = a } in
      omega (arith, ap (λ s. s.clock) (state_is z i), ap (λ s. s.clock) (state_is z j), clock_on z i j l));
  numbers = λ u k xs a i n q l. new_run_below u k (take i xs) n q l;
  enough = λ u k xs a i.
      (let z : Run _ = record { setup = u; founders = k; steps = xs; admitted = a } in
      let h = sound_size z i in (
        subst (λ s. u.choice.nmin ≤ present_total s) (state_is z i) h.enough,
        subst (λ s. 100 * crashed_total s ≤ u.choice.delta * present_total s) (state_is z i) h.few_crashed,
      ));
}
