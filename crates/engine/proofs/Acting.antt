-- The tests of the station that a step is about, asked of the sets that are kept.
use Rattle.std.proofs.Common.{◌≡◌, ℕ, Bool, not, ◌&&◌, ltb, [], ◌∷◌, Ok, Err, ap, ◌∙◌}
use Rattle.network.specs.declared.fault.StepFault.{StepFault}
use Rattle.network.specs.declared.fault.StepFault.TheVariants.{NoStation, NotPresent, Crashed}
use Rattle.network.specs.Keeping.{is_present, active}
use Rattle.network.specs.Refusals.{Test, unless, first_of, of_actor}
use Rattle.network.specs.States.{Setup, State}
use Rattle.engine.specs.Memories.{passed, passed_with}
use Rattle.engine.proofs.Faults.{fails_first, fault_with, second_told, third_told, three_passed, test_held}

module _ {R : Type 0} (u : Setup R) (s : State R) (p : ℕ) where
  abbrev in_table : Test
  in_table = unless (ltb p u.table) NoStation

  abbrev present : Test
  present = unless (is_present (s.stations p).life) NotPresent

  abbrev well : Test
  well = unless (not (s.stations p).crashed) Crashed

  pub no_station : (e : StepFault) → Err e ≡ passed in_table → Err e ≡ passed_with p (first_of (of_actor u p s []))
  no_station e h = fault_with p _ e (fails_first in_table (present ∷ well ∷ []) e h)

  module _ (here : Bool) (is_here : here ≡ is_present (s.stations p).life) (held : Ok tt ≡ passed in_table) where
    pub not_present : (e : StepFault) → Err e ≡ passed (unless here NotPresent) → Err e ≡ passed_with p (first_of (of_actor u p s []))
    not_present e h = fault_with p _ e (second_told in_table present well e held (h ∙ ap (λ (b : Bool). passed (unless b NotPresent)) is_here))

    module _ (acts : Bool) (is_active : acts ≡ active (s.stations p)) (found : Ok tt ≡ passed (unless here NotPresent)) where
      found_here : Ok tt ≡ passed present
      found_here = found ∙ ap (λ (b : Bool). passed (unless b NotPresent)) is_here

      -- of one who is present, to be active is not to be crashed
      not_crashed : acts ≡ not (s.stations p).crashed
      not_crashed = is_active ∙ ap (λ (b : Bool). b && not (s.stations p).crashed) (test_held _ _ found_here)

      pub has_crashed : (e : StepFault) → Err e ≡ passed (unless acts Crashed) → Err e ≡ passed_with p (first_of (of_actor u p s []))
      has_crashed e h = fault_with p _ e (third_told in_table present well e held found_here (h ∙ ap (λ (b : Bool). passed (unless b Crashed)) not_crashed))

      pub may_act : Ok tt ≡ passed (unless acts Crashed) → Ok p ≡ passed_with p (first_of (of_actor u p s []))
      may_act h = three_passed p in_table present well held found_here (h ∙ ap (λ (b : Bool). passed (unless b Crashed)) not_crashed)
