-- Tick: its tests, and the state after it.
use Rattle.std.proofs.Common.{◌≡◌, ℕ, ◌+◌, ◌<◌, Bool, not, ltb, [], ◌∷◌, None, Option, Result, Ok, Err, ap, sym, ◌∙◌}
use Rattle.std.proofs.lemmas.Bool.{ltb-true}
use mathlib.Core.Path.{fun_ext}
use Rattle.carrier.specs.Counts.{earliest}
use Rattle.carrier.specs.Waits.{Waits}
use Rattle.carrier.specs.declared.message.Held.{Held}
use Rattle.settings.specs.declared.choice.Choice.{Choice}
use Rattle.stations.specs.Members.{how_many}
use Rattle.stations.specs.declared.Stations.{Stations}
use Rattle.network.specs.declared.content.Content.{Content}
use Rattle.network.specs.declared.fault.StepFault.{StepFault}
use Rattle.network.specs.declared.fault.StepFault.TheVariants.{CopyDue, ClockEnd}
use Rattle.network.specs.declared.step.Step.TheVariants.{Tick}
use Rattle.network.specs.Books.{Book, end_tick}
use Rattle.network.specs.Changes.{ticked}
use Rattle.network.specs.Knowing.{Set, most_stations}
use Rattle.network.specs.Refusals.{Test, unless, first_of, due, last_tick, tests, refusal}
use Rattle.network.specs.States.{Setup, State, present_set}
use Rattle.engine.specs.Copies.{shown_waits}
use Rattle.engine.specs.Memories.{passed}
use Rattle.engine.proofs.Copies.{earliest_shown}
use Rattle.engine.proofs.Faults.{fails_first, passes_on, last_decides, held}

module _ {R : Type 0} (u : Setup R) (s : State R) (b : Bool) (asked : b ≡ due u.choice.d s.clock (earliest s.waits)) where
  -- whether a copy is due, and whether the clock has an end
  abbrev due_test : Test
  due_test = unless (not b) CopyDue

  abbrev end_test : Test
  end_test = unless (ltb s.clock last_tick) ClockEnd

  told : first_of (due_test ∷ end_test ∷ []) ≡ refusal u Tick s
  unfolding refusal tests
  told = ap (λ (b : Bool). first_of (unless (not b) CopyDue ∷ end_test ∷ [])) asked

  pub due_told : (f : StepFault) → Err f ≡ passed due_test → Err f ≡ passed (refusal u Tick s)
  due_told f h = fails_first due_test (end_test ∷ []) f h ∙ ap passed told

  pub end_told : (r : Result (Unit {0}) StepFault) → Ok tt ≡ passed due_test → r ≡ passed end_test → r ≡ passed (refusal u Tick s)
  end_told r h g = g ∙ ap passed (sym (last_decides end_test) ∙ sym (passes_on due_test (end_test ∷ []) h) ∙ told)

-- whether a copy is due, asked of what is kept
pub due_kept : {R : Type 0} (w : Waits (Held (Content R Stations))) (c d : Choice) (clock : ℕ) (o : Option ℕ) (b : Bool)
    → b ≡ due c.d clock o → c ≡ d → o ≡ earliest w → b ≡ due d.d clock (earliest (shown_waits w))
due_kept w c d clock o b asked same oldest =
    asked ∙ ap (λ (c : Choice). due c.d clock o) same ∙ ap (λ (o : Option ℕ). due d.d clock o) (oldest ∙ sym (earliest_shown w))

-- a state with another book, one tick on
abbrev pub on_with : {R : Type 0} → Book → State R → State R
on_with b s = record { stations = s.stations; waits = s.waits; next = s.next; log = s.log; book = b; clock = s.clock + 1 }

module _ {R : Type 0} (u : Setup R) (s : State R) where
  -- a tick that is not refused does not end the clock
  pub clock_goes_on : refusal u Tick s ≡ None → s.clock < last_tick
  unfolding refusal tests
  clock_goes_on e = ltb-true _ _ (held _ _ _ (held _ _ _ e).1).0

  pub ticked_on : (b : Book) (d n : ℕ) (f : Set) → b ≡ end_tick d n s.book → d ≡ u.choice.d → n ≡ how_many f most_stations → ((p : ℕ) → f p ≡ present_set s p)
      → on_with b s ≡ ticked u s
  ticked_on b d n f ended delay count present =
      ap (λ (b : Book). on_with b s)
      (ended ∙ ap (λ (d : ℕ). end_tick d n s.book) delay
      ∙ ap (λ (n : ℕ). end_tick u.choice.d n s.book) (count ∙ ap (λ (f : Set). how_many f most_stations) (fun_ext present)))
