-- Crash: its tests.
use Rattle.std.proofs.Common.{◌≡◌, ℕ, ◌<◌, Bool, false, [], ◌∷◌, None, Ok, Err, ap, ap₂, sym, ◌∙◌}
use Rattle.std.proofs.lemmas.Bool.{ltb-true}
use mathlib.Core.Path.{fun_ext}
use Rattle.stations.specs.Members.{put, only, how_many}
use Rattle.network.specs.declared.fault.StepFault.{StepFault}
use Rattle.network.specs.declared.fault.StepFault.TheVariants.{TooManyCrashed}
use Rattle.network.specs.declared.step.Step.TheVariants.{Crash}
use Rattle.network.specs.Books.{crashed_share}
use Rattle.network.specs.Changes.{changed, crashed}
use Rattle.network.specs.Keeping.{is_present, active, with_crashed}
use Rattle.network.specs.Knowing.{Set, most_stations}
use Rattle.network.specs.Refusals.{Test, unless, first_of, of_actor, crash_test, tests, refusal}
use Rattle.network.specs.States.{Setup, State, present_total, crashed_total}
use Rattle.engine.specs.Memories.{passed, passed_with}
use Rattle.engine.proofs.Faults.{fails_first, fault_with, fault_without, passed_without, passes_on, last_decides, three_first, is_none, held}
use Rattle.engine.proofs.Stations.{put_under, put_same, crashed_present, crashed_active, crashed_count, present_count}

module _ {R : Type 0} (u : Setup R) (s : State R) (p : ℕ) where
  -- the tests of the station, and the share of crashed ones
  abbrev acting : Test
  acting = first_of (of_actor u p s [])

  abbrev share : Test
  share = crash_test u (Crash p) s

  told : first_of (acting ∷ share ∷ []) ≡ refusal u (Crash p) s
  unfolding refusal tests
  told = sym (three_first _ _ _ (share ∷ []))

  pub not_acting : (e : StepFault) → Err e ≡ passed_with p acting → Err e ≡ passed_with p (refusal u (Crash p) s)
  not_acting e h = fault_with p _ e (fails_first acting (share ∷ []) e (fault_without p acting e h) ∙ ap passed told)

  module _ (q : ℕ) (acts : Ok q ≡ passed_with p acting) where
    pub same_station : q ≡ p
    same_station = (passed_without p q acting acts).1

    behind : share ≡ refusal u (Crash p) s
    behind = sym (last_decides share) ∙ sym (passes_on acting (share ∷ []) (passed_without p q acting acts).0) ∙ told

    module _ (b : Bool) (asked : b ≡ crashed_share u.choice.delta (crashed_total (crashed p s)) (present_total (crashed p s))) where
      share_asked : unless b TooManyCrashed ≡ share
      unfolding changed
      share_asked = ap (λ (b : Bool). unless b TooManyCrashed) asked

      pub too_many : (e : StepFault) → Err e ≡ passed (unless b TooManyCrashed) → Err e ≡ passed_with p (refusal u (Crash p) s)
      too_many e h = fault_with p _ e (h ∙ ap passed (share_asked ∙ behind))

      pub may_crash : Ok tt ≡ passed (unless b TooManyCrashed) → Ok q ≡ passed_with p (refusal u (Crash p) s)
      may_crash h = ap Ok same_station ∙ sym (ap (passed_with p) (sym behind ∙ sym share_asked ∙ is_none _ h))

-- who is not refused is in the table, and keeps its operation
module _ {R : Type 0} (u : Setup R) (s : State R) (p : ℕ) where
  pub crash_within : refusal u (Crash p) s ≡ None → p < u.table
  unfolding refusal tests
  crash_within e = ltb-true _ _ (held _ _ _ e).0

  pub crash_keeps : ((changed u (Crash p) s).stations p).operation ≡ (s.stations p).operation
  unfolding changed
  crash_keeps = put_under (λ x. x.operation) s.stations p (with_crashed (s.stations p)) p ∙ put_same (λ q. (s.stations q).operation) p p

-- the share once p has crashed, asked of the sets that are kept
pub share_kept : {R : Type 0} (s : State R) (p : ℕ) (f g : Set) → ((q : ℕ) → f q ≡ is_present (s.stations q).life) → ((q : ℕ) → g q ≡ active (s.stations q))
    → (delta c n : ℕ) → c ≡ how_many (only f (put g p false)) most_stations → n ≡ how_many f most_stations
    → crashed_share delta c n ≡ crashed_share delta (crashed_total (crashed p s)) (present_total (crashed p s))
share_kept s p f g here acts delta c n few all =
    ap₂ (crashed_share delta) (few ∙ crashed_count (crashed p s).stations f (put g p false) still (λ q. less q)) (all ∙ present_count (crashed p s).stations f (put g p false) still (λ q. less q)) where
      still : (q : ℕ) → f q ≡ is_present ((crashed p s).stations q).life
      still q = here q ∙ sym (crashed_present s.stations p q)

      less : (q : ℕ) → put g p false q ≡ active ((crashed p s).stations q)
      less q = ap (λ (g : Set). put g p false q) (fun_ext acts) ∙ sym (crashed_active s.stations p q)
