-- Leave: its tests, and that it ends no operation.
use Rattle.std.proofs.Common.{◌≡◌, ℕ, ◌<◌, Bool, false, cond, leb, List, [], ◌∷◌, slice_get, Some, None, Ok, Err, refl, ap, sym, ◌∙◌}
use Rattle.std.proofs.lemmas.Bool.{ltb-true}
use Rattle.stations.specs.Members.{put, only, how_many}
use Rattle.stations.proofs.Counting.{put_here}
use Rattle.network.specs.declared.fault.StepFault.{StepFault}
use Rattle.network.specs.declared.fault.StepFault.TheVariants.{TooFewPresent, TooManyCrashed}
use Rattle.network.specs.declared.station.Life.TheVariants.{Left}
use Rattle.network.specs.declared.step.Step.TheVariants.{Leave}
use Rattle.network.specs.Books.{crashed_share}
use Rattle.network.specs.Changes.{changed, departed}
use Rattle.network.specs.Keeping.{is_present, active, with_life}
use Rattle.network.specs.Knowing.{Set, most_stations}
use Rattle.network.specs.Refusals.{Test, unless, first_of, of_actor, churn_test, sending_test, tests, refusal}
use Rattle.network.specs.States.{Setup, State, present_total, crashed_total}
use Rattle.network.specs.Steps.{next, has_ended, ended_at}
use Rattle.engine.specs.Memories.{passed, passed_with}
use Rattle.engine.proofs.Faults.{fails_first, fault_without, passed_without, passes_on, last_decides, three_first, is_none, held}
use Rattle.engine.proofs.Outcomes.{ended_same}
use Rattle.engine.proofs.Sent.{agrees_put}
use Rattle.engine.proofs.Stations.{crashed_count, present_count}

-- behind one test, three can be made ahead of the others
next_three : (t a b c : Test) (ts : List Test) → first_of (t ∷ a ∷ b ∷ c ∷ ts) ≡ first_of (t ∷ first_of (a ∷ b ∷ c ∷ []) ∷ ts)
unfolding first_of
next_three None a b c ts = three_first a b c ts
next_three (Some f) a b c ts = refl

module _ {R : Type 0} (u : Setup R) (s : State R) (p : ℕ) where
  -- the tests of the station, of those who would stay, and that of its message
  abbrev acting : Test
  acting = first_of (of_actor u p s [])

  abbrev pub enough : Test
  enough = unless (leb u.choice.nmin (present_total (departed p s))) TooFewPresent

  abbrev pub share : Test
  share = unless (crashed_share u.choice.delta (crashed_total (departed p s)) (present_total (departed p s))) TooManyCrashed

  abbrev pub departing : Test
  departing = first_of (churn_test u s ∷ enough ∷ share ∷ [])

  abbrev sending : Test
  sending = sending_test u (Leave p) s

  told : first_of (acting ∷ departing ∷ sending ∷ []) ≡ refusal u (Leave p) s
  unfolding refusal tests changed
  told = sym (three_first _ _ _ (churn_test u s ∷ enough ∷ share ∷ sending ∷ []) ∙ next_three acting (churn_test u s) enough share (sending ∷ []))

  pub not_acting : (e : StepFault) → Err e ≡ passed_with p acting → Err e ≡ passed (refusal u (Leave p) s)
  not_acting e h = fails_first acting (departing ∷ sending ∷ []) e (fault_without p acting e h) ∙ ap passed told

  module _ (q : ℕ) (acts : Ok q ≡ passed_with p acting) where
    pub same_station : q ≡ p
    same_station = (passed_without p q acting acts).1

    pub acts_within : p < u.table
    acts_within = ltb-true _ _ (held _ _ _ (is_none _ (passed_without p q acting acts).0)).0

    goes_on : first_of (departing ∷ sending ∷ []) ≡ refusal u (Leave p) s
    goes_on = sym (passes_on acting (departing ∷ sending ∷ []) (passed_without p q acting acts).0) ∙ told

    pub not_departing : (e : StepFault) → Err e ≡ passed departing → Err e ≡ passed (refusal u (Leave p) s)
    not_departing e h = fails_first departing (sending ∷ []) e h ∙ ap passed goes_on

    module _ (departs : Ok tt ≡ passed departing) where
      behind : sending ≡ refusal u (Leave p) s
      behind = sym (last_decides sending) ∙ sym (passes_on departing (sending ∷ []) departs) ∙ goes_on

      pub no_room : (e : StepFault) → Err e ≡ passed sending → Err e ≡ passed (refusal u (Leave p) s)
      no_room e h = h ∙ ap passed behind

      pub may_leave : Ok tt ≡ passed sending → refusal u (Leave p) s ≡ None
      may_leave h = sym behind ∙ is_none _ h

  -- who leaves ends no operation
  pub leave_ends_none : None ≡ ended_at p s (next u (Leave p) s)
  unfolding next changed
  leave_ends_none =
      sym (ap (λ (b : Bool). cond b (slice_get (next u (Leave p) s).log.entries ((next u (Leave p) s).log.latest p)) None)
      (ap (λ x. has_ended (s.stations p).operation x.operation) (put_here s.stations p (with_life Left (s.stations p))) ∙ ended_same (s.stations p).operation))

-- those who stay once p has left, and who of them is crashed, counted by the sets that are kept
module _ {R : Type 0} (s : State R) (p : ℕ) (f g : Set) (here : (q : ℕ) → f q ≡ is_present (s.stations q).life) (acts : (q : ℕ) → g q ≡ active (s.stations q)) where
  gone : (q : ℕ) → put f p false q ≡ is_present ((departed p s).stations q).life
  gone = agrees_put (λ x. is_present x.life) s.stations f (put f p false) p (with_life Left (s.stations p)) here refl

  quiet : (q : ℕ) → put g p false q ≡ active ((departed p s).stations q)
  quiet = agrees_put active s.stations g (put g p false) p (with_life Left (s.stations p)) acts refl

  pub stay_kept : (n : ℕ) → n ≡ how_many (put f p false) most_stations → n ≡ present_total (departed p s)
  stay_kept n e = e ∙ present_count (departed p s).stations (put f p false) (put g p false) gone quiet

  pub crashed_kept : (n : ℕ) → n ≡ how_many (only (put f p false) (put g p false)) most_stations → n ≡ crashed_total (departed p s)
  crashed_kept n e = e ∙ crashed_count (departed p s).stations (put f p false) (put g p false) gone quiet
