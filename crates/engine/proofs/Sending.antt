-- Sending: the messages of a step as the rules have them, their room, and what waits once they are posted.
use Rattle.std.proofs.Common.{◌≡◌, ℕ, ◌+◌, ◌≤◌, Bool, true, false, cond, eqb, leb, ◌&&◌, List, [], ◌∷◌, length, map, Some, None, refl, ap, ap₂, sym, ◌∙◌, arith}
use Rattle.std.specs.Prelude.{option_map}
use Rattle.std.proofs.lemmas.Bool.{leb-true}
use Rattle.std.proofs.lemmas.List.{length-map}
use mathlib.Core.Path.{fun_ext}
use Rattle.carrier.specs.Laws.{Room}
use Rattle.carrier.specs.Waits.{Waits, sent_to, posted}
use Rattle.carrier.specs.declared.fault.CarrierFault.TheVariants.{NumbersUsedUp, NoRoom}
use Rattle.carrier.specs.declared.message.Held.{Held}
use Rattle.carrier.specs.declared.message.Post.{Post}
use Rattle.stations.specs.Members.{member}
use Rattle.stations.specs.declared.Stations.{Stations}
use Rattle.network.specs.declared.content.Content.{Content}
use Rattle.network.specs.declared.fault.StepFault.TheVariants.{Carrier}
use Rattle.network.specs.Posting.{with_mail}
use Rattle.network.specs.Refusals.{Test, unless, first_of, mail_test, last_number}
use Rattle.engine.specs.Copies.{shown_copy, shown_post, shown_waits, shown_room}
use Rattle.engine.proofs.Copies.{room_shown}
use Rattle.engine.proofs.Faults.{held}

module _ {R : Type 0} (room : Room (Content R Stations)) (w : Waits (Held (Content R Stations))) (n : ℕ) where
  -- 41 ahead of 42, by whether there are numbers and room
  abbrev pub both_tests : Bool → Bool → Test
  both_tests numbers fits = first_of (unless numbers (Carrier NumbersUsedUp) ∷ unless fits (Carrier NoRoom) ∷ [])

  -- the test of messages, asked of what is kept
  pub test_kept : (p : Post (Content R Stations)) (ps : List (Post (Content R Stations))) (b r : Bool) → b ≡ leb (n + length ps) last_number → r ≡ room w (p ∷ ps)
      → both_tests b r ≡ mail_test (shown_room room) (shown_waits w) n (map shown_post (p ∷ ps))
  unfolding mail_test
  test_kept p ps b r numbers fits =
      ap₂ both_tests (numbers ∙ ap (λ (k : ℕ). leb (n + k) last_number) (sym (length-map ps shown_post))) (fits ∙ sym (room_shown room w (p ∷ ps)))

  -- messages that pass it fit
  pub fit_kept : (ps : List (Post (Content R Stations))) → room w [] ≡ true → mail_test (shown_room room) (shown_waits w) n (map shown_post ps) ≡ None → room w ps ≡ true
  fit_kept [] idle h = idle
  fit_kept (p ∷ ps) idle h = (held _ _ _ (held _ _ _ (test_kept p ps _ _ refl refl ∙ h)).1).0

  -- and leave the next number at most one past the largest
  pub next_on : (ps : List (Post (Content R Stations))) → mail_test (shown_room room) (shown_waits w) n (map shown_post ps) ≡ None → n ≤ last_number + 1
      → n + length (map shown_post ps) ≤ last_number + 1
  next_on [] h l = omega arith
  next_on (p ∷ ps) h l = omega (arith, leb-true (n + length ps) last_number (held _ _ _ (test_kept p ps _ _ refl refl ∙ h)).0, length-map ps (shown_post {R = R}))

-- a copy more for each receiver, as it is shown
pub posted_shown : {R : Type 0} (p : Post (Content R Stations)) (w : Waits (Held (Content R Stations))) → shown_waits (posted p w) ≡ with_mail (shown_post p) (shown_waits w)
unfolding sent_to with_mail
posted_shown p w = fun_ext (λ n. fun_ext (λ q. by (eqb n p.number && member p.to q) (w n q))) where
  by : (b : Bool) (o : _) → option_map shown_copy (cond b (Some p.held) o) ≡ cond b (Some (shown_copy p.held)) (option_map shown_copy o)
  by true o = refl
  by false o = refl
