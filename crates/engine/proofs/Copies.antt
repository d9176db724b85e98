-- What is shown of a copy or a message is all that memory keeps of it.
use Rattle.std.proofs.Common.{◌≡◌, ℕ, ◌^◌, Bool, true, false, cond, eqb, List, [], ◌∷◌, map, Some, None, Option, refl, ap, ap₂}
use Rattle.std.specs.Prelude.{option_map}
use mathlib.Core.Path.{fun_ext}
use Rattle.carrier.specs.Counts.{least, when, earliest}
use Rattle.carrier.specs.Laws.{Room}
use Rattle.carrier.specs.Waits.{Waits, except}
use Rattle.carrier.specs.declared.message.Held.{Held}
use Rattle.carrier.specs.declared.message.Post.{Post}
use Rattle.stations.specs.declared.Stations.{Stations}
use Rattle.stations.proofs.Sets.{set_of_member}
use Rattle.network.specs.declared.content.Content.{Content}
use Rattle.network.specs.declared.content.Content.TheVariants.{Enter, EnterEcho, Joined, JoinedEcho, Leave, LeaveEcho, Query, Response, Update, Ack, UpdateEcho}
use Rattle.network.specs.declared.known.Known.{Known}
use Rattle.network.specs.Shown.{shown_known, shown_content}
use Rattle.engine.specs.Copies.{kept_known, kept_content, shown_copy, kept_copy, shown_post, kept_mail, shown_waits, kept_waits, shown_room}

kept_shown_known : (k : Known Stations) → kept_known (shown_known k) ≡ k
kept_shown_known k = λ i. record { entered = set_of_member k.entered i; joined = set_of_member k.joined i; left = set_of_member k.left i }

module _ {R : Type 0} where
  kept_shown_content : (m : Content R Stations) → kept_content (shown_content m) ≡ m
  kept_shown_content (Enter p) = refl
  kept_shown_content (EnterEcho k v f p) = ap (λ l. EnterEcho l v f p) (kept_shown_known k)
  kept_shown_content (Joined p) = refl
  kept_shown_content (JoinedEcho p) = refl
  kept_shown_content (Leave p) = refl
  kept_shown_content (LeaveEcho p) = refl
  kept_shown_content (Query p tag) = refl
  kept_shown_content (Response v tag) = refl
  kept_shown_content (Update v tag p) = refl
  kept_shown_content (Ack tag) = refl
  kept_shown_content (UpdateEcho v) = refl

  pub kept_shown_copy : (c : Held (Content R Stations)) → kept_copy (shown_copy c) ≡ c
  kept_shown_copy c = ap (λ m. record { from = c.from; content = m; sent = c.sent }) (kept_shown_content c.content)

  kept_shown_option : (o : Option (Held (Content R Stations))) → option_map kept_copy (option_map shown_copy o) ≡ o
  kept_shown_option None = refl
  kept_shown_option (Some c) = ap Some (kept_shown_copy c)

  pub kept_shown_waits : (w : Waits (Held (Content R Stations))) → kept_waits (shown_waits w) ≡ w
  kept_shown_waits w = fun_ext (λ n. fun_ext (λ q. kept_shown_option (w n q)))

  pub kept_shown_post : (p : Post (Content R Stations)) → kept_mail (shown_post p) ≡ p
  kept_shown_post p = λ i. record { number = p.number; held = kept_shown_copy p.held i; to = set_of_member p.to i }

  pub kept_shown_posts : (ps : List (Post (Content R Stations))) → map kept_mail (map shown_post ps) ≡ ps
  kept_shown_posts [] = refl
  kept_shown_posts (p ∷ ps) = ap₂ (λ q qs. q ∷ qs) (kept_shown_post p) (kept_shown_posts ps)

  -- asked of what is shown, the room rule answers as it does of what is kept
  pub room_shown : (room : Room (Content R Stations)) (w : Waits (Held (Content R Stations))) (ps : List (Post (Content R Stations)))
      → shown_room room (shown_waits w) (map shown_post ps) ≡ room w ps
  room_shown room w ps = ap₂ room (kept_shown_waits w) (kept_shown_posts ps)

  when_shown : (o : Option (Held (Content R Stations))) → when (option_map shown_copy o) ≡ when o
  when_shown None = refl
  when_shown (Some c) = refl

  -- what is shown waits since the same ticks
  pub earliest_shown : (w : Waits (Held (Content R Stations))) → earliest (shown_waits w) ≡ earliest w
  unfolding earliest
  earliest_shown w = ap (λ (f : ℕ → ℕ → Option ℕ). least (λ n. least (f n) 256) (2 ^ 32)) (fun_ext (λ n. fun_ext (λ q. when_shown (w n q))))

  shown_unless : (b : Bool) (o : Option (Held (Content R Stations))) → option_map shown_copy (cond b None o) ≡ cond b None (option_map shown_copy o)
  shown_unless true o = refl
  shown_unless false o = refl

  -- what is dropped is dropped of what is shown
  pub except_shown : (q : ℕ) (w : Waits (Held (Content R Stations))) → shown_waits (except q w) ≡ except q (shown_waits w)
  unfolding except
  except_shown q w = fun_ext (λ n. fun_ext (λ p. shown_unless (eqb p q) (w n p)))
