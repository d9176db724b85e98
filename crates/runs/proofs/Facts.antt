-- Facts that travel: that a station entered, joined or left, and that a stamp is at least so high. Which facts a station
-- holds, which a content tells, and that what is told is held from then on and echoed. Apart from runs.
use Rattle.std.proofs.Common.{◌≡◌, ℕ, Bool, true, false, cond, not, ◌||◌, eqb, refl, inl, inr, arith}
use Rattle.std.proofs.lemmas.Bool.{both_ways, not-true, not_from_false, or_left}
use Rattle.std.proofs.lemmas.Bool.Decides.{nat_tests as tests}
use Rattle.settings.specs.declared.choice.Choice.{Choice}
use Rattle.stations.specs.Members.{put}
use Rattle.network.specs.declared.content.Content.{Content}
use Rattle.network.specs.declared.content.Content.TheVariants.{Enter, EnterEcho, Joined, JoinedEcho, Leave, LeaveEcho, Query, Response, Update, Ack, UpdateEcho}
use Rattle.network.specs.declared.known.Known.{Known}
use Rattle.network.specs.declared.letter.Letter.{Letter}
use Rattle.network.specs.declared.letter.Speech.TheVariants.{One, Two}
use Rattle.network.specs.declared.register.Register.{Register}
use Rattle.network.specs.declared.stamp.Stamp.{Stamp}
use Rattle.network.specs.declared.station.Station.{Station}
use Rattle.network.specs.Hearing.{hear}
use Rattle.network.specs.Knowing.{Set}
use Rattle.network.specs.Saying.{letters, to_all, to_only, says}
use Rattle.network.specs.Stamps.{higher, newer}
use Rattle.runs.proofs.Growing.{Grown}
use Rattle.runs.proofs.Mails.{Among}
use Rattle.runs.proofs.Stamps.{up_to_trans, newer_offer}

-- station r entered, joined or left; or a stamp at least so high is held
pub data Fact : Type 0 where
  entered joined left : ℕ → Fact
  stamped : Stamp → Fact

abbrev pub noted : Known Set → Fact → Bool
noted k (entered r) = k.entered r
noted k (joined r) = k.joined r
noted k (left r) = k.left r
noted k (stamped t) = false

abbrev pub at_least : Stamp → Fact → Bool
at_least v (entered r) = false
at_least v (joined r) = false
at_least v (left r) = false
at_least v (stamped t) = not (higher t v)

abbrev pub of_entry : ℕ → Fact → Bool
of_entry p (entered r) = eqb r p
of_entry p (joined r) = false
of_entry p (left r) = false
of_entry p (stamped t) = false

abbrev pub of_member : ℕ → Fact → Bool
of_member p (entered r) = eqb r p
of_member p (joined r) = eqb r p
of_member p (left r) = false
of_member p (stamped t) = false

abbrev pub of_departure : ℕ → Fact → Bool
of_departure p (entered r) = false
of_departure p (joined r) = false
of_departure p (left r) = eqb r p
of_departure p (stamped t) = false

-- who takes an offer holds a stamp at least as high
offer_taken : {R : Type 0} (offer held : Register R) (t : Stamp) → higher t offer.stamp ≡ false → higher t (newer offer held).stamp ≡ false
offer_taken offer held t h = up_to_trans t offer.stamp (newer offer held).stamp h (newer_offer offer held)

module _ {R : Type 0} where
  -- the station holds the fact
  unfoldable pub holds : Station R Set → Fact → Bool
  holds x (entered r) = x.known.entered r
  holds x (joined r) = x.known.joined r
  holds x (left r) = x.known.left r
  holds x (stamped t) = not (higher t x.register.stamp)

  -- the content tells the fact to whoever hears it; a response is taken only where it counts, and so is not in this list
  unfoldable pub tells : Content R Set → Fact → Bool
  tells (Enter p) F = of_entry p F
  tells (EnterEcho known offer f p) F = noted known F || at_least offer.stamp F
  tells (Joined p) F = of_member p F
  tells (JoinedEcho p) F = of_member p F
  tells (Leave p) F = of_departure p F
  tells (LeaveEcho p) F = of_departure p F
  tells (Query p tag) F = false
  tells (Response offer tag) F = false
  tells (Update offer tag p) F = at_least offer.stamp F
  tells (Ack tag) F = false
  tells (UpdateEcho offer) F = at_least offer.stamp F

  -- contents that whoever hears them echoes to all
  abbrev pub echoed_by_all : Content R Set → Bool
  echoed_by_all (Enter p) = true
  echoed_by_all (EnterEcho known offer f p) = false
  echoed_by_all (Joined p) = true
  echoed_by_all (JoinedEcho p) = false
  echoed_by_all (Leave p) = true
  echoed_by_all (LeaveEcho p) = false
  echoed_by_all (Query p tag) = false
  echoed_by_all (Response offer tag) = false
  echoed_by_all (Update offer tag p) = true
  echoed_by_all (Ack tag) = false
  echoed_by_all (UpdateEcho offer) = false

  -- what is held is held on
  pub grown_holds : (x y : Station R Set) (F : Fact) → Grown x y → holds x F ≡ true → holds y F ≡ true
  unfolding holds
  grown_holds x y (entered r) g h = g.knows_entered r h
  grown_holds x y (joined r) g h = g.knows_joined r h
  grown_holds x y (left r) g h = g.knows_left r h
  grown_holds x y (stamped t) g h = not_from_false _ (up_to_trans t x.register.stamp y.register.stamp (not-true _ h) g.stamp)

  -- what is told is held from then on
  pub received : (c : Choice) (q : ℕ) (m : Content R Set) (x : Station R Set) (F : Fact) → tells m F ≡ true → holds (hear c q m x) F ≡ true
  unfolding holds tells hear put
  received c q m x (entered r) t = grind (arith, tests)
  received c q m x (joined r) t = grind (arith, tests)
  received c q m x (left r) t = grind (arith, tests)
  received c q m x (stamped s) t = grind (arith, tests, offer_taken)

  -- the answer to an entry tells all that is held
  pub answer_tells_all : (p : ℕ) (y : Station R Set) (F : Fact) → holds y F ≡ true → tells (EnterEcho y.known y.register y.joined p) F ≡ true
  unfolding holds tells
  answer_tells_all p y (entered r) h = or_left _ _ h
  answer_tells_all p y (joined r) h = or_left _ _ h
  answer_tells_all p y (left r) h = or_left _ _ h
  answer_tells_all p y (stamped t) h = h

  -- whoever took an update holds as much
  stamp_told : (s : Stamp) (y : Station R Set) (F : Fact) → at_least s F ≡ true → holds y F ≡ true → at_least y.register.stamp F ≡ true
  unfolding holds
  stamp_told s y (entered r) t h = t
  stamp_told s y (joined r) t h = t
  stamp_told s y (left r) t h = t
  stamp_told s y (stamped v) t h = h

  -- an update is echoed to all, with an ack before it or without
  update_echoed : (p tag : ℕ) (v : Register R) (b : Bool)
      → Among {A = Letter R Set} (to_all (UpdateEcho v)) (letters (cond b (Two (to_only p (Ack tag)) (to_all (UpdateEcho v))) (One (to_all (UpdateEcho v)))))
  update_echoed p tag v true = inr (inl refl)
  update_echoed p tag v false = inl refl

  -- what is echoed tells what was told
  pub echoed : (q : ℕ) (m : Content R Set) (x y : Station R Set) (F : Fact) → echoed_by_all m ≡ true → tells m F ≡ true → holds y F ≡ true
      → (a : Content R Set) × Among (to_all a) (letters (says q m x y)) × (tells a F ≡ true)
  unfolding holds tells says
  echoed q (Enter p) x y F l t h = (EnterEcho y.known y.register y.joined p, inl refl, answer_tells_all p y F h)
  echoed q (EnterEcho known offer f p) x y F l t h = absurd (both_ways _ refl l)
  echoed q (Joined p) x y F l t h = (JoinedEcho p, inl refl, t)
  echoed q (JoinedEcho p) x y F l t h = absurd (both_ways _ refl l)
  echoed q (Leave p) x y F l t h = (LeaveEcho p, inl refl, t)
  echoed q (LeaveEcho p) x y F l t h = absurd (both_ways _ refl l)
  echoed q (Query p tag) x y F l t h = absurd (both_ways _ refl l)
  echoed q (Response offer tag) x y F l t h = absurd (both_ways _ refl l)
  echoed q (Update offer tag p) x y F l t h = (UpdateEcho y.register, update_echoed p tag y.register y.joined, stamp_told offer.stamp y F t h)
  echoed q (Ack tag) x y F l t h = absurd (both_ways _ refl l)
  echoed q (UpdateEcho offer) x y F l t h = absurd (both_ways _ refl l)
