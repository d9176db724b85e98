-- What an operation spread, one that begins after its end has taken by the end of its first phase. Rests on `QuorumsMeet`,
-- `Known` and `PhaseBeginnings`.
use Rattle.std.proofs.Common.{◌≡◌, ℕ, suc, ◌+◌, ◌*◌, ◌<◌, ◌≤◌, Bool, true, false, sym, refl, ap, ◌∙◌, subst, inl, inr, le_refl, arith}
use Rattle.std.proofs.lemmas.Bool.{cases_lt, not-true}
use Rattle.std.proofs.lemmas.Bool.Decides.{nat_tests as tests}
use Rattle.settings.specs.declared.choice.Choice.{Choice}
use Rattle.network.specs.declared.content.Content.{Content}
use Rattle.network.specs.declared.content.Content.TheVariants.{Response, Update}
use Rattle.network.specs.declared.letter.Letter.{Letter}
use Rattle.network.specs.declared.operation.Operation.{Operation}
use Rattle.network.specs.declared.operation.Operation.TheVariants.{Idle, PhaseOne, PhaseTwo}
use Rattle.network.specs.declared.operation.Task.{Task}
use Rattle.network.specs.declared.operation.Task.TheVariants as task
use Rattle.network.specs.declared.register.Register.{Register}
use Rattle.network.specs.declared.stamp.Stamp.{Stamp}
use Rattle.network.specs.declared.station.Station.{Station}
use Rattle.network.specs.Hearing.{hear}
use Rattle.network.specs.Knowing.{Set}
use Rattle.network.specs.Saying.{says}
use Rattle.network.specs.Stamps.{higher, newer, next_stamp}
use Rattle.runs.proofs.Positions.{Run, station, clock, D}
use Rattle.runs.proofs.Asked.{Reply, asked_once, request_made}
use Rattle.runs.proofs.Changes.{grown}
use Rattle.runs.proofs.Clocks.{clock_on}
use Rattle.runs.proofs.Counted.{counted_reply, phase_ends}
use Rattle.runs.proofs.Facts.{stamped, holds, tells}
use Rattle.runs.proofs.Hearings.{hears_active}
use Rattle.runs.proofs.Known.{joined_holds}
use Rattle.runs.proofs.PhaseBeginnings.{BeginsPhase, Speaks, speaks, update_asked, update_tells}
use Rattle.runs.proofs.QuorumsMeet.{RunsTo, replied, quorums_share}
use Rattle.runs.proofs.Ranks.{rank_on, rank_query, rank_update}
use Rattle.runs.proofs.Requests.{query, update, awaits, replies}
use Rattle.runs.proofs.Stamps.{UpTo, up_to_trans, up_to_next, newer_offer, newer_held, next_higher, higher_from}
use Rattle.runs.proofs.Travel.{Announced, heard_holds}

-- whether the operation, in phase one, is to write
abbrev pub is_write : {R : Type 0} → Task R → Bool
is_write task.Read = false
is_write (task.Write r) = true

abbrev pub to_write : {R : Type 0} → Operation R → Bool
to_write (Idle tag) = false
to_write (PhaseOne task poll) = is_write task
to_write (PhaseTwo kind poll kept) = false

module _ {R : Type 0} where
  -- a response is given by one who has joined, and offers its register
  response_in : (q : ℕ) (m : Content R Set) (x y : Station R Set) (k j : Letter R Set) (p t : ℕ) → replies p (query t) k.content ≡ true → Speaks (says q m x y) k j
      → (k.content ≡ Response y.register t) × (y.joined ≡ true)
  unfolding says
  response_in q m x y k j p t h e = (grind (arith, tests), grind (arith, tests))

  -- who hears a response in its phase one holds a stamp not below
  next_of_newer : (q : ℕ) (offer held : Register R) → UpTo offer.stamp (next_stamp q (newer offer held).stamp)
  next_of_newer q offer held = up_to_next q _ _ (newer_offer offer held)

  takes_offer : (c : Choice) (q : ℕ) (offer : Register R) (x : Station R Set) (t : ℕ) → awaits x (query t) ≡ true → UpTo offer.stamp (hear c q (Response offer t) x).register.stamp
  unfolding hear
  takes_offer c q offer x t a = grind (arith, tests, newer_offer, next_of_newer)

  two_not_one : (x : Station R Set) (t : ℕ) → awaits x (update t) ≡ true → awaits x (query t) ≡ false
  two_not_one x t h = grind arith

  -- one who then goes on to write makes the next stamp
  writes_next : (c : Choice) (q : ℕ) (offer : Register R) (x : Station R Set) (t : ℕ) → awaits x (query t) ≡ true → to_write x.operation ≡ true → awaits (hear c q (Response offer t) x) (query t) ≡ false
      → (hear c q (Response offer t) x).register.stamp ≡ next_stamp q (newer offer x.register).stamp
  unfolding hear
  writes_next c q offer x t a w b = grind (arith, tests)

module _ {R : Type 0} (z : Run R) where
  -- the operation of p under tag t has begun, and has begun phase two
  pub record Spread (p t : ℕ) : Type 0 where
    pub begun : ℕ
    pub turned : ℕ
    pub one : BeginsPhase z begun p (query t)
    pub two : BeginsPhase z turned p (update t)
    pub later : begun < turned
    pub was_one : awaits (station z turned p) (query t) ≡ true

  -- the stamp that it spreads
  abbrev pub stamp_of : {p t : ℕ} → Spread p t → Stamp
  stamp_of {p} x = (station z (suc x.turned) p).register.stamp

  -- x ends, before y begins
  pub record Before {p t p' t' : ℕ} (x : Spread p t) (y : Spread p' t') : Type 0 where
    pub ended : ℕ
    pub was_two : awaits (station z ended p) (update t) ≡ true
    pub over : awaits (station z (suc ended) p) (update t) ≡ false
    pub sooner : ended < y.begun

  -- a response is heard as its sender, who has joined, gave it
  response : (u p q n : ℕ) (y : Reply z u p q (query n)) → (y.words ≡ Response (station z (suc y.place) q).register n) × ((station z (suc y.place) q).joined ≡ true)
  response u p q n y =
      let (j, e) = speaks (says q y.question (station z y.place q) (station z (suc y.place) q)) y.letter y.among in
      let (c, d) = response_in q y.question (station z y.place q) (station z (suc y.place) q) y.letter j p n (subst (λ m. replies p (query n) m ≡ true) (sym y.same) y.reply) e in
      (sym y.same ∙ c, d)

  hears_response : (u p q n : ℕ) (y : Reply z u p q (query n)) → station z (suc u) p ≡ hear z.setup.choice p (Response (station z (suc y.place) q).register n) (station z u p)
  hears_response u p q n y = y.heard.after ∙ ap (λ m. hear z.setup.choice p m (station z u p)) (response u p q n y).0

  -- by step m, in phase one of tag n, p hears the response of one that holds the stamp t
  record HearsOf (t : Stamp) (m p n : ℕ) : Type 0 where
    pub place : ℕ
    pub by : place ≤ m
    pub from : ℕ
    pub reply : Reply z place p from (query n)
    pub awaited : awaits (station z place p) (query n) ≡ true
    pub held : UpTo t (station z (suc reply.place) from).register.stamp

  -- then it holds the stamp
  taken : (t : Stamp) (m p n i : ℕ) (h : HearsOf t m p n) → h.place < i → UpTo t (station z i p).register.stamp
  taken t m p n i h l =
      let x = station z h.place p in
      let offer = (station z (suc h.reply.place) h.from).register in
      let now = subst (λ (y : Station R Set). UpTo offer.stamp y.register.stamp) (sym (hears_response h.place p h.from n h.reply)) (takes_offer z.setup.choice p offer x n h.awaited) in
      up_to_trans _ _ _ h.held (up_to_trans _ _ _ now (grown z p (suc h.place) i l).stamp)

  -- a write that turns to phase two at step m makes a higher one than it held, and than the response heard there offered
  write_over : (m p q n : ℕ) (y : Reply z m p q (query n)) → awaits (station z m p) (query n) ≡ true → awaits (station z (suc m) p) (query n) ≡ false → to_write (station z m p).operation ≡ true
      → higher (station z (suc m) p).register.stamp (newer (station z (suc y.place) q).register (station z m p).register).stamp ≡ true
  write_over m p q n y a o w =
      let e = hears_response m p q n y in
      let x = station z m p in
      let offer = (station z (suc y.place) q).register in
      let made = writes_next z.setup.choice p offer x n a w (sym (ap (λ x. awaits x (query n)) e) ∙ o) in
      subst (λ (s : Stamp). higher s (newer offer x.register).stamp ≡ true) (sym (ap (λ x. x.register.stamp) e ∙ made)) (next_higher p _)

  -- x spread its stamp, and ended before y began
  module _ {p t p' t' : ℕ} (x : Spread p t) (y : Spread p' t') (b : Before x y) where
    announced : Announced z x.turned (stamped (stamp_of x))
    announced =
        let (loud, about) = update_tells z x.turned p t x.two in
        record { by = p; says = x.two.asked.words; loud = loud; about = about; told = x.two.asked.said }

    turned_ended : x.turned < b.ended
    turned_ended =
        elim (cases_lt x.turned b.ended) [
          | inl k ↦ k
          | inr k ↦ absurd (omega (arith, rank_on z p b.ended x.turned k, rank_query (station z x.turned p) t x.was_one, rank_update (station z b.ended p) t b.was_two))
        ]

    first_of_y : RunsTo z y.begun p' (query t') y.turned
    first_of_y = record { begins = y.one; later = y.later; awaited = y.was_one; over = two_not_one (station z (suc y.turned) p') t' y.two.asked.waits }

    second_of_x : RunsTo z x.turned p (update t) b.ended
    second_of_x = record { begins = x.two; later = turned_ended; awaited = b.was_two; over = b.over }

    last_response : (q : ℕ) × Reply z y.turned p' q (query t')
    last_response = let e = phase_ends z y.turned p' (query t') refl y.was_one first_of_y.over in (e.last_of, e.last)

    -- y began 2D ticks after x spread its stamp: all members hold it
    far : clock z x.turned + 2 * D z ≤ clock z y.begun → HearsOf (stamp_of x) y.turned p' t'
    unfolding holds
    far late =
        let (q, a) = last_response in
        let (after, _) = replied z y.begun p' (query t') y.one y.turned q a in
        let held = joined_holds z q (suc a.place) x.turned (stamped (stamp_of x)) (response y.turned p' q t' a).1 (hears_active z a.place q a.question a.asked) announced
        (omega (arith, clock_on z y.begun (suc a.place) (omega (arith, after)))) in
        record { place = y.turned; by = le_refl _; from = q; reply = a; awaited = y.was_one; held = not-true _ held }

    -- y began before: a station of both quorums took the stamp before it gave its response
    near : clock z y.begun < clock z x.turned + 2 * D z → HearsOf (stamp_of x) y.turned p' t'
    unfolding holds
    near soon =
        let (q, _, in_x, in_y) = quorums_share z x.turned p b.ended y.begun p' y.turned (update t) (query t') second_of_x first_of_y (omega (arith, turned_ended, b.sooner)) soon in
        let (u, ux, acked, _) = counted_reply z p (update t) (suc b.ended) q in_x in
        let (v, vy, a, w) = counted_reply z p' (query t') (suc y.turned) q in_y in
        let (after, _) = replied z y.begun p' (query t') y.one v q a in
        let held = heard_holds z acked.place q (suc a.place) acked.question (stamped (stamp_of x)) acked.asked (tells_stamp u q acked) (omega (arith, ux, after, b.sooner, acked.before)) in
        record { place = v; by = omega (arith, vy); from = q; reply = a; awaited = w; held = not-true _ held }
      where
        tells_stamp : (u q : ℕ) (a : Reply z u p q (update t)) → tells a.question (stamped (stamp_of x)) ≡ true
        tells_stamp u q a =
            let m = request_made z a.place q p (update t) a.question a.asked a.request in
            let e = asked_once z m.place x.turned p (update t) m.made x.two.asked in
            let words : a.question ≡ x.two.asked.words = m.same ∙ update_asked z m.place p t m.made ∙ ap (λ s. Update (station z (suc s) p).register t p) e ∙ sym (update_asked z x.turned p t x.two.asked) in
            subst (λ m. tells m (stamped (stamp_of x)) ≡ true) (sym words) (update_tells z x.turned p t x.two).1

    hears_of : HearsOf (stamp_of x) y.turned p' t'
    hears_of = elim (cases_lt (clock z y.begun) (clock z x.turned + 2 * D z)) [ inl k ↦ near k | inr k ↦ far k ]

    -- then y's stamp is at least x's, and higher where y writes
    pub ordered : UpTo (stamp_of x) (stamp_of y)
    ordered = taken (stamp_of x) y.turned p' t' (suc y.turned) hears_of (omega (arith, hears_of.by))

    pub ordered_write : to_write (station z y.turned p').operation ≡ true → higher (stamp_of y) (stamp_of x) ≡ true
    ordered_write w =
        elim (cases_lt hears_of.place y.turned) [
          | inl k ↦
              let (q, a) = last_response in
              higher_from _ _ _ (write_over y.turned p' q t' a y.was_one first_of_y.over w)
              (up_to_trans _ _ _ (taken (stamp_of x) y.turned p' t' y.turned hears_of k) (newer_held _ _))
          | inr k ↦
              let now : hears_of.place ≡ y.turned = omega (arith, k, hears_of.by) in
              subst (λ u. (q : ℕ) (a : Reply z u p' q (query t')) → UpTo (stamp_of x) (station z (suc a.place) q).register.stamp → higher (stamp_of y) (stamp_of x) ≡ true) (sym now)
              (λ q a h. higher_from _ _ _ (write_over y.turned p' q t' a y.was_one first_of_y.over w) (up_to_trans _ _ _ h (newer_offer _ _)))
              hears_of.from hears_of.reply hears_of.held
        ]
