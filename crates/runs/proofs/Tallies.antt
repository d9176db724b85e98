-- Whose replies a station has counted for a request, by recursion on the position; and while it waits, that they are as many
-- as its tally. Rests on `Asked` (a reply is heard once) and `Changes`.
use Rattle.std.proofs.Common.{◌≡◌, ℕ, zero, suc, ◌+◌, ◌<◌, ◌≤◌, Bool, true, false, not, ◌&&◌, ◌||◌, eqb, ◌⊎◌, is_some, Some, None, Option, sym, refl, ap, ◌∙◌, subst, inl, inr, arith, slice_get}
use Rattle.std.proofs.lemmas.Bool.{both_ways, cases_Bool, and_parts, and_from, or_cases, or_left, or_right, eqb-true, eq-eqb, not-true, not_from_false}
use Rattle.std.proofs.lemmas.Bool.Decides.{nat_tests}
use Rattle.stations.specs.Members.{how_many}
use Rattle.stations.proofs.Counting.{how_many_same, how_many_none}
use Rattle.network.specs.declared.operation.Task.{Task}
use Rattle.network.specs.declared.fault.StepFault.{StepFault}
use Rattle.network.specs.declared.station.Life.{Life}
use Rattle.network.specs.declared.station.Station.{Station}
use Rattle.network.specs.declared.step.Step.{Step}
use Rattle.network.specs.declared.step.Step.TheVariants as step
use Rattle.network.specs.Changes.{begin}
use Rattle.network.specs.Keeping.{under_way, unused_station, newcomer, founder}
use Rattle.network.specs.Knowing.{Set, most_stations}
use Rattle.network.specs.Refusals.{refusal}
use Rattle.network.specs.States.{Copy, Setup, State}
use Rattle.runs.proofs.Positions.{Run, state, station, waiting, Accepted, onward}
use Rattle.runs.proofs.Accepted.{enters, begins}
use Rattle.runs.proofs.Asked.{Reply, reply_from, reply_once}
use Rattle.runs.proofs.Changes.{Change, same, comes, fades, begins_one, hears_one, change, grown, unused_blank, active_used, used_in_range}
use Rattle.runs.proofs.Counting.{one_if, how_many_at}
use Rattle.runs.proofs.Growing.{with_both}
use Rattle.runs.proofs.Hearings.{hears_copy}
use Rattle.runs.proofs.Ranks.{rank_on, rank_query, query_rank, rank_update, update_rank}
use Rattle.runs.proofs.Requests.{Request, entry, query, update, replies, awaits, tally}
use Rattle.runs.proofs.RequestsHeard.{hear_tally, hear_new}
use Rattle.runs.proofs.Start.{at_start}

no_fault : (o : Option StepFault) → not (is_some o) ≡ true → o ≡ None
no_fault None h = refl
no_fault (Some f) h = absurd (both_ways _ refl h)

module _ {R : Type 0} where
  -- the copy that waits is q's reply to p
  abbrev reply_by : ℕ → Request → ℕ → Option (Copy R) → Bool
  reply_by p r q None = false
  reply_by p r q (Some c) = replies p r c.content && eqb c.from q

  -- this step, if it is accepted, lets p count the reply of q
  abbrev counts : ℕ → Request → ℕ → State R → Step R → Bool
  counts p r q s step.Tick = false
  counts p r q s (step.Enter k) = false
  counts p r q s (step.Leave k) = false
  counts p r q s (step.Crash k) = false
  counts p r q s (step.Read k) = false
  counts p r q s (step.Write k v) = false
  counts p r q s (step.Deliver n k) = eqb k p && (awaits (s.stations p) r && reply_by p r q (s.waits n p))

  abbrev counts_any : ℕ → Request → ℕ → Setup R → State R → Option (Step R) → Bool
  counts_any p r q u s None = false
  counts_any p r q u s (Some x) = not (is_some (refusal u x s)) && counts p r q s x

  -- what a delivered copy counts for
  counts_copy : (p : ℕ) (r : Request) (q n : ℕ) (u : Setup R) (s : State R) (c : Copy R) → refusal u (step.Deliver n p) s ≡ None → s.waits n p ≡ Some c → awaits (s.stations p) r ≡ true
      → counts_any p r q u s (Some (step.Deliver n p)) ≡ (replies p r c.content && eqb c.from q)
  counts_copy p r q n u s c e w a = rw (e, eq-eqb p p refl, a, w) refl

  -- at other changes a tally stays, or begins at 0
  fade_tally : (l : Life) (c : Bool) (x : Station R Set) (r : Request) → tally (with_both l c x) r ≡ tally x r
  fade_tally l c x r = grind arith

  pub fade_awaits : (l : Life) (c : Bool) (x : Station R Set) (r : Request) → awaits (with_both l c x) r ≡ awaits x r
  fade_awaits l c x r = grind arith

  begin_tally : (t : Task R) (x : Station R Set) (r : Request) → under_way x.operation ≡ false → awaits x r ≡ true → tally (begin t x) r ≡ tally x r
  begin_tally t x r i a = grind (arith, nat_tests)

  begin_new : (t : Task R) (x : Station R Set) (r : Request) → awaits x r ≡ false → awaits (begin t x) r ≡ true → tally (begin t x) r ≡ 0
  begin_new t x r a b = grind (arith, nat_tests)

  newcomer_tally : (first : R) (p : ℕ) (r : Request) → tally (newcomer first p) r ≡ 0
  newcomer_tally first p r = grind arith

  unused_tally : (first : R) (r : Request) → tally (unused_station first) r ≡ 0
  unused_tally first r = grind arith

  founder_tally : (first : R) (k : ℕ) (r : Request) → tally (founder first k) r ≡ 0
  founder_tally first k r = grind arith

module _ {R : Type 0} (z : Run R) where
  -- at step i, p counts the reply of q
  abbrev counts_at : ℕ → Request → ℕ → ℕ → Bool
  counts_at p r i q = counts_any p r q z.setup (state z i) (slice_get z.steps i)

  -- before position i, p has counted the reply of q to its request r
  unfoldable pub counted : ℕ → Request → ℕ → ℕ → Bool
  counted p r zero q = false
  counted p r (suc i) q = counted p r i q || counts_at p r i q

  counted_next : (p : ℕ) (r : Request) (i q : ℕ) → counted p r (suc i) q ≡ (counted p r i q || counts_at p r i q)
  unfolding counted
  counted_next p r i q = refl

  -- the copy c that is delivered to p is a reply
  pub copy_reply : (i n p : ℕ) (r : Request) (c : Copy R) → Accepted z i (step.Deliver n p) → waiting z i n p ≡ Some c → replies p r c.content ≡ true → Reply z i p c.from r
  copy_reply i n p r c a w k = let (h, e, f) = hears_copy z i n p c c.content a w refl in subst (λ (d : Copy R). Reply z i p d.from r) f (reply_from z i p r c.content h k)

  counts_reply : (p : ℕ) (r : Request) (i q : ℕ) → counts_at p r i q ≡ true → Reply z i p q r × (awaits (station z i p) r ≡ true)
  counts_reply p r i q h = by_step (slice_get z.steps i) refl h
    where
      by_copy : (n : ℕ) → Accepted z i (step.Deliver n p) → (o : Option (Copy R)) → waiting z i n p ≡ o → reply_by p r q o ≡ true → Reply z i p q r
      by_copy n a None w k = absurd (both_ways _ refl k)
      by_copy n a (Some c) w k = let (f, g) = and_parts _ _ k in subst (λ q. Reply z i p q r) (eqb-true c.from q g) (copy_reply i n p r c a w f)

      by_kind : (x : Step R) → Accepted z i x → counts p r q (state z i) x ≡ true → Reply z i p q r × (awaits (station z i p) r ≡ true)
      by_kind step.Tick a k = absurd (both_ways _ refl k)
      by_kind (step.Enter m) a k = absurd (both_ways _ refl k)
      by_kind (step.Leave m) a k = absurd (both_ways _ refl k)
      by_kind (step.Crash m) a k = absurd (both_ways _ refl k)
      by_kind (step.Read m) a k = absurd (both_ways _ refl k)
      by_kind (step.Write m v) a k = absurd (both_ways _ refl k)
      by_kind (step.Deliver n m) a k =
          let (e, f) = and_parts _ _ k in
          let (w, g) = and_parts _ _ f in
          (by_copy n (subst (λ m. Accepted z i (step.Deliver n m)) (eqb-true m p e) a) (waiting z i n p) refl g, w)

      by_step : (o : Option (Step R)) → slice_get z.steps i ≡ o → counts_any p r q z.setup (state z i) o ≡ true → Reply z i p q r × (awaits (station z i p) r ≡ true)
      by_step None e k = absurd (both_ways _ refl k)
      by_step (Some x) e k = let (f, g) = and_parts _ _ k in by_kind x (e, no_fault _ f) g

  pub counted_reply : (p : ℕ) (r : Request) (i q : ℕ) → counted p r i q ≡ true → (u : ℕ) × (u < i) × Reply z u p q r × (awaits (station z u p) r ≡ true)
  unfolding counted
  counted_reply p r zero q h = absurd (both_ways _ refl h)
  counted_reply p r (suc i) q h =
      elim (or_cases _ _ h) [
        | inl k ↦ let (u, l, g, w) = counted_reply p r i q k in (u, omega (arith, l), g, w)
        | inr k ↦ let (g, w) = counts_reply p r i q k in (i, omega arith, g, w)
      ]

  -- what the delivery of the copy c at step i counts for
  counts_delivery : (p : ℕ) (r : Request) (i q n : ℕ) (c : Copy R) → Accepted z i (step.Deliver n p) → waiting z i n p ≡ Some c → awaits (station z i p) r ≡ true
      → counts_at p r i q ≡ (replies p r c.content && eqb c.from q)
  counts_delivery p r i q n c a w v = ap (counts_any p r q z.setup (state z i)) a.0 ∙ counts_copy p r q n z.setup (state z i) c a.1 w v

  pub reply_counted : (p : ℕ) (r : Request) (u q : ℕ) → Reply z u p q r → awaits (station z u p) r ≡ true → counted p r (suc u) q ≡ true
  reply_counted p r u q a w =
      let h = a.heard in
      let k : replies p r h.copy.content ≡ true = subst (λ m. replies p r m ≡ true) (sym h.holds) a.reply in
      counted_next p r u q ∙ or_right _ _ (counts_delivery p r u q h.number h.copy h.accepted h.waited w ∙ and_from _ _ k (eq-eqb _ _ a.sender))

  pub counted_on : (p : ℕ) (r : Request) (i j q : ℕ) → i ≤ j → counted p r i q ≡ true → counted p r j q ≡ true
  counted_on p r i j q l h = onward z (λ k. counted p r k q ≡ true) (λ k g. counted_next p r k q ∙ or_left _ _ g) i j l h

  -- who waits at two positions waits in between
  pub awaits_between : (p : ℕ) (r : Request) (i j k : ℕ) → i ≤ j → j ≤ k → awaits (station z i p) r ≡ true → awaits (station z k p) r ≡ true → awaits (station z j p) r ≡ true
  awaits_between p entry i j k l m a b =
      elim (cases_Bool (station z j p).joined) [ inl e ↦ absurd (both_ways _ (not-true _ b) ((grown z p j k m).joined e)) | inr e ↦ not_from_false _ e ]
  awaits_between p (query t) i j k l m a b =
      query_rank (station z j p) t (omega (arith, rank_query (station z i p) t a, rank_query (station z k p) t b, rank_on z p i j l, rank_on z p j k m))
  awaits_between p (update t) i j k l m a b =
      update_rank (station z j p) t (omega (arith, rank_update (station z i p) t a, rank_update (station z k p) t b, rank_on z p i j l, rank_on z p j k m))

  -- a reply that is heard while p waits is one more
  pub one_more : (p : ℕ) (r : Request) (i n : ℕ) (c : Copy R) → Accepted z i (step.Deliver n p) → waiting z i n p ≡ Some c → awaits (station z i p) r ≡ true
      → how_many (counted p r (suc i)) most_stations ≡ how_many (counted p r i) most_stations + one_if (replies p r c.content)
  one_more p r i n c a w v = by (cases_Bool (replies p r c.content))
    where
      next : (q : ℕ) → counted p r (suc i) q ≡ (counted p r i q || (replies p r c.content && eqb c.from q))
      next q = counted_next p r i q ∙ ap (λ b. counted p r i q || b) (counts_delivery p r i q n c a w v)

      same_for : (q : ℕ) → (replies p r c.content && eqb c.from q) ≡ false → counted p r (suc i) q ≡ counted p r i q
      same_for q e = next q ∙ grind (arith, e)

      by : (replies p r c.content ≡ true) ⊎ (replies p r c.content ≡ false) → how_many (counted p r (suc i)) most_stations ≡ how_many (counted p r i) most_stations + one_if (replies p r c.content)
      by (inl k) =
          let g = copy_reply i n p r c a w k in
          let new : counted p r i c.from ≡ false =
          elim (cases_Bool (counted p r i c.from))
          [ inl e ↦ let (u, l, d, x) = counted_reply p r i c.from e in absurd (omega (arith, l, reply_once z u i p c.from r d g)) | inr e ↦ e ] in
          let now : counted p r (suc i) c.from ≡ true = reply_counted p r i c.from g v in
          let low = used_in_range z g.place c.from (active_used z c.from g.place g.asked.before) in
          omega (arith, how_many_at (counted p r (suc i)) (counted p r i) most_stations c.from low (λ q ne. same_for q (grind (arith, nat_tests))), ap one_if new, ap one_if now, ap one_if k)
      by (inr k) = how_many_same _ _ most_stations (λ q l. same_for q (grind (arith, k))) ∙ omega (arith, ap one_if k)

  -- while it waits, the tally is the number of those counted
  pub tally_counts : (p : ℕ) (r : Request) (i : ℕ) → awaits (station z i p) r ≡ true → how_many (counted p r i) most_stations ≡ tally (station z i p) r
  tally_counts p r zero w =
      how_many_none _ most_stations (λ q l. none q (cases_Bool (counted p r 0 q))) ∙ sym (at_start z (λ x. tally x r) 0 (founder_tally z.setup.first z.founders r) (unused_tally z.setup.first r) p)
    where
      none : (q : ℕ) → (counted p r 0 q ≡ true) ⊎ (counted p r 0 q ≡ false) → counted p r 0 q ≡ false
      none q (inl e) = let (u, l, d, v) = counted_reply p r 0 q e in absurd (omega (arith, l))
      none q (inr e) = e
  tally_counts p r (suc i) w = elim (cases_Bool (awaits (station z i p) r)) [ inl v ↦ on v (tally_counts p r i v) | inr v ↦ anew v ]
    where
      -- no reply is counted where the tally stays
      rests : awaits (station z i p) r ≡ true → how_many (counted p r i) most_stations ≡ tally (station z i p) r → tally (station z (suc i) p) r ≡ tally (station z i p) r
          → how_many (counted p r (suc i)) most_stations ≡ tally (station z (suc i) p) r
      rests v k e = how_many_same _ _ most_stations (λ q l. unchanged q (cases_Bool (counts_at p r i q))) ∙ k ∙ sym e
        where
          unchanged : (q : ℕ) → (counts_at p r i q ≡ true) ⊎ (counts_at p r i q ≡ false) → counted p r (suc i) q ≡ counted p r i q
          unchanged q (inl f) =
              let d = (counts_reply p r i q f).0 in
              let h = d.heard in
              absurd (omega (arith, e, ap (λ x. tally x r) h.after, hear_tally z.setup.choice p d.words (station z i p) r v (subst (λ x. awaits x r ≡ true) h.after w), ap one_if d.reply))
          unchanged q (inr f) = counted_next p r i q ∙ grind (arith, f)

      on : awaits (station z i p) r ≡ true → how_many (counted p r i) most_stations ≡ tally (station z i p) r → how_many (counted p r (suc i)) most_stations ≡ tally (station z (suc i) p) r
      on v k = by (change z i p)
        where
          by : Change z i p → how_many (counted p r (suc i)) most_stations ≡ tally (station z (suc i) p) r
          by (same e) = rests v k (ap (λ x. tally x r) e)
          by (comes a e) = rests v k (ap (λ x. tally x r) e ∙ newcomer_tally z.setup.first p r ∙ sym (ap (λ x. tally x r) (unused_blank z i p (enters z i p a).unused) ∙ unused_tally z.setup.first r))
          by (fades l c f e) = rests v k (ap (λ x. tally x r) e ∙ fade_tally l c (station z i p) r)
          by (begins_one t a e) = rests v k (ap (λ x. tally x r) e ∙ begin_tally t (station z i p) r (begins z i p t a).idle v)
          by (hears_one n c a h e) =
              one_more p r i n c a h v ∙ ap (λ m. m + one_if (replies p r c.content)) k
              ∙ sym (ap (λ x. tally x r) e ∙ hear_tally z.setup.choice p c.content (station z i p) r v (subst (λ x. awaits x r ≡ true) e w))

      -- a wait that begins at step i has counted nobody
      anew : awaits (station z i p) r ≡ false → how_many (counted p r (suc i)) most_stations ≡ tally (station z (suc i) p) r
      anew v = how_many_none _ most_stations (λ q l. none q (cases_Bool (counted p r (suc i) q))) ∙ sym (by (change z i p))
        where
          none : (q : ℕ) → (counted p r (suc i) q ≡ true) ⊎ (counted p r (suc i) q ≡ false) → counted p r (suc i) q ≡ false
          none q (inl e) = let (u, l, d, x) = counted_reply p r (suc i) q e in absurd (both_ways _ v (awaits_between p r u i (suc i) (omega (arith, l)) (omega arith) x w))
          none q (inr e) = e

          by : Change z i p → tally (station z (suc i) p) r ≡ 0
          by (same e) = absurd (both_ways _ v (subst (λ x. awaits x r ≡ true) e w))
          by (comes a e) = ap (λ x. tally x r) e ∙ newcomer_tally z.setup.first p r
          by (fades l c f e) = absurd (both_ways _ v (sym (fade_awaits l c (station z i p) r) ∙ subst (λ x. awaits x r ≡ true) e w))
          by (begins_one t a e) = ap (λ x. tally x r) e ∙ begin_new t (station z i p) r v (subst (λ x. awaits x r ≡ true) e w)
          by (hears_one n c a h e) = ap (λ x. tally x r) e ∙ hear_new z.setup.choice p c.content (station z i p) r v (subst (λ x. awaits x r ≡ true) e w)
