-- Who was counted: the replies that a station has counted for a request are those of so many distinct senders, and the wait
-- ends when they come to its share. Rests on `Tallies`, `Soundness` (nobody present is held to have left) and `Members`.
use Rattle.std.proofs.Common.{◌≡◌, ℕ, suc, ◌+◌, ◌*◌, ◌<◌, ◌≤◌, Bool, true, false, cond, ltb, Some, sym, refl, ap, ◌∙◌, subst, inl, inr, mul-le-mul, arith}
use Rattle.std.proofs.lemmas.Bool.{both_ways, cases_Bool, and_from, not_from_false}
use Rattle.std.proofs.lemmas.Bool.Decides.{nat_tests}
use Rattle.settings.specs.declared.choice.Choice.{Choice}
use Rattle.settings.proofs.Facts.{beta_low}
use Rattle.stations.specs.Members.{how_many, only}
use Rattle.stations.proofs.Counting.{how_many_some}
use Rattle.network.specs.declared.operation.Task.{Task}
use Rattle.network.specs.declared.station.Life.{Life}
use Rattle.network.specs.declared.station.Station.{Station}
use Rattle.network.specs.Changes.{begin}
use Rattle.network.specs.Keeping.{is_used, under_way, newcomer, founder, unused_station}
use Rattle.network.specs.Knowing.{Set, most_stations, member_count}
use Rattle.runs.proofs.Positions.{Run, station}
use Rattle.runs.proofs.Accepted.{Acts, enters, begins, hears}
use Rattle.runs.proofs.Asked.{Reply}
use Rattle.runs.proofs.Changes.{Change, same, comes, fades, begins_one, hears_one, change, stationwise, unused_blank, used_in_range}
use Rattle.runs.proofs.Counting.{one_if}
use Rattle.runs.proofs.EntryAnswers.{reply_answer, answer_reply}
use Rattle.runs.proofs.Growing.{left_gone, present_used, with_both}
use Rattle.runs.proofs.Members.{knows_itself_joined, busy_joined}
use Rattle.runs.proofs.Requests.{Request, entry, query, update, is_entry, awaits, tally, is_set, goal}
use Rattle.runs.proofs.RequestsHeard.{some_of, hear_ends, hear_short, hear_joins}
use Rattle.runs.proofs.SmallNumbers.{base_of, bound_of}
use Rattle.runs.proofs.Soundness.{left_true}
use Rattle.runs.proofs.Start.{settings_met}
use Rattle.runs.proofs.Tallies.{fade_awaits, copy_reply, one_more}
use Rattle.runs.proofs.Travel.{Answer}
pub use Rattle.runs.proofs.Tallies.{counted, counted_reply, reply_counted, counted_on, awaits_between, tally_counts}

module _ {R : Type 0} where
  -- a wait that can end is short of its share
  Short : Choice → Station R Set → Type 0
  Short c x = (r : Request) → is_set x r ≡ true → awaits x r ≡ true → 100 * tally x r < goal c x r

  short_start : (c : Choice) (first : R) (k : ℕ) (b : Bool) → Short c (cond b (founder first k) (unused_station first))
  unfolding Short
  short_start c first k b r s a = grind (arith, nat_tests)

  short_newcomer : (c : Choice) (first : R) (p : ℕ) → Short c (newcomer first p)
  unfolding Short
  short_newcomer c first p r s a = grind (arith, nat_tests)

  short_faded : (c : Choice) (l : Life) (b : Bool) (x : Station R Set) → Short c x → Short c (with_both l b x)
  unfolding Short
  short_faded c l b x h entry s a = h entry s a
  short_faded c l b x h (query k) s a = h (query k) s a
  short_faded c l b x h (update k) s a = h (update k) s a

  short_begun : (c : Choice) (t : Task R) (x : Station R Set) → 0 < c.beta * member_count x.known → Short c x → Short c (begin t x)
  unfolding Short
  short_begun c t x m h entry s a = h entry s a
  short_begun c t x m h (query k) s a = omega (arith, m)
  short_begun c t x m h (update k) s a = absurd (both_ways _ refl a)

  -- who waits in a phase has an operation under way
  pub waits_busy : (x : Station R Set) (r : Request) → is_entry r ≡ false → awaits x r ≡ true → under_way x.operation ≡ true
  waits_busy x r o a = grind (arith, nat_tests)

  unused_idle : (first : R) (r : Request) → is_entry r ≡ false → awaits (unused_station first) r ≡ false
  unused_idle first r o = grind arith

module _ {R : Type 0} (z : Run R) where
  -- one who acts and has joined knows a member, itself
  some_member : (i p : ℕ) → Acts z i p → (station z i p).joined ≡ true → 0 < z.setup.choice.beta * member_count (station z i p).known
  some_member i p a j =
      let stays : (station z i p).known.left p ≡ false = elim (cases_Bool ((station z i p).known.left p)) [ inl e ↦ absurd (both_ways _ (left_gone _ (left_true z i p p e)) a.is_here) | inr e ↦ e ] in
      let one = how_many_some (only (station z i p).known.joined (station z i p).known.left) most_stations p (used_in_range z i p (present_used _ a.is_here)) (and_from _ _ (knows_itself_joined z i p j) (not_from_false _ stays)) in
      mul-le-mul (beta_low z.setup.choice (settings_met z)) one

  short : (i p : ℕ) → Short z.setup.choice (station z i p)
  unfolding Short
  short =
      stationwise z (λ p x. Short z.setup.choice x) (λ p. short_start z.setup.choice z.setup.first z.founders (ltb p z.founders))
      (λ i p e. short_newcomer z.setup.choice z.setup.first p)
      (λ i p l c f k r s a. short_faded z.setup.choice l c (station z i p) k r s a)
      (λ i p t b k. short_begun z.setup.choice t (station z i p) (some_member i p b.acts b.joined) k)
      (λ i p n c a w k r. hear_short z.setup.choice p c.content (station z i p) r (λ u. some_member i p (hears z i n p a).acts (busy_joined z i p u)) (k r))

  -- while it waits and can end, those counted are fewer than the share
  pub still_short : (p : ℕ) (r : Request) (i : ℕ) → is_used (station z i p).life ≡ true → awaits (station z i p) r ≡ true → is_set (station z i p) r ≡ true
      → 100 * how_many (counted z p r i) most_stations < goal z.setup.choice (station z i p) r
  unfolding Short
  still_short p r i u w s = omega (arith, tally_counts z p r i w, short i p r s w)

  -- who joins at step k has a bound, and those counted have come to its share
  pub record JoinsWith (k p : ℕ) : Type 0 where
    pub bound : ℕ
    pub is : (station z (suc k) p).bound ≡ Some bound
    pub share : z.setup.choice.gamma * bound ≤ 100 * how_many (counted z p entry (suc k)) most_stations

  pub joins_with : (k p : ℕ) → (station z k p).joined ≡ false → (station z (suc k) p).joined ≡ true → JoinsWith k p
  joins_with k p a b = by (change z k p)
    where
      by : Change z k p → JoinsWith k p
      by (same e) = absurd (both_ways _ a (sym (ap (λ x. x.joined) e) ∙ b))
      by (comes t e) = absurd (both_ways _ (ap (λ x. x.joined) e) b)
      by (fades l c f e) = absurd (both_ways _ a (sym (ap (λ x. x.joined) e) ∙ b))
      by (begins_one t g e) = absurd (both_ways _ a (sym (ap (λ x. x.joined) e) ∙ b))
      by (hears_one n c g w e) =
          let w' = not_from_false _ a in
          let (r, s, l) = hear_joins z.setup.choice p c.content (station z k p) a (sym (ap (λ x. x.joined) e) ∙ b) in
          let (b, f) = some_of _ s in
          record {
            bound = b;
            is = ap (λ x. x.bound) e ∙ f;
            share = omega (arith, subst (λ o. z.setup.choice.gamma * bound_of o ≤ 100 * ((station z k p).echoes + 1)) f l, one_more z p entry k n c g w w', ap one_if r, tally_counts z p entry k w');
          }

  -- where a phase ends, at step k, its station hears a last reply, and those counted have come to the share of its base
  pub record PhaseEnds (k p : ℕ) (r : Request) : Type 0 where
    pub last_of : ℕ
    pub last : Reply z k p last_of r
    pub share : z.setup.choice.beta * base_of (station z k p).operation ≤ 100 * how_many (counted z p r (suc k)) most_stations

  pub phase_ends : (k p : ℕ) (r : Request) → is_entry r ≡ false → awaits (station z k p) r ≡ true → awaits (station z (suc k) p) r ≡ false → PhaseEnds k p r
  phase_ends k p r o w e = by (change z k p)
    where
      by : Change z k p → PhaseEnds k p r
      by (same f) = absurd (both_ways _ (sym (ap (λ x. awaits x r) f) ∙ e) w)
      by (comes t f) = absurd (both_ways _ (unused_idle z.setup.first r o) (sym (ap (λ x. awaits x r) (unused_blank z k p (enters z k p t).unused)) ∙ w))
      by (fades l c g f) = absurd (both_ways _ (sym (ap (λ x. awaits x r) f ∙ fade_awaits l c (station z k p) r) ∙ e) w)
      by (begins_one t g f) = absurd (both_ways _ (begins z k p t g).idle (waits_busy (station z k p) r o w))
      by (hears_one n c g h f) =
          let (a, b) = hear_ends z.setup.choice p c.content (station z k p) r o w (sym (ap (λ x. awaits x r) f) ∙ e) in
          record {
            last_of = c.from;
            last = copy_reply z k n p r c g h a;
            share = omega (arith, b, one_more z p r k n c g h w, ap one_if a, tally_counts z p r k w);
          }

  -- the answers counted by one who joins
  pub counted_answer : (p i q : ℕ) → counted z p entry i q ≡ true → (v : ℕ) × (u : ℕ) × (u < i) × Answer z p v q u
  counted_answer p i q h = let (u, l, d, w) = counted_reply z p entry i q h in (d.place, u, l, reply_answer z u p q d)

  pub answer_counted : (p v q u : ℕ) → Answer z p v q u → (station z u p).joined ≡ false → counted z p entry (suc u) q ≡ true
  answer_counted p v q u a j = reply_counted z p entry u q (answer_reply z p v q u a) (not_from_false _ j)
