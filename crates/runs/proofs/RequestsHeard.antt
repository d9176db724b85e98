-- Requests and what is heard, apart from runs: on hearing what a request is made or answered, how hearing changes the tally
-- of a wait, and when a wait ends. Rests on `Requests` and `Ranks`.
use Rattle.std.proofs.Common.{◌≡◌, ℕ, ◌+◌, ◌*◌, ◌<◌, ◌≤◌, Bool, true, false, not, ◌&&◌, ◌||◌, eqb, leb, is_some, Some, None, Option, sym, refl, ap, ◌∙◌, subst, arith}
use Rattle.std.proofs.lemmas.Bool.{both_ways, and_parts, and_from, eqb-true, not-true, eq-eqb, le-leb, lt-leb}
use Rattle.std.proofs.lemmas.Bool.Decides.{nat_tests}
use Rattle.settings.specs.declared.choice.Choice.{Choice}
use Rattle.network.specs.declared.content.Content.{Content}
use Rattle.network.specs.declared.content.Content.TheVariants.{Enter, Query}
use Rattle.network.specs.declared.letter.Letter.{Letter}
use Rattle.network.specs.declared.letter.To.{To}
use Rattle.network.specs.declared.letter.To.TheVariants.{All, Only}
use Rattle.network.specs.declared.operation.Operation.{Operation}
use Rattle.network.specs.declared.operation.Operation.TheVariants.{Idle, PhaseOne, PhaseTwo}
use Rattle.network.specs.declared.operation.Task.{Task}
use Rattle.network.specs.declared.station.Station.{Station}
use Rattle.network.specs.Changes.{begin}
use Rattle.network.specs.Hearing.{hear}
use Rattle.network.specs.Keeping.{is_used, under_way, tag_of, newcomer}
use Rattle.network.specs.Knowing.{Set, member_count}
use Rattle.network.specs.Posting.{receivers}
use Rattle.network.specs.Saying.{letters, to_all, says}
use Rattle.runs.proofs.Counting.{one_if}
use Rattle.runs.proofs.FirstLetters.{every, every_one, only_first}
use Rattle.runs.proofs.Mails.{Among}
use Rattle.runs.proofs.Ranks.{rank, rank_of, rank_query, rank_update}
use Rattle.runs.proofs.SmallNumbers.{base_of, bound_of}
use Rattle.runs.proofs.Requests.{Request, entry, query, update, is_entry, is_query, asks, replies, awaits, tally, is_set, goal}

abbrev is_all : To → Bool
is_all All = true
is_all (Only p) = false

all_is : {R : Type 0} (l : Letter R Set) → is_all l.to ≡ true → l ≡ to_all l.content
all_is l h = ap (λ t. record { to = t; content = l.content }) (by l.to h)
  where
    by : (t : To) → is_all t ≡ true → t ≡ All
    by All h = refl
    by (Only p) h = absurd (both_ways _ refl h)

entry_is : (r : Request) → is_entry r ≡ true → r ≡ entry
entry_is entry h = refl
entry_is (query t) h = absurd (both_ways _ refl h)
entry_is (update t) h = absurd (both_ways _ refl h)

query_is : (tag : ℕ) (r : Request) → is_query tag r ≡ true → r ≡ query tag
query_is tag entry h = absurd (both_ways _ refl h)
query_is tag (query t) h = ap query (sym (eqb-true tag t h))
query_is tag (update t) h = absurd (both_ways _ refl h)

pub some_of : (o : Option ℕ) → is_some o ≡ true → (n : ℕ) × (o ≡ Some n)
some_of None h = absurd (both_ways _ refl h)
some_of (Some n) h = (n, refl)

implied : (a b : Bool) → (not a || b) ≡ true → a ≡ true → b ≡ true
implied a b h k = grind arith

module _ {R : Type 0} where
  -- the content is p's request r, or a reply to it
  abbrev pub concerns : ℕ → Request → Content R Set → Bool
  concerns p r m = asks p r m || replies p r m

  -- the request has been made: the station entered, or came to that rank
  abbrev pub was_made : Station R Set → Request → Bool
  was_made x entry = is_used x.life
  was_made x (query t) = leb (3 * t) (rank x)
  was_made x (update t) = leb (3 * t + 1) (rank x)

  -- who awaits replies has made the request
  pub awaited_made : (x : Station R Set) (r : Request) → is_used x.life ≡ true → awaits x r ≡ true → was_made x r ≡ true
  awaited_made x entry u a = u
  awaited_made x (query t) u a = le-leb (3 * t) (rank x) (omega (arith, rank_query x t a))
  awaited_made x (update t) u a = le-leb (3 * t + 1) (rank x) (omega (arith, rank_update x t a))

  -- the letter l of q makes the request r of p, as q turns from x into y
  pub record Makes (q p : ℕ) (r : Request) (x y : Station R Set) (l : Letter R Set) : Type 0 where
    pub who : q ≡ p
    pub loud : l ≡ to_all l.content
    pub before : was_made x r ≡ false
    pub waits : awaits y r ≡ true

  abbrev makes : ℕ → ℕ → Request → Station R Set → Station R Set → Letter R Set → Bool
  makes q p r x y l = eqb q p && (is_all l.to && (not (was_made x r) && awaits y r))

  shown_makes : (q p : ℕ) (r : Request) (x y : Station R Set) (l : Letter R Set) → makes q p r x y l ≡ true → Makes q p r x y l
  shown_makes q p r x y l h =
      let a = and_parts _ _ h in
      let b = and_parts _ _ a.1 in
      let c = and_parts _ _ b.1 in
      record { who = eqb-true q p a.0; loud = all_is l b.0; before = not-true _ c.0; waits = c.1 }

  -- who enters, who begins
  pub entered_makes : (first : R) (x : Station R Set) (p q : ℕ) (r : Request) (l : Letter R Set) → l ≡ to_all (Enter q) → is_used x.life ≡ false → asks p r l.content ≡ true → Makes q p r x (newcomer first q) l
  entered_makes first x p q r l e u h =
      let (f, g) = and_parts _ _ (subst (λ (k : Letter R Set). asks p r k.content ≡ true) e h) in
      let b = entry_is r f in
      record { who = eqb-true q p g; loud = e ∙ ap (λ (k : Letter R Set). to_all k.content) (sym e); before = ap (was_made x) b ∙ u; waits = ap (awaits (newcomer first q)) b }

  rank_high : (o : Operation R) → rank_of o < 3 * (tag_of o + 1)
  rank_high (Idle tag) = omega arith
  rank_high (PhaseOne task poll) = omega arith
  rank_high (PhaseTwo kind poll kept) = omega arith

  pub begun_makes : (t : Task R) (x : Station R Set) (p q : ℕ) (r : Request) (l : Letter R Set) → l ≡ to_all (Query q (tag_of x.operation + 1)) → asks p r l.content ≡ true → Makes q p r x (begin t x) l
  begun_makes t x p q r l e h =
      let (f, g) = and_parts _ _ (subst (λ (k : Letter R Set). asks p r k.content ≡ true) e h) in
      let b = query_is (tag_of x.operation + 1) r f in
      record {
        who = eqb-true q p g;
        loud = e ∙ ap (λ (k : Letter R Set). to_all k.content) (sym e);
        before = ap (was_made x) b ∙ lt-leb _ _ (rank_high x.operation);
        waits = ap (awaits (begin t x)) b ∙ eq-eqb (tag_of x.operation + 1) _ refl;
      }

  module _ (c : Choice) (q : ℕ) (m : Content R Set) (x : Station R Set) where
    asking : (p : ℕ) (r : Request) → every (λ l. not (asks p r l.content) || makes q p r x (hear c q m x) l) (letters (says q m x (hear c q m x))) ≡ true
    unfolding hear says
    asking p entry = grind (arith, nat_tests)
    asking p (query t) = grind (arith, nat_tests)
    asking p (update t) = grind (arith, nat_tests)

    -- who makes a request on hearing had not made it
    pub heard_makes : (p : ℕ) (r : Request) (l : Letter R Set) → Among l (letters (says q m x (hear c q m x))) → asks p r l.content ≡ true → Makes q p r x (hear c q m x) l
    heard_makes p r l a h = shown_makes q p r x _ l (implied _ _ (every_one _ _ l a (asking p r)) h)

    replying : (y : Station R Set) (who : Set) (p : ℕ) (r : Request) → every (λ l. not (receivers l.to who p && replies p r l.content) || asks p r m) (letters (says q m x y)) ≡ true
    unfolding says
    replying y who p r = grind (arith, nat_tests)

    -- who replies was asked
    pub reply_asked : (y : Station R Set) (who : Set) (p : ℕ) (r : Request) (l : Letter R Set) → Among l (letters (says q m x y)) → receivers l.to who p ≡ true → replies p r l.content ≡ true
        → asks p r m ≡ true
    reply_asked y who p r l a h k = implied _ _ (every_one _ _ l a (replying y who p r)) (and_from _ _ h k)

    -- a request or a reply is the first letter
    pub says_first : (y : Station R Set) (p : ℕ) (r : Request) → only_first (concerns p r) (letters (says q m x y)) ≡ true
    unfolding says
    says_first y p r = grind (arith, nat_tests)

    -- how hearing changes the tally of a wait
    pub hear_tally : (r : Request) → awaits x r ≡ true → awaits (hear c q m x) r ≡ true → tally (hear c q m x) r ≡ tally x r + one_if (replies q r m)
    unfolding hear
    hear_tally r a b = grind (arith, nat_tests)

    pub hear_new : (r : Request) → awaits x r ≡ false → awaits (hear c q m x) r ≡ true → tally (hear c q m x) r ≡ 0
    unfolding hear
    hear_new r a b = grind (arith, nat_tests)

    -- the last reply of a phase
    pub hear_ends : (r : Request) → is_entry r ≡ false → awaits x r ≡ true → awaits (hear c q m x) r ≡ false → (replies q r m ≡ true) × (c.beta * base_of x.operation ≤ 100 * (tally x r + 1))
    unfolding hear
    hear_ends r o a b = (grind (arith, nat_tests), grind (arith, nat_tests))

    -- a wait that goes on is short of its share
    pub hear_short : (r : Request) → (under_way x.operation ≡ true → 0 < c.beta * member_count x.known) → (is_set x r ≡ true → awaits x r ≡ true → 100 * tally x r < goal c x r)
        → is_set (hear c q m x) r ≡ true → awaits (hear c q m x) r ≡ true → 100 * tally (hear c q m x) r < goal c (hear c q m x) r
    unfolding hear
    hear_short r f g s a = grind (arith, nat_tests)

    -- who joins heard an echo of its entry, and has a bound of which its echoes are the share
    pub hear_joins : x.joined ≡ false → (hear c q m x).joined ≡ true
        → (replies q entry m ≡ true) × (is_some (hear c q m x).bound ≡ true) × (c.gamma * bound_of (hear c q m x).bound ≤ 100 * (x.echoes + 1))
    unfolding hear
    hear_joins a b = (grind (arith, nat_tests), grind (arith, nat_tests), grind (arith, nat_tests))
