-- Which number the first letter of a step takes: where only the first letter of those said can pass a test, a copy that
-- passes it has the next number of the state before the step. Rests on `Mails` and `Copies`.
use Rattle.std.proofs.Common.{◌≡◌, ℕ, suc, ◌+◌, Bool, true, false, cond, not, ◌&&◌, eqb, List, [], ◌∷◌, Some, None, Option, sym, refl, ap, ◌∙◌, inl, inr, ⊎_elim, arith}
use Rattle.std.proofs.lemmas.Bool.{both_ways, cases_Bool, and_parts, eqb-true, cond-false, not-true}
use Rattle.carrier.specs.Waits.{Waits}
use Rattle.network.specs.declared.content.Content.{Content}
use Rattle.network.specs.declared.letter.Letter.{Letter}
use Rattle.network.specs.Changes.{changed, said, actor}
use Rattle.network.specs.Knowing.{Set}
use Rattle.network.specs.Posting.{receivers, anybody, mail, mails, with_mail, with_mails}
use Rattle.network.specs.States.{Copy, active_set}
use Rattle.network.specs.Steps.{next}
use Rattle.runs.proofs.Positions.{Run, state, waiting, after_step}
use Rattle.runs.proofs.Accepted.{some_is_not_none}
use Rattle.runs.proofs.Mails.{Among, Mailed, waits_from, changed_next, changed_within}
use Rattle.runs.proofs.Copies.{Posted, numbered}

-- all pass the test
abbrev pub every : {A : Type 0} → (A → Bool) → List A → Bool
every f [] = true
every f (a ∷ xs) = f a && every f xs

pub every_one : {A : Type 0} (f : A → Bool) (xs : List A) (a : A) → Among a xs → every f xs ≡ true → f a ≡ true
every_one f [] a m h = absurd m
every_one f (b ∷ xs) a (inl e) h = ap f e ∙ (and_parts _ _ h).0
every_one f (b ∷ xs) a (inr m) h = every_one f xs a m (and_parts _ _ h).1

-- of the letters, no later one passes the test
abbrev pub only_first : {R : Type 0} → (Content R Set → Bool) → List (Letter R Set) → Bool
only_first f [] = true
only_first f (l ∷ ls) = every (λ k. not (f k.content)) ls

module _ {R : Type 0} (p clock : ℕ) (who : Set) where
  -- a mail gives one number
  one_number : (n : ℕ) (l : Letter R Set) (w : Waits (Copy R)) (m q : ℕ) (c : Copy R) → w m q ≡ None → with_mail (mail p clock who n l) w m q ≡ Some c → m ≡ n
  unfolding with_mail
  one_number n l w m q c e h =
      elim (cases_Bool (eqb m n && receivers l.to who q))
      [ inl k ↦ eqb-true m n (and_parts _ _ k).0 | inr k ↦ absurd (some_is_not_none c (sym h ∙ cond-false _ _ _ k ∙ e)) ]

  first_number : (f : Content R Set → Bool) (n : ℕ) (ls : List (Letter R Set)) (w : Waits (Copy R)) (m q : ℕ) (c : Copy R)
      → only_first f ls ≡ true → f c.content ≡ true → w m q ≡ None → with_mails (mails p clock who n ls) w m q ≡ Some c → m ≡ n
  unfolding mails
  first_number f n [] w m q c o t e h = absurd (some_is_not_none c (sym h ∙ e))
  first_number f n (l ∷ ls) w m q c o t e h = by (anybody (receivers l.to who)) h
    where
      later : (k : ℕ) → Mailed p clock who k ls m q c → ⊥
      later k d = both_ways (f c.content) (ap (λ (x : Copy R). f x.content) d.is ∙ not-true _ (every_one (λ k. not (f k.content)) ls d.letter d.among o)) t

      by : (b : Bool) → with_mails (cond b (mail p clock who n l ∷ mails p clock who (n + 1) ls) (mails p clock who n ls)) w m q ≡ Some c → m ≡ n
      by true g = ⊎_elim (one_number n l w m q c e) (λ d. absurd (later (n + 1) d)) (waits_from p clock who (n + 1) ls (with_mail (mail p clock who n l) w) m q c g)
      by false g = ⊎_elim (λ d. absurd (some_is_not_none c (sym d ∙ e))) (λ d. absurd (later n d)) (waits_from p clock who n ls w m q c g)

module _ {R : Type 0} (z : Run R) where
  unless_some : (o : Option (Copy R)) → ((c : Copy R) → o ≡ Some c → ⊥) → o ≡ None
  unless_some None h = refl
  unless_some (Some c) h = absurd (h c refl)

  -- what is posted at step i and passes the test has the next number
  pub takes_next : (f : Content R Set → Bool) (i n q : ℕ) (c : Copy R) (d : Posted z i n q c) → waiting z (suc i) n q ≡ Some c
      → only_first f (said z.setup d.doing (state z i)) ≡ true → f c.content ≡ true → n ≡ (state z i).next
  unfolding next
  takes_next f i n q c d h o t =
      let s = changed z.setup d.doing (state z i) in
      let none = unless_some (s.waits n q) (λ b g. absurd (omega (arith, numbered z i n q b (changed_within z.setup d.doing (state z i) n q b g), d.number_low))) in
      first_number (actor d.doing) s.clock (active_set s) f s.next (said z.setup d.doing (state z i)) s.waits n q c o t none
      (sym (ap (λ t. t.waits n q) (after_step z i d.doing d.accepted)) ∙ h)
      ∙ changed_next z.setup d.doing (state z i)
