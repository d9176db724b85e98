-- The messages of letters, letter by letter.
use Rattle.std.proofs.Common.{◌≡◌, ℕ, ◌+◌, Bool, true, false, cond, eqb, ◌&&◌, List, [], ◌∷◌, map, Some, None, Option, refl, ap, sym, ◌∙◌, arith}
use Rattle.std.specs.Prelude.{option_map}
use Rattle.std.specs.Option.{option_to_list}
use Rattle.std.proofs.lemmas.Bool.Decides.{nat_tests}
use mathlib.Core.Path.{fun_ext}
use Rattle.carrier.specs.declared.message.Post.{Post}
use Rattle.stations.specs.Members.{member, nobody, put}
use Rattle.stations.specs.declared.Stations.{Stations}
use Rattle.network.specs.declared.content.Content.{Content}
use Rattle.network.specs.declared.letter.Letter.{Letter}
use Rattle.network.specs.declared.letter.To.{To}
use Rattle.network.specs.declared.letter.To.TheVariants.{Only}
use Rattle.network.specs.Knowing.{Set}
use Rattle.network.specs.Posting.{receivers, anybody, mail, mails}
use Rattle.network.specs.States.{Mail}
use Rattle.engine.specs.Copies.{shown_post}

-- where a station is active, it alone receives what is for it alone
only_here : (p q : ℕ) (b : Bool) → (eqb q p ≡ true → b ≡ true) → cond (eqb q p) true false ≡ eqb q p && b
only_here p q b h = by (eqb q p) h where
  by : (c : Bool) → (c ≡ true → b ≡ true) → cond c true false ≡ c && b
  by true h = sym (h refl)
  by false h = refl

module _ {A : Type 0} where
  if_none : (b : Bool) (m : A) (xs ys : List A) → None ≡ cond b (Some m) None → cond b xs ys ≡ ys
  if_none true m xs ys h = cc
  if_none false m xs ys h = refl

  if_some : (b : Bool) (m n : A) (xs ys : List A) → Some m ≡ cond b (Some n) None → cond b (n ∷ xs) ys ≡ m ∷ xs
  if_some true m n xs ys h = cc
  if_some false m n xs ys h = cc

module _ {R : Type 0} (p clock : ℕ) (who : Set) (n : ℕ) (l : Letter R Set) where
  -- the message of a letter, where it has a receiver
  abbrev pub mail_if : Option (Mail R)
  mail_if = cond (anybody (receivers l.to who)) (Some (mail p clock who n l)) None

  pub none_first : (ls : List (Letter R Set)) → None ≡ mail_if → mails p clock who n ls ≡ mails p clock who n (l ∷ ls)
  unfolding mails
  none_first ls h = sym (if_none (anybody (receivers l.to who)) (mail p clock who n l) _ _ h)

  pub some_first : (m : Mail R) (ls : List (Letter R Set)) → Some m ≡ mail_if → m ∷ mails p clock who (n + 1) ls ≡ mails p clock who n (l ∷ ls)
  unfolding mails
  some_first m ls h = sym (if_some (anybody (receivers l.to who)) m (mail p clock who n l) _ _ h)

  pub only_mail : (o : Option (Post (Content R Stations))) → option_map shown_post o ≡ mail_if → map shown_post (option_to_list o) ≡ mails p clock who n (l ∷ [])
  unfolding mails
  only_mail None h = none_first [] h
  only_mail (Some m) h = some_first (shown_post m) [] h

  pub two_mails : (k : Letter R Set) (m : Mail R) (o : Option (Post (Content R Stations)))
      → Some m ≡ mail_if → map shown_post (option_to_list o) ≡ mails p clock who (n + 1) (k ∷ []) → m ∷ map shown_post (option_to_list o) ≡ mails p clock who n (l ∷ k ∷ [])
  two_mails k m o h g = ap (λ ms. m ∷ ms) g ∙ some_first m (k ∷ []) h

-- the set with one active station alone
pub only_one : (to : To) (t none w : Stations) (p : ℕ) → to ≡ Only p → member none ≡ nobody → member t ≡ put (member none) p true → member w p ≡ true
    → member t ≡ receivers to (member w)
unfolding put
only_one to t none w p is empty e here =
    e
    ∙ fun_ext (λ q. ap (λ (f : Set). cond (eqb q p) true (f q)) empty ∙ only_here p q (member w q) (λ h. let same : q ≡ p = grind (arith, nat_tests) in ap (member w) same ∙ here))
    ∙ ap (λ (a : To). receivers a (member w)) (sym is)
