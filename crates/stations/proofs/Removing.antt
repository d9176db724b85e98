-- A station taken out of a set, by the words and by the members.
use Rattle.std.proofs.Common.{◌≡◌, ℕ, ◌-◌, ◌*◌, ◌/◌, ◌%◌, ◌^◌, ◌<◌, ◌≤◌, Bool, false, cond, eqb, List, [], ◌∷◌, get_or, sym, refl, ap, ◌∙◌, ⊎_elim, arith, zero, suc, length, set}
use mathlib.Core.Path.{fun_ext}
use lib.Bits.{bit_and}
use Rattle.std.proofs.lemmas.Bool.{ne_eqb, cond-true, cond-false, cases_eq, cases_lt, cases_Bool, eqb-true}
use Rattle.stations.specs.declared.Stations.{Stations}
use Rattle.stations.specs.Members.{member, put, word_without, removed}
use Rattle.stations.proofs.Sets.{same_words, same_members, four_words}
use Rattle.stations.proofs.Words.{four_each, member_masked, member_past}

each_without : (s : Stations) (p j : ℕ) → j < 4
    → get_or (removed s p).words j 0 ≡ cond (eqb j (p / 64)) (bit_and (get_or s.words (p / 64) 0) ((2 ^ 64 - 1) - (1 * 2 ^ (p % 64)) % 2 ^ 64)) (get_or s.words j 0)
unfolding removed
each_without s p j h =
    four_each (word_without s p) j h
    ∙ ⊎_elim
    (λ (e : j ≡ p / 64). ap (λ (i : ℕ). cond (eqb j (p / 64)) (bit_and (get_or s.words i 0) ((2 ^ 64 - 1) - (1 * 2 ^ (p % 64)) % 2 ^ 64)) (get_or s.words j 0)) e)
    (λ ne. cond-false _ _ _ (ne_eqb _ _ ne) ∙ sym (cond-false _ _ _ (ne_eqb _ _ ne)))
    (cases_eq j (p / 64))

put_absent : (f : ℕ → Bool) (p : ℕ) → f p ≡ false → put f p false ≡ f
unfolding put
put_absent f p h = fun_ext (λ q. ⊎_elim
    (λ t. cond-true (eqb q p) false (f q) t ∙ sym h ∙ ap f (sym (eqb-true q p t)))
    (λ t. cond-false (eqb q p) false (f q) t)
    (cases_Bool (eqb q p)))

-- from 256 on there is no station, and nothing changes
removed_past : (s : Stations) (p : ℕ) → 256 ≤ p → removed s p ≡ s
unfolding removed
removed_past s p h = same_words (removed s p) s (kept ∙ four_words s.words s.whole) where
  at : (j : ℕ) → j < 4 → word_without s p j ≡ get_or s.words j 0
  at j l = cond-false _ _ _ (ne_eqb j (p / 64) (λ e. omega arith))

  kept : (removed s p).words ≡ get_or s.words 0 0 ∷ get_or s.words 1 0 ∷ get_or s.words 2 0 ∷ get_or s.words 3 0 ∷ []
  kept =
      let a = at 0 (omega arith) in
      let b = at 1 (omega arith) in
      let c = at 2 (omega arith) in
      let d = at 3 (omega arith) in
      cc

-- taking out a station, by its members
pub member_removed : (s : Stations) (p : ℕ) → member (removed s p) ≡ put (member s) p false
member_removed s p = ⊎_elim
    (λ l. member_masked s (removed s p) p l (each_without s p))
    (λ l. ap member (removed_past s p l) ∙ sym (put_absent (member s) p (member_past s p l)))
    (cases_lt p 256)

pub removed_is : (s t : Stations) (p : ℕ) → member t ≡ put (member s) p false → t ≡ removed s p
removed_is s t p e = same_members t (removed s p) (e ∙ sym (member_removed s p))

four_set : (l : List ℕ) (i w : ℕ) → length l ≡ 4 → i < 4
    → set l i w ≡ cond (eqb 0 i) w (get_or l 0 0) ∷ cond (eqb 1 i) w (get_or l 1 0) ∷ cond (eqb 2 i) w (get_or l 2 0) ∷ cond (eqb 3 i) w (get_or l 3 0) ∷ []
four_set (a ∷ b ∷ c ∷ d ∷ []) zero w n h = refl
four_set (a ∷ b ∷ c ∷ d ∷ []) (suc zero) w n h = refl
four_set (a ∷ b ∷ c ∷ d ∷ []) (suc (suc zero)) w n h = refl
four_set (a ∷ b ∷ c ∷ d ∷ []) (suc (suc (suc zero))) w n h = refl
four_set (a ∷ b ∷ c ∷ d ∷ []) (suc (suc (suc (suc i)))) w n h = absurd (omega arith)
four_set [] i w n h = absurd (omega arith)
four_set (a ∷ []) i w n h = absurd (omega arith)
four_set (a ∷ b ∷ []) i w n h = absurd (omega arith)
four_set (a ∷ b ∷ c ∷ []) i w n h = absurd (omega arith)
four_set (a ∷ b ∷ c ∷ d ∷ e ∷ l) i w n h = absurd (omega arith)

-- the word that is written, as the set without the station has it
pub removed_words : (s : Stations) (p : ℕ) → length s.words ≡ 4 → p < 256
    → set s.words (p / 64) (bit_and (get_or s.words (p / 64) 0) ((2 ^ 64 - 1) - (1 * 2 ^ (p % 64)) % 2 ^ 64)) ≡ (removed s p).words
unfolding removed
removed_words s p n h =
    four_set s.words (p / 64) _ n (omega arith)
    ∙ ap (λ (f : ℕ → ℕ). f 0 ∷ f 1 ∷ f 2 ∷ f 3 ∷ []) (fun_ext (λ j. ⊎_elim
    (λ (e : j ≡ p / 64). ap (λ (i : ℕ). cond (eqb j (p / 64)) (bit_and (get_or s.words i 0) ((2 ^ 64 - 1) - (1 * 2 ^ (p % 64)) % 2 ^ 64)) (get_or s.words j 0)) (sym e))
    (λ ne. cond-false _ _ _ (ne_eqb _ _ ne) ∙ sym (cond-false _ _ _ (ne_eqb _ _ ne)))
    (cases_eq j (p / 64))))
