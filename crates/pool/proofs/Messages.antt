-- What a change of one kept message, or of all, does to the copies that wait.
use Rattle.std.proofs.Common.{◌≡◌, ℕ, zero, suc, ◌<◌, Bool, true, false, cond, not, ◌&&◌, eqb, ◌⊎◌, [], ◌∷◌, is_some, Some, None, Option, sym, refl, ap, ◌∙◌, inl, inr, ⊎_elim, arith}
use mathlib.Core.Path.{fun_ext}
use Rattle.std.proofs.lemmas.Bool.{and_from, and_left, and_right, ltb-true, lt-ltb, eq-eqb, ne_eqb, eqb-true, eqb-false, not_from_true, not_from_false, cond-true, cond-false, cases_Bool, cases_eq, cases_lt}
use Rattle.stations.specs.Members.{member, how_many, put, removed}
use Rattle.stations.proofs.Counting.{how_many_zero, how_many_none}
use Rattle.stations.proofs.Removing.{member_removed}
use Rattle.stations.proofs.Words.{member_past}
use Rattle.carrier.specs.Waits.{same, at, except, nothing, posted, sent_to}
use Rattle.carrier.specs.Counts.{under, receivers, by_message, fits}
use Rattle.carrier.proofs.Asking.{one_load, one_fresh}
use Rattle.carrier.proofs.Copies.{none_of}
use Rattle.carrier.specs.declared.message.Held.{Held}
use Rattle.carrier.specs.declared.message.Post.{Post}
use Rattle.rack.specs.Entries.{left_of, trimmed_held}
use Rattle.rack.specs.Racks.{stored, capacity, spare}
use Rattle.rack.specs.declared.rack.Rack.{Rack}
use Rattle.pool.specs.declared.shared.Shared.{Shared}
use Rattle.pool.specs.Pooled.{shared_by, copy_of, opened, waiters, lesser, wanted}
use Rattle.pool.specs.Meaning.{pooled, Whole, Wanted}
use Rattle.pool.specs.Bounds.{opened_count, messages_copies}

-- whether a message is kept says whether a copy waits under its number
pub kept_under : {X : Type 0} (r : Rack (Shared X)) (n : ℕ) → Wanted r → is_some (stored r n 0) ≡ not (eqb (under (pooled r) n) 0)
unfolding under pooled
kept_under r n w = by (stored r n 0) (w n) where
  by : {X : Type 0} (o : Option (Held (Shared X))) → wanted o ≡ true → is_some o ≡ not (eqb (how_many (λ q. is_some (opened o q)) 256) 0)
  by {X} None t = sym (not_from_true _ (eq-eqb _ 0 (how_many_none (λ q. is_some (opened {X = X} None q)) 256 (λ q l. refl))))
  by (Some h) t = sym (not_from_false _ (ne_eqb _ 0 (λ z. omega (arith, z, opened_count h, ltb-true 0 (waiters h.content) t))))

module _ {X : Type 0} (h : Held (Shared X)) (s : ℕ) where
  bits : (b : Bool) (q : ℕ) → cond (put (member h.content.to) s false q) (Some (copy_of h)) None ≡ cond (eqb q s) None (cond (member h.content.to q) (Some (copy_of h)) None)
  unfolding put
  bits b q = ⊎_elim (λ t. rw t) (λ t. rw t) (cases_Bool (eqb q s))

  -- without one receiver, its copy is gone and the others are as they were
  pub lesser_opened : (q : ℕ) → opened (left_of h (lesser s h.content)) q ≡ cond (eqb q s) None (opened (Some h) q)
  unfolding lesser
  lesser_opened q = by (cases_Bool (eqb (how_many (member (removed h.content.to s)) 256) 0)) where
    known : member (removed h.content.to s) ≡ put (member h.content.to) s false
    known = member_removed h.content.to s

    by : (eqb (how_many (member (removed h.content.to s)) 256) 0 ≡ true) ⊎ (eqb (how_many (member (removed h.content.to s)) 256) 0 ≡ false)
        → opened (left_of h (cond (eqb (how_many (member (removed h.content.to s)) 256) 0) None (Some (record { content = h.content.content; to = removed h.content.to s })))) q
        ≡ cond (eqb q s) None (opened (Some h) q)
    by (inl t) = rw t (none_left (⊎_elim (λ l. how_many_zero _ 256 q (eqb-true _ 0 t) l) (λ l. member_past (removed h.content.to s) q l) (cases_lt q 256))) where
      none_left : member (removed h.content.to s) q ≡ false → ◌≡◌ {A = Option (Held X)} None (cond (eqb q s) None (cond (member h.content.to q) (Some (copy_of h)) None))
      none_left f = sym (sym (bits true q) ∙ ap (λ (b : Bool). cond b (Some (copy_of h)) None) (sym (ap (λ g. g q) known) ∙ f))
    by (inr t) = rw t (ap (λ (g : ℕ → Bool). cond (g q) (Some (copy_of h)) None) known ∙ bits true q)

  pub lesser_wanted : wanted (left_of h (lesser s h.content)) ≡ true
  unfolding lesser
  lesser_wanted =
      ⊎_elim
      (λ t. rw t)
      (λ t. rw t (lt-ltb 0 _ (above _ (eqb-false _ 0 t))))
      (cases_Bool (eqb (how_many (member (removed h.content.to s)) 256) 0)) where
        above : (n : ℕ) → (n ≡ 0 → ⊥) → 0 < n
        above zero e = absurd (e refl)
        above (suc n) e = omega arith

-- one message changed
module _ {X : Type 0} (r t : Rack (Shared X)) (n : ℕ) (o : Option (Held (Shared X))) (is : stored t ≡ at n 0 o (stored r)) where
  stored_at : (m q : ℕ) → stored t m q ≡ cond (same m q n 0) o (stored r m q)
  unfolding at
  stored_at m q = ap (λ w. w m q) is

  changed_at : (m : ℕ) → stored t m 0 ≡ cond (eqb m n) o (stored r m 0)
  changed_at m = stored_at m 0 ∙ ⊎_elim (λ e. rw e) (λ e. rw e) (cases_Bool (eqb m n))

  pub changed_whole : Whole r → Whole t
  changed_whole h m q = ap is_some (stored_at m (suc q) ∙ cond-false _ _ _ (and_right (eqb m n) _ (ne_eqb (suc q) 0 (λ e. omega (arith, e))))) ∙ h m q

  pub changed_wanted : wanted o ≡ true → Wanted r → Wanted t
  changed_wanted w h m =
      ap wanted (changed_at m)
      ∙ ⊎_elim (λ e. ap wanted (cond-true _ _ _ e) ∙ w) (λ e. ap wanted (cond-false _ _ _ e) ∙ h m) (cases_Bool (eqb m n))

  pooled_at : (m q : ℕ) → pooled t m q ≡ cond (eqb m n) (opened o q) (pooled r m q)
  unfolding pooled
  pooled_at m q =
      ap (λ z. opened z q) (changed_at m)
      ∙ ⊎_elim
      (λ e. ap (λ z. opened z q) (cond-true _ _ _ e) ∙ sym (cond-true _ _ _ e))
      (λ e. ap (λ z. opened z q) (cond-false _ _ _ e) ∙ sym (cond-false _ _ _ e))
      (cases_Bool (eqb m n))

  -- a message that is posted
  pub pooled_posted : (p : Post X) → n ≡ p.number → o ≡ Some (shared_by p.held p.to) → stored r n 0 ≡ None → pooled t ≡ posted p (pooled r)
  unfolding sent_to pooled
  pooled_posted p same_number kept gone = fun_ext (λ m. fun_ext (λ q.
      pooled_at m q
      ∙ ap (λ (k : ℕ). cond (eqb m k) (opened o q) (pooled r m q)) same_number
      ∙ ⊎_elim
      (λ e.
      cond-true _ _ _ e ∙ ap (λ z. opened z q) kept
      ∙ ap (λ z. cond (member p.to q) (Some p.held) z) (sym (ap (λ z. opened z q) (ap (λ (k : ℕ). stored r k 0) (eqb-true m p.number e ∙ sym same_number) ∙ gone)))
      ∙ sym (ap (λ (b : Bool). cond (b && member p.to q) (Some p.held) (pooled r m q)) e))
      (λ e. cond-false _ _ _ e ∙ sym (cond-false _ _ _ (and_left _ _ e)))
      (cases_Bool (eqb m p.number))))

  -- a copy that is taken
  pub pooled_taken : (k : Held (Shared X)) (s : ℕ) → o ≡ left_of k (lesser s k.content) → stored r n 0 ≡ Some k → pooled t ≡ at n s None (pooled r)
  unfolding at pooled
  pooled_taken k s less was = fun_ext (λ m. fun_ext (λ q.
      pooled_at m q
      ∙ ⊎_elim
      (λ e.
      cond-true _ _ _ e ∙ ap (λ z. opened z q) less ∙ lesser_opened k s q
      ∙ ap (λ z. cond (eqb q s) None (opened z q)) (sym (ap (λ (j : ℕ). stored r j 0) (eqb-true m n e) ∙ was))
      ∙ ap (λ (b : Bool). cond (b && eqb q s) None (opened (stored r m 0) q)) (sym e))
      (λ e. cond-false _ _ _ e ∙ sym (cond-false _ _ _ (and_left _ _ e)))
      (cases_Bool (eqb m n))))

-- every copy for one station dropped
module _ {X : Type 0} (r t : Rack (Shared X)) (s : ℕ) (is : stored t ≡ (λ n q. trimmed_held (λ p v. lesser s v) q (stored r n q))) where
  pub dropped_whole : Whole r → Whole t
  dropped_whole h n q = ap (λ w. is_some (w n (suc q))) is ∙ ap (λ z. is_some (trimmed_held (λ p v. lesser s v) (suc q) z)) (none_of (stored r n (suc q)) (h n q))

  pub dropped_wanted : Wanted r → Wanted t
  dropped_wanted h n = ap (λ w. wanted (w n 0)) is ∙ by (stored r n 0) where
    by : (o : Option (Held (Shared X))) → wanted (trimmed_held (λ p v. lesser s v) 0 o) ≡ true
    by None = refl
    by (Some k) = lesser_wanted k s

  pub pooled_dropped : pooled t ≡ except s (pooled r)
  unfolding except pooled
  pooled_dropped = fun_ext (λ n. fun_ext (λ q. ap (λ w. opened (w n 0) q) is ∙ by (stored r n 0) q)) where
    by : (o : Option (Held (Shared X))) (q : ℕ) → opened (trimmed_held (λ p v. lesser s v) 0 o) q ≡ cond (eqb q s) None (opened o q)
    by None q = ⊎_elim (λ e. sym (cond-true _ _ _ e)) (λ e. sym (cond-false _ _ _ e)) (cases_Bool (eqb q s))
    by (Some k) q = lesser_opened k s q

-- a message that fits has a place of its own
module _ {X : Type 0} (r : Rack (Shared X)) (p : Post X) (whole : Whole r) (kept : Wanted r) (fit : fits by_message (capacity r) (pooled r) (p ∷ []) ≡ true)
    (some : receivers p ≡ 0 → ⊥) where
  pub posting_gone : stored r p.number 0 ≡ None
  posting_gone =
      none_of (stored r p.number 0)
      (kept_under r p.number kept ∙ not_from_true _ (eq-eqb _ 0 (one_fresh by_message refl (capacity r) (pooled r) p fit some)))

  pub posting_spare : spare r p.number 0 ≡ true
  posting_spare =
      and_from _ _ (not_from_false _ (ap is_some posting_gone))
      (lt-ltb _ _ (⊎_elim (λ z. absurd (some z)) (λ z. omega (arith, messages_copies r whole kept, one_load by_message refl (capacity r) (pooled r) p fit)) (cases_eq (receivers p) 0)))

pub pooled_none : {X : Type 0} (r : Rack (Shared X)) → stored r ≡ nothing → pooled r ≡ nothing
unfolding pooled
pooled_none r e = ap (λ w n q. opened (w n 0) q) e
