-- The earliest tick sent of the kept messages is the earliest that waits.
use Rattle.std.proofs.Common.{◌≡◌, ℕ, zero, suc, ◌^◌, ◌<◌, Bool, true, false, is_some, Some, None, Option, sym, refl, ap, ◌∙◌, ⊎_elim, arith}
use mathlib.Core.Path.{fun_ext}
use Rattle.std.proofs.lemmas.Bool.{ltb-true, cond-true, cond-false, cases_Bool}
use Rattle.stations.specs.Members.{member, how_many}
use Rattle.carrier.specs.Counts.{least, when, earliest}
use Rattle.carrier.proofs.Copies.{none_of}
use Rattle.carrier.proofs.Earliest.{Above, Least, least_is}
use Rattle.carrier.specs.declared.message.Held.{Held}
use Rattle.rack.specs.Racks.{stored}
use Rattle.rack.specs.declared.rack.Rack.{Rack}
use Rattle.pool.specs.declared.shared.Shared.{Shared}
use Rattle.pool.specs.Pooled.{opened, waiters, wanted}
use Rattle.pool.specs.Meaning.{pooled, Whole, Wanted}

-- one that passes, where some are counted
someone : (f : ℕ → Bool) (n : ℕ) → 0 < how_many f n → (k : ℕ) × (k < n) × (f k ≡ true)
unfolding how_many
someone f zero h = absurd (omega arith)
someone f (suc n) h =
    ⊎_elim
    (λ t. (n, omega arith, t))
    (λ t. let k = someone f n (omega (arith, cond-false {A = ℕ} (f n) 1 0 t)) in (k.0, omega (arith, k.1), k.2))
    (cases_Bool (f n))

-- only the first place has a value
first_row : {X : Type 0} (w : ℕ → Option (Held X)) → ((q : ℕ) → is_some (w (suc q)) ≡ false) → when (w 0) ≡ least (λ q. when (w q)) 256
first_row w none = least_is _ 256 (when (w 0)) (by (w 0) refl) where
  rest : (q : ℕ) → when (w (suc q)) ≡ None
  rest q = ap when (none_of (w (suc q)) (none q))

  by : {X : Type 0} (o : Option (Held X)) → when (w 0) ≡ when o → Least (λ q. when (w q)) 256 (when o)
  by None e = λ k l. at k where
    at : (k : ℕ) → when (w k) ≡ None
    at zero = e
    at (suc q) = rest q
  by (Some h) e = ((0, omega arith, e), λ k l. at k) where
    at : (k : ℕ) → Above h.sent (when (w k))
    at zero = rw e (omega arith)
    at (suc q) = rw (rest q) tt

-- a kept message has its tick for each receiver
shared_row : {X : Type 0} (o : Option (Held (Shared X))) → wanted o ≡ true → when o ≡ least (λ q. when (opened o q)) 256
shared_row None w = least_is _ 256 None (λ k l. refl)
shared_row (Some h) w =
    let k = someone (member h.content.to) 256 (ltb-true 0 (waiters h.content) w) in
    least_is (λ q. when (opened (Some h) q)) 256 (Some h.sent) (
      (k.0, k.1, ap when (cond-true _ _ _ k.2)),
      λ q l. ⊎_elim
          (λ t. rw t (omega arith))
          (λ t. rw t tt)
          (cases_Bool (member h.content.to q)),
    )

pub earliest_pooled : {X : Type 0} (r : Rack (Shared X)) → Whole r → Wanted r → earliest (stored r) ≡ earliest (pooled r)
unfolding earliest pooled
earliest_pooled r whole kept =
    ap (λ f. least f (2 ^ 32)) (fun_ext (λ n. sym (first_row (stored r n) (whole n)) ∙ shared_row (stored r n 0) (kept n)))
