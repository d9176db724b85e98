-- As many messages wait in a pool as it keeps records.
use Rattle.std.specs.Prelude.{◌≡◌, ℕ, zero, suc, ◌^◌, ◌≤◌, min, Bool, true, false, cond, is_some, Some, None, Option, refl}
use Rattle.std.proofs.Math.Path.{sym}
use Rattle.std.proofs.Common.{◌∙◌, arith}
use Rattle.std.proofs.lemmas.Bool.{ltb-true, cond-false}
use Rattle.stations.specs.Members.{member, how_many}
use Rattle.stations.proofs.Counting.{how_many_same, how_many_none}
use Rattle.carrier.specs.Counts.{under, load, by_copy, by_message, copies, messages}
use Rattle.carrier.proofs.Sums.{total_same}
use Rattle.carrier.specs.declared.message.Held.{Held}
use Rattle.rack.specs.Racks.{stored, capacity}
use Rattle.rack.specs.declared.rack.Rack.{Rack}
use Rattle.rack.proofs.Numbers.{stored_bound}
use Rattle.pool.specs.declared.shared.Shared.{Shared}
use Rattle.pool.specs.Pooled.{copy_of, opened, waiters, wanted}
use Rattle.pool.specs.Meaning.{pooled, Whole, Wanted}

-- where only the first number can pass
how_many_first : (f : ℕ → Bool) (m : ℕ) → ((q : ℕ) → f (suc q) ≡ false) → how_many f (suc m) ≡ cond (f 0) 1 0
unfolding how_many
how_many_first f zero h = omega arith
how_many_first f (suc m) h = omega (arith, how_many_first f m h, cond-false {A = ℕ} (f (suc m)) 1 0 (h m))

some_copy : {X : Type 0} (b : Bool) (h : Held X) → is_some (cond b (Some h) None) ≡ b
some_copy true h = refl
some_copy false h = refl

pub opened_count : {X : Type 0} (h : Held (Shared X)) → how_many (λ q. is_some (opened (Some h) q)) 256 ≡ waiters h.content
opened_count h = how_many_same _ (member h.content.to) 256 (λ q l. some_copy (member h.content.to q) (copy_of h))

-- a message costs one record, by whether it is kept
pub opened_cost : {X : Type 0} (o : Option (Held (Shared X))) → wanted o ≡ true → min (how_many (λ q. is_some (opened o q)) 256) 1 ≡ cond (is_some o) 1 0
opened_cost {X} None w = let z = how_many_none (λ q. is_some (opened {X = X} None q)) 256 (λ q l. refl) in omega (arith, z)
opened_cost (Some h) w = omega (arith, opened_count h, ltb-true 0 (waiters h.content) w)

module _ {X : Type 0} (r : Rack (Shared X)) (whole : Whole r) (kept : Wanted r) where
  row : (n : ℕ) → by_message (under (pooled r) n) ≡ by_copy (under (stored r) n)
  unfolding under pooled
  row n = opened_cost (stored r n 0) (kept n) ∙ sym (how_many_first (λ q. is_some (stored r n q)) 255 (whole n))

  pub messages_copies : messages (pooled r) ≡ copies (stored r)
  unfolding load
  messages_copies = total_same _ _ (2 ^ 32) (λ n l. row n)

pub pooled_bound : {X : Type 0} (r : Rack (Shared X)) → Whole r → Wanted r → messages (pooled r) ≤ capacity r
pooled_bound r whole kept = omega (arith, messages_copies r whole kept, stored_bound r)
