-- What the rule of leaving leaves.
use Rattle.std.proofs.Common.{◌≡◌, ℕ, Bool, true, false, cond, eqb, Some, None, Option, refl}
use mathlib.Core.Path.{fun_ext}
use Rattle.carrier.specs.Waits.{Waits, except}
use Rattle.carrier.specs.declared.message.Held.{Held}
use Rattle.rack.specs.Entries.{trimmed_held}

pub left_except : {X : Type 0} (s : ℕ) (w : Waits (Held X)) → (λ n q. trimmed_held (λ p v. cond (eqb p s) None (Some v)) q (w n q)) ≡ except s w
unfolding except
left_except s w = fun_ext (λ n. fun_ext (λ q. at_station (eqb q s) (w n q) q)) where
  at_station : {X : Type 0} (b : Bool) (o : Option (Held X)) (q : ℕ) → trimmed_held (λ (p : ℕ) v. cond b None (Some v)) q o ≡ cond b None o
  at_station true None q = refl
  at_station true (Some h) q = refl
  at_station false None q = refl
  at_station false (Some h) q = refl
