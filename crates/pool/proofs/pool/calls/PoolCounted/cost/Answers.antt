use Rattle.std.proofs.Common.{◌≡◌, ℕ, zero, suc, min, Bool, not, cond, eqb, refl, ap, ◌∙◌, arith, rules}
use Rattle.std.proofs.lemmas.Bool.{ne_eqb}
use Rattle.carrier.specs.Counts.{receivers}
use Rattle.pool.proofs.pool.calls.PoolCounted.cost.Goals as goal

-- one record, where there is a receiver
one_if : (n : ℕ) → cond (not (eqb n 0)) 1 0 ≡ min n 1
one_if zero = refl
one_if (suc n) = rw (ne_eqb (suc n) 0 (λ z. omega (arith, z))) (omega arith)

pub returns-clause-value : goal.returns-clause-value
unfolding receivers
returns-clause-value g c =
    let made : c.from.result ≡ cond (not c.is_empty.result) 1 0 = search rules in
    made ∙ ap (λ (b : Bool). cond {A = ℕ} (not b) 1 0) c.is_empty.ensures ∙ one_if _
