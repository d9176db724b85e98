use Rattle.std.proofs.Common.{◌≡◌, ℕ, ◌+◌, Bool, true, cond, eqb, ltb, ap, ◌∙◌, arith}
use mathlib.Core.Path.{fun_ext}
use Rattle.std.proofs.lemmas.Bool.Decides.{nat_tests}
use Rattle.stations.specs.Members.{put}
use Rattle.network.proofs.lives.first_stations.Goals as goal

-- the numbers below n, and n
below_more : (n : ℕ) → put (λ q. ltb q n) n true ≡ (λ q. ltb q (n + 1))
unfolding put
below_more n = fun_ext (λ q. one q) where
  one : (q : ℕ) → cond (eqb q n) true (ltb q n) ≡ ltb q (n + 1)
  one q = grind (arith, nat_tests)

pub loop-p-preserved : goal.loop-p-preserved
loop-p-preserved c = c.insert.ensures ∙ ap (λ (f : ℕ → Bool). put f c.loop-p.p true) c.loop-p.invariant ∙ below_more c.loop-p.p
