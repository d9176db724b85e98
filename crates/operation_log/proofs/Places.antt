-- Lists and functions at one place: what stands there, read or changed.
use Rattle.std.proofs.Common.{◌≡◌, ℕ, zero, suc, ◌<◌, List, [], ◌∷◌, length, set, slice_get, replicate, Some, None, refl, ap, arith}
use Rattle.std.proofs.lemmas.Grind.{common_steps}
use Rattle.std.proofs.lemmas.List.{get_or_past}
use mathlib.Core.Path.{fun_ext}
use Rattle.std.proofs.lemmas.Bool.Decides.{nat_tests}
use Rattle.stations.specs.Members.{put}
use Rattle.operation_log.specs.Entries.{latest_of}
use Rattle.network.specs.Logs.{changed_at}

module _ {A : Type 0} where
  -- where there is nothing, nothing changes
  pub changed_none : (f : A → A) (es : List A) (i : ℕ) → slice_get es i ≡ None → changed_at i f es ≡ es
  unfolding changed_at
  changed_none f [] i h = refl
  changed_none f (e ∷ es) zero h = cc
  changed_none f (e ∷ es) (suc i) h = ap (λ l. e ∷ l) (changed_none f es i h)

  -- a change is a write of what was read, changed
  pub changed_some : (f : A → A) (es : List A) (i : ℕ) (e : A) → slice_get es i ≡ Some e → changed_at i f es ≡ set es i (f e)
  unfolding changed_at
  changed_some f [] i e h = refl
  changed_some f (x ∷ es) zero e h = let same : x ≡ e = cc in ap (λ y. f y ∷ es) same
  changed_some f (x ∷ es) (suc i) e h = ap (λ l. x ∷ l) (changed_some f es i e h)

-- no station has a latest entry
pub none_latest : (n : ℕ) → latest_of (replicate n 0) ≡ (λ p. 0)
none_latest n = fun_ext (λ p. grind (arith, common_steps, nat_tests, get_or_past))

-- another latest entry of one station
pub put_latest : (l : List ℕ) (p v : ℕ) → p < length l → latest_of (set l p v) ≡ put (latest_of l) p v
unfolding put
put_latest l p v h = fun_ext (λ q. grind (arith, common_steps, nat_tests))
