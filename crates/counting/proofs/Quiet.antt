-- The limits of a run can be kept: by a network that nobody enters or leaves, and where nobody crashes.
-- It rests on counting alone.
use Rattle.std.proofs.Common.{◌≡◌, ℕ, zero, suc, true, false, refl, arith}
use Rattle.stations.specs.Members.{nobody, how_many}
use Rattle.stations.proofs.Counting.{how_many_none}
use Rattle.counting.specs.Census.{Census}
use Rattle.counting.specs.Limits.{LimitsCanBeKept}

-- n stations, all present
abbrev quiet : ℕ → Census
quiet n =
    record {
      table = n;
      used = λ a q. true;
      present = λ a q. true;
      crashed = λ a q. false;
      present_used = λ a q h. refl;
      used_on = λ a b q l h. refl;
      gone_on = λ a b q l h. h;
    }

-- all pass
how_many_all : (n : ℕ) → how_many (λ q. true) n ≡ n
unfolding how_many
how_many_all zero = refl
how_many_all (suc n) = omega (arith, how_many_all n)

none : (n : ℕ) → how_many nobody n ≡ 0
none n = how_many_none nobody n (λ q l. refl)

pub limits_can_be_kept : LimitsCanBeKept
limits_can_be_kept last c n l = (
  record {
    clock = λ b. b;
    mark = λ t. t;
    clock_start = refl;
    mark_start = refl;
    mark_behind = λ t b _ k. omega arith;
    mark_clock = λ t b _ k. omega arith;
    marks_rise = λ t u b _ k _. k;
  },
  quiet n,
  refl,
  record {
    churn = λ t b _. omega (arith, none n);
    enough = λ b _. omega (arith, how_many_all n);
    few_crashed = λ b _. omega (arith, none n);
  },
)
