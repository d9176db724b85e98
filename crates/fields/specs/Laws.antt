-- The laws of a number that stands as so many bytes: spelling and reading undo each other.
use Rattle.std.specs.Prelude.{◌≡◌, ℕ, ◌<◌, ◌≤◌, List, ◌++◌, length, take, drop}
use Rattle.std.specs.List.{AllByRecursion}

-- A number of n bytes: what a part says in front, how a number is spelled, and which numbers fit.
pub record FieldLaws {X : Type 0} (n : ℕ) (front : List ℕ → X) (spelled : X → List ℕ) (fits : X → Type 0) : Type 0 where
  -- no number takes more than eight bytes
  pub short : n ≤ 8
  -- what follows the first bytes does not count
  pub front_only : (bytes : List ℕ) → front (take n bytes) ≡ front bytes
  -- each number takes so many bytes, and they are bytes
  pub length_spelled : (x : X) → length (spelled x) ≡ n
  pub bytes_spelled : (x : X) → AllByRecursion (λ b. b < 256) (spelled x)
  -- bytes say a number that fits
  pub front_fits : (bytes : List ℕ) → AllByRecursion (λ b. b < 256) bytes → fits (front bytes)
  -- what was spelled is read back, whatever follows it
  pub read_back : (x : X) (more : List ℕ) → fits x → front (spelled x ++ more) ≡ x
  -- bytes are the spelling of the number in front, and what follows it
  pub one_spelling : (bytes : List ℕ) → AllByRecursion (λ b. b < 256) bytes → n ≤ length bytes → bytes ≡ spelled (front bytes) ++ drop n bytes
