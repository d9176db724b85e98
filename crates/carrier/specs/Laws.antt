-- What every room rule keeps to.
use Rattle.std.specs.Prelude.{◌≡◌, Bool, true, List, [], ◌∷◌}
use Rattle.carrier.specs.Waits.{Waits, Within, nothing, posted}
use Rattle.carrier.specs.Counts.{StepSized, fresh, heard}
use Rattle.carrier.specs.declared.message.Held.{Held}
use Rattle.carrier.specs.declared.message.Post.{Post}

-- a room rule: whether messages fit beside what waits
abbrev pub Room : Type 0 → Type 0
Room X = Waits (Held X) → List (Post X) → Bool

pub record Laws {S X : Type 0} (waits : S → Waits (Held X)) (room : S → Room X) (ample : S → Type 0) : Type 0 where
  -- empty, it has room for a single step's messages, if enough memory was lent
  pub starts : (s : S) (ps : List (Post X)) → ample s → StepSized ps → room s nothing ps ≡ true
  -- removing copies never loses room
  pub shrinks : (s : S) (v w : Waits (Held X)) (ps : List (Post X)) → Within v w → room s w ps ≡ true → room s v ps ≡ true
  -- messages that fit together fit posted one by one
  pub splits : (s : S) (w : Waits (Held X)) (p : Post X) (ps : List (Post X)) → room s w (p ∷ ps) ≡ true
      → (room s w (p ∷ []) ≡ true) × (room s (posted p w) ps ≡ true)
  -- a number that waits or is given twice never fits
  pub own_numbers : (s : S) (w : Waits (Held X)) (ps : List (Post X)) → room s w ps ≡ true → fresh w ps ≡ true
  -- messages without a receiver do not count
  pub unheard : (s : S) (w : Waits (Held X)) (ps : List (Post X)) → room s w ps ≡ room s w (heard ps)
  -- where nothing is to be posted there is room
  pub idle : (s : S) → room s (waits s) [] ≡ true
