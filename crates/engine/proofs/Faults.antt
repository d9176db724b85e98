-- Tests in order: what the first that fails comes to.
use Rattle.std.proofs.Common.{◌≡◌, Bool, true, false, List, [], ◌∷◌, Some, None, Ok, Err, refl, ap, sym, ◌∙◌}
use Rattle.network.specs.declared.fault.StepFault.{StepFault}
use Rattle.network.specs.Refusals.{Test, unless, first_of}
use Rattle.engine.specs.Memories.{passed, passed_with}

-- a test that fails is the first
pub fails_first : (t : Test) (ts : List Test) (f : StepFault) → Err f ≡ passed t → Err f ≡ passed (first_of (t ∷ ts))
unfolding first_of
fails_first None ts f h = cc
fails_first (Some g) ts f h = h

-- behind a test that is passed the others decide
pub passes_on : (t : Test) (ts : List Test) → Ok tt ≡ passed t → first_of (t ∷ ts) ≡ first_of ts
unfolding first_of
passes_on None ts h = refl
passes_on (Some g) ts h = cc

pub last_decides : (t : Test) → first_of (t ∷ []) ≡ t
unfolding first_of
last_decides None = refl
last_decides (Some f) = refl

-- three tests can be made ahead of the others
pub three_first : (a b c : Test) (ts : List Test) → first_of (a ∷ b ∷ c ∷ ts) ≡ first_of (first_of (a ∷ b ∷ c ∷ []) ∷ ts)
unfolding first_of
three_first None None None ts = refl
three_first None None (Some h) ts = refl
three_first None (Some g) c ts = refl
three_first (Some f) b c ts = refl

-- a fault is told in the same way whatever a test gives
pub fault_with : {A : Type 0} (x : A) (t : Test) (f : StepFault) → Err f ≡ passed t → Err f ≡ passed_with x t
fault_with x None f h = cc
fault_with x (Some g) f h = cc

pub fault_without : {A : Type 0} (x : A) (t : Test) (f : StepFault) → Err f ≡ passed_with x t → Err f ≡ passed t
fault_without x None f h = cc
fault_without x (Some g) f h = cc

pub passed_without : {A : Type 0} (x y : A) (t : Test) → Ok y ≡ passed_with x t → (Ok tt ≡ passed t) × (y ≡ x)
passed_without x y None h = (refl, cc)
passed_without x y (Some g) h = cc

-- what was told, as a test
pub is_fault : (t : Test) (f : StepFault) → Err f ≡ passed t → t ≡ Some f
is_fault None f h = cc
is_fault (Some g) f h = cc

pub is_none : (t : Test) → Ok tt ≡ passed t → t ≡ None
is_none None h = refl
is_none (Some g) h = cc

-- where no test fails, the first held, and the others did
pub held : (b : Bool) (f : StepFault) (ts : List Test) → first_of (unless b f ∷ ts) ≡ None → (b ≡ true) × (first_of ts ≡ None)
unfolding first_of
held true f ts e = (refl, e)
held false f ts e = cc

-- the second and the third of three tests, and all of them
pub second_told : (a b c : Test) (f : StepFault) → Ok tt ≡ passed a → Err f ≡ passed b → Err f ≡ passed (first_of (a ∷ b ∷ c ∷ []))
second_told a b c f h e = fails_first b (c ∷ []) f e ∙ ap passed (sym (passes_on a (b ∷ c ∷ []) h))

pub third_told : (a b c : Test) (f : StepFault) → Ok tt ≡ passed a → Ok tt ≡ passed b → Err f ≡ passed c → Err f ≡ passed (first_of (a ∷ b ∷ c ∷ []))
third_told a b c f h i e = fails_first c [] f e ∙ ap passed (sym (passes_on b (c ∷ []) i) ∙ sym (passes_on a (b ∷ c ∷ []) h))

pub three_passed : {A : Type 0} (x : A) (a b c : Test) → Ok tt ≡ passed a → Ok tt ≡ passed b → Ok tt ≡ passed c → Ok x ≡ passed_with x (first_of (a ∷ b ∷ c ∷ []))
three_passed x a b c h i j = sym (ap (passed_with x) (passes_on a (b ∷ c ∷ []) h ∙ passes_on b (c ∷ []) i ∙ last_decides c ∙ is_none c j))

pub test_held : (b : Bool) (f : StepFault) → Ok tt ≡ passed (unless b f) → b ≡ true
test_held true f h = refl
test_held false f h = cc
