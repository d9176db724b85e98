-- Stamps are in a strict total order, taking an offer is a maximum in it, and a writer's next stamp is higher.
-- Of stamps later files use only this. Rests on the definitions alone.
use Rattle.std.proofs.Common.{◌≡◌, ℕ, Bool, true, false, cond, ◌⊎◌, Some, None, Option, refl, ap, ap₂, inl, inr, arith, ◌≤◌}
use Rattle.std.proofs.lemmas.Bool.Decides.{nat_tests}
use Rattle.network.specs.declared.register.Register.{Register}
use Rattle.network.specs.declared.stamp.Stamp.{Stamp}
use Rattle.network.specs.Stamps.{writer_rank, higher, first_stamp, next_stamp, newer}

-- the first stamp is not higher than the second
abbrev pub UpTo : Stamp → Stamp → Type 0
UpTo a b = higher a b ≡ false

pub up_to_itself : (a : Stamp) → UpTo a a
unfolding higher
up_to_itself a = grind (arith, nat_tests)

pub up_to_trans : (a b c : Stamp) → UpTo a b → UpTo b c → UpTo a c
unfolding higher
up_to_trans a b c f g = grind (arith, nat_tests)

pub higher_not_below : (a b : Stamp) → higher a b ≡ true → UpTo b a
unfolding higher
higher_not_below a b h = grind (arith, nat_tests)

pub higher_than_up_to : (a b c : Stamp) → higher a b ≡ true → UpTo a c → higher c b ≡ true
unfolding higher
higher_than_up_to a b c h g = grind (arith, nat_tests)

pub higher_from : (a b c : Stamp) → higher a b ≡ true → UpTo c b → higher a c ≡ true
unfolding higher
higher_from a b c h g = grind (arith, nat_tests)

same_writer : (v w : Option ℕ) → writer_rank v ≡ writer_rank w → v ≡ w
same_writer None None e = refl
same_writer None (Some q) e = absurd (omega arith)
same_writer (Some p) None e = absurd (omega arith)
same_writer (Some p) (Some q) e = ap Some (omega arith)

-- neither is higher: they are the same
pub neither_higher : (a b : Stamp) → UpTo a b → UpTo b a → a ≡ b
unfolding higher
neither_higher a b f g =
    let c : a.count ≡ b.count = grind (arith, nat_tests) in
    let r : writer_rank a.writer ≡ writer_rank b.writer = grind (arith, nat_tests) in
    ap₂ (λ (n : ℕ) (w : Option ℕ). record { count = n; writer = w }) c (same_writer a.writer b.writer r)

pub first_up_to : (a : Stamp) → UpTo first_stamp a
unfolding higher
first_up_to a = grind (arith, nat_tests)

pub next_higher : (p : ℕ) (a : Stamp) → higher (next_stamp p a) a ≡ true
unfolding higher
next_higher p a = grind (arith, nat_tests)

-- stamps made at two stations differ
pub next_made_by : (p q : ℕ) (a b : Stamp) → next_stamp p a ≡ next_stamp q b → p ≡ q
next_made_by p q a b e = let w : Some p ≡ Some q = ap (λ (s : Stamp). s.writer) e in cc

pub up_to_next : (p : ℕ) (a b : Stamp) → UpTo a b → UpTo a (next_stamp p b)
up_to_next p a b h = up_to_trans a b (next_stamp p b) h (higher_not_below _ _ (next_higher p b))

module _ {R : Type 0} (offer held : Register R) where
  -- what is held after an offer is one of the two
  pub newer_either : (newer offer held ≡ offer) ⊎ (newer offer held ≡ held)
  unfolding newer
  newer_either = by (higher offer.stamp held.stamp)
    where
      by : (b : Bool) → (cond b offer held ≡ offer) ⊎ (cond b offer held ≡ held)
      by true = inl refl
      by false = inr refl

  -- and is not below either
  pub newer_held : UpTo held.stamp (newer offer held).stamp
  unfolding newer
  newer_held = grind (arith, up_to_itself, higher_not_below offer.stamp held.stamp)

  pub newer_offer : UpTo offer.stamp (newer offer held).stamp
  unfolding newer
  newer_offer = grind (arith, up_to_itself)

-- stamps that are not higher have no higher count
pub count_up_to : (a b : Stamp) → UpTo a b → a.count ≤ b.count
unfolding higher
count_up_to a b h = grind (arith, nat_tests)
