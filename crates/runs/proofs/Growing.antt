-- What never goes back at one station, all at once: from its entry on, it only ever learns, joins, leaves, crashes and takes higher stamps.
-- Rests on the order of stamps and on what a station becomes on hearing a message.
use Rattle.std.proofs.Common.{◌≡◌, ℕ, ◌≤◌, Bool, true, false, Some, refl, ap, ◌∙◌, le_trans, le_refl, arith}
use Rattle.std.proofs.lemmas.Bool.Decides.{nat_tests}
use Rattle.settings.specs.declared.choice.Choice.{Choice}
use Rattle.stations.specs.Members.{put}
use Rattle.network.specs.declared.content.Content.{Content}
use Rattle.network.specs.declared.operation.Operation.{Operation}
use Rattle.network.specs.declared.operation.Task.{Task}
use Rattle.network.specs.declared.station.Life.{Life}
use Rattle.network.specs.declared.station.Life.TheVariants.{Unused, Present, Left}
use Rattle.network.specs.declared.station.Station.{Station}
use Rattle.network.specs.Changes.{begin}
use Rattle.network.specs.Hearing.{hear}
use Rattle.network.specs.Keeping.{is_used, is_present, tag_of, with_life, with_crashed, with_operation, unused_station, newcomer}
use Rattle.network.specs.Knowing.{Set}
use Rattle.runs.proofs.Stamps.{UpTo, up_to_itself, up_to_trans, up_to_next, newer_held}

abbrev pub has_left : Life → Bool
has_left Unused = false
has_left Present = false
has_left Left = true

-- who was used and is not present has left
pub gone_left : (l : Life) → is_used l ≡ true → is_present l ≡ false → has_left l ≡ true
gone_left l a b = grind arith

pub left_gone : (l : Life) → has_left l ≡ true → is_present l ≡ false
left_gone l a = grind arith

pub left_used : (l : Life) → has_left l ≡ true → is_used l ≡ true
left_used l a = grind arith

pub present_used : (l : Life) → is_present l ≡ true → is_used l ≡ true
present_used l a = grind arith

module _ {R : Type 0} where
  -- another life, and another word on crashes
  abbrev pub with_both : Life → Bool → Station R Set → Station R Set
  with_both l c x = record { life = l; crashed = c; joined = x.joined; known = x.known; register = x.register; echoes = x.echoes; bound = x.bound; operation = x.operation }

  -- the station x may become y
  pub record Grown (x y : Station R Set) : Type 0 where
    pub used : is_used x.life ≡ true → is_used y.life ≡ true
    pub left : has_left x.life ≡ true → has_left y.life ≡ true
    pub crashed : x.crashed ≡ true → y.crashed ≡ true
    pub joined : x.joined ≡ true → y.joined ≡ true
    pub knows_entered : (r : ℕ) → x.known.entered r ≡ true → y.known.entered r ≡ true
    pub knows_joined : (r : ℕ) → x.known.joined r ≡ true → y.known.joined r ≡ true
    pub knows_left : (r : ℕ) → x.known.left r ≡ true → y.known.left r ≡ true
    pub stamp : UpTo x.register.stamp y.register.stamp
    pub tag : tag_of x.operation ≤ tag_of y.operation
    pub echoes : x.echoes ≤ y.echoes
    pub bound : (b : ℕ) → x.bound ≡ Some b → y.bound ≡ Some b

  -- life, crashes and the operation may change, and nothing else does
  grown_outside : (x : Station R Set) (l : Life) (c : Bool) (o : Operation R) → (is_used x.life ≡ true → is_used l ≡ true) → (has_left x.life ≡ true → has_left l ≡ true)
      → (x.crashed ≡ true → c ≡ true) → tag_of x.operation ≤ tag_of o → Grown x (with_operation o (with_both l c x))
  grown_outside x l c o a b d t =
      record {
        used = a;
        left = b;
        crashed = d;
        joined = λ h. h;
        knows_entered = λ r h. h;
        knows_joined = λ r h. h;
        knows_left = λ r h. h;
        stamp = up_to_itself _;
        tag = t;
        echoes = le_refl _;
        bound = λ b h. h;
      }

  pub grown_not : (x : Station R Set) → Grown x x
  grown_not x = grown_outside x x.life x.crashed x.operation (λ h. h) (λ h. h) (λ h. h) (le_refl _)

  pub grown_begun : (t : Task R) (x : Station R Set) → Grown x (begin t x)
  grown_begun t x = grown_outside x x.life x.crashed (begin t x).operation (λ h. h) (λ h. h) (λ h. h) (omega arith)

  pub grown_left : (x : Station R Set) → Grown x (with_life Left x)
  grown_left x = grown_outside x Left x.crashed x.operation (λ h. refl) (λ h. refl) (λ h. h) (le_refl _)

  pub grown_crashed : (x : Station R Set) → Grown x (with_crashed x)
  grown_crashed x = grown_outside x x.life true x.operation (λ h. h) (λ h. h) (λ h. refl) (le_refl _)

  pub grown_twice : (x y w : Station R Set) → Grown x y → Grown y w → Grown x w
  grown_twice x y w f g =
      record {
        used = λ h. g.used (f.used h);
        left = λ h. g.left (f.left h);
        crashed = λ h. g.crashed (f.crashed h);
        joined = λ h. g.joined (f.joined h);
        knows_entered = λ r h. g.knows_entered r (f.knows_entered r h);
        knows_joined = λ r h. g.knows_joined r (f.knows_joined r h);
        knows_left = λ r h. g.knows_left r (f.knows_left r h);
        stamp = up_to_trans _ _ _ f.stamp g.stamp;
        tag = le_trans f.tag g.tag;
        echoes = le_trans f.echoes g.echoes;
        bound = λ b h. g.bound b (f.bound b h);
      }

  -- hearing changes neither life nor crashes
  pub hear_life : (c : Choice) (q : ℕ) (m : Content R Set) (x : Station R Set) → (hear c q m x).life ≡ x.life
  unfolding hear
  hear_life c q m x = grind arith

  pub hear_crashed : (c : Choice) (q : ℕ) (m : Content R Set) (x : Station R Set) → (hear c q m x).crashed ≡ x.crashed
  unfolding hear
  hear_crashed c q m x = grind arith

  pub hear_tag : (c : Choice) (q : ℕ) (m : Content R Set) (x : Station R Set) → tag_of (hear c q m x).operation ≡ tag_of x.operation
  unfolding hear
  hear_tag c q m x = grind (arith, nat_tests)

  hear_joined : (c : Choice) (q : ℕ) (m : Content R Set) (x : Station R Set) → x.joined ≡ true → (hear c q m x).joined ≡ true
  unfolding hear
  hear_joined c q m x h = grind arith

  hear_entered : (c : Choice) (q : ℕ) (m : Content R Set) (x : Station R Set) (r : ℕ) → x.known.entered r ≡ true → (hear c q m x).known.entered r ≡ true
  unfolding hear put
  hear_entered c q m x r h = grind (arith, nat_tests)

  hear_knows_joined : (c : Choice) (q : ℕ) (m : Content R Set) (x : Station R Set) (r : ℕ) → x.known.joined r ≡ true → (hear c q m x).known.joined r ≡ true
  unfolding hear put
  hear_knows_joined c q m x r h = grind (arith, nat_tests)

  hear_knows_left : (c : Choice) (q : ℕ) (m : Content R Set) (x : Station R Set) (r : ℕ) → x.known.left r ≡ true → (hear c q m x).known.left r ≡ true
  unfolding hear put
  hear_knows_left c q m x r h = grind (arith, nat_tests)

  hear_stamp : (c : Choice) (q : ℕ) (m : Content R Set) (x : Station R Set) → UpTo x.register.stamp (hear c q m x).register.stamp
  unfolding hear
  hear_stamp c q m x = grind (arith, up_to_itself, newer_held, up_to_next)

  hear_echoes : (c : Choice) (q : ℕ) (m : Content R Set) (x : Station R Set) → x.echoes ≤ (hear c q m x).echoes
  unfolding hear
  hear_echoes c q m x = grind arith

  hear_bound : (c : Choice) (q : ℕ) (m : Content R Set) (x : Station R Set) (b : ℕ) → x.bound ≡ Some b → (hear c q m x).bound ≡ Some b
  unfolding hear
  hear_bound c q m x b h = grind arith

  pub grown_heard : (c : Choice) (q : ℕ) (m : Content R Set) (x : Station R Set) → Grown x (hear c q m x)
  grown_heard c q m x =
      record {
        used = λ h. ap is_used (hear_life c q m x) ∙ h;
        left = λ h. ap has_left (hear_life c q m x) ∙ h;
        crashed = λ h. hear_crashed c q m x ∙ h;
        joined = hear_joined c q m x;
        knows_entered = hear_entered c q m x;
        knows_joined = hear_knows_joined c q m x;
        knows_left = hear_knows_left c q m x;
        stamp = hear_stamp c q m x;
        tag = omega (arith, hear_tag c q m x);
        echoes = hear_echoes c q m x;
        bound = hear_bound c q m x;
      }

  -- a number that was not used has nothing to lose
  pub grown_entered : (first : R) (p : ℕ) → Grown (unused_station first) (newcomer first p)
  grown_entered first p =
      record {
        used = λ h. refl;
        left = λ h. absurd (let z : ◌≡◌ {A = ℕ} 0 1 = cc in omega arith);
        crashed = λ h. h;
        joined = λ h. h;
        knows_entered = λ r h. absurd (let z : ◌≡◌ {A = ℕ} 0 1 = cc in omega arith);
        knows_joined = λ r h. h;
        knows_left = λ r h. h;
        stamp = up_to_itself _;
        tag = le_refl _;
        echoes = le_refl _;
        bound = λ b h. h;
      }
