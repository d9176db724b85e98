-- The stations of a new run, as memory has them.
use Rattle.std.proofs.Common.{◌≡◌, ℕ, zero, suc, ◌-◌, ◌≤◌, min, Bool, true, false, cond, ltb, List, ◌∷◌, ◌++◌, length, map, take, get_or, replicate, refl, ap, ap₂, sym, ◌∙◌, arith, length-append}
use Rattle.std.proofs.Math.Seq.{take-append_seam}
use Rattle.std.proofs.lemmas.Bool.Decides.{nat_tests}
use Rattle.std.proofs.lemmas.List.{map-append, length-replicate}
use mathlib.Core.Path.{fun_ext}
use Rattle.stations.specs.Members.{member}
use Rattle.stations.specs.declared.Stations.{Stations}
use Rattle.network.specs.declared.station.Station.{Station}
use Rattle.network.specs.Keeping.{is_present, active, unused_station, founder}
use Rattle.network.specs.Knowing.{Set, most_stations}
use Rattle.network.specs.Shown.{shown}
use Rattle.engine.specs.Memories.{stations_of}

read_rest : {A : Type 0} (m : ℕ) (b : A) (p : ℕ) → get_or (replicate m b) p b ≡ b
read_rest zero b p = refl
read_rest (suc m) b zero = refl
read_rest (suc m) b (suc p) = read_rest m b p

read_both : {A : Type 0} (k m : ℕ) (a b : A) (p : ℕ) → get_or (replicate k a ++ replicate m b) p b ≡ cond (ltb p k) a b
read_both zero m a b p = let past : false ≡ ltb p 0 = grind (arith, nat_tests) in read_rest m b p ∙ ap (λ (c : Bool). cond c a b) past
read_both (suc k) m a b zero = let within : true ≡ ltb 0 (suc k) = grind (arith, nat_tests) in ap (λ (c : Bool). cond c a b) within
read_both (suc k) m a b (suc p) = let same : ltb p k ≡ ltb (suc p) (suc k) = grind (arith, nat_tests) in read_both k m a b p ∙ ap (λ (c : Bool). cond c a b) same

front : {A : Type 0} (t : ℕ) (xs rest : List A) → length xs ≡ t → take t (xs ++ rest) ≡ xs
front t xs rest e = ap (λ (n : ℕ). take n (xs ++ rest)) (sym e) ∙ take-append_seam xs rest

map_same : {A B : Type 0} (f : A → B) (n : ℕ) (a : A) → map f (replicate n a) ≡ replicate n (f a)
map_same f zero a = refl
map_same f (suc n) a = ap (λ ys. f a ∷ ys) (map_same f n a)

module _ {R : Type 0} (first : R) (k : ℕ) (few : k ≤ most_stations) where
  -- a station of a new run, by whether it is present
  abbrev station_if : Bool → Station R Set
  station_if here = cond here (founder first k) (unused_station first)

  here_life : (b : Bool) → is_present (station_if b).life ≡ b
  here_life true = refl
  here_life false = refl

  here_active : (b : Bool) → active (station_if b) ≡ b
  here_active true = refl
  here_active false = refl

  module _ (f x : Station R Stations) (made : shown f ≡ founder first (min k most_stations)) (unused : shown x ≡ unused_station first) where
    within : min k most_stations ≡ k
    within = omega arith

    module _ (t : ℕ) (xs rest : List (Station R Stations)) (settled : xs ≡ replicate k f ++ replicate (t - k) x) (holds : k ≤ t) where
      long : length xs ≡ t
      long = ap length settled ∙ length-append (replicate k f) (replicate (t - k) x) ∙ omega (arith, length-replicate k f, length-replicate (t - k) x)

      pub new_long : t ≤ length (xs ++ rest)
      new_long = omega (arith, long, length-append xs rest)

      shown_both : map shown xs ≡ replicate k (founder first k) ++ replicate (t - k) (unused_station first)
      shown_both =
          ap (map shown) settled ∙ map-append shown (replicate k f) (replicate (t - k) x)
          ∙ ap₂ (λ ys zs. ys ++ zs) (map_same shown k f ∙ ap (replicate k) (made ∙ ap (founder first) within)) (map_same shown (t - k) x ∙ ap (replicate (t - k)) unused)

      pub new_stations : stations_of first (take t (xs ++ rest)) ≡ (λ p. station_if (ltb p k))
      new_stations =
          fun_ext (λ p.
          ap (λ ys. get_or (map shown ys) p (unused_station first)) (front t xs rest long)
          ∙ ap (λ ys. get_or ys p (unused_station first)) shown_both
          ∙ read_both k (t - k) (founder first k) (unused_station first) p)

      known : (p : ℕ) → member f.known.entered p ≡ ltb p k
      known p = ap (λ y. y.known.entered p) made ∙ ap (ltb p) within

      pub new_present : (p : ℕ) → member f.known.entered p ≡ is_present (stations_of first (take t (xs ++ rest)) p).life
      new_present p = known p ∙ sym (here_life (ltb p k)) ∙ sym (ap (λ s. is_present (s p).life) new_stations)

      pub new_active : (p : ℕ) → member f.known.entered p ≡ active (stations_of first (take t (xs ++ rest)) p)
      new_active p = known p ∙ sym (here_active (ltb p k)) ∙ sym (ap (λ s. active (s p)) new_stations)
