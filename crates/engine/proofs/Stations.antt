-- Stations in memory, and the sets of those present and active that are kept beside them.
use Rattle.std.proofs.Common.{◌≡◌, ℕ, ◌<◌, ◌≤◌, Bool, true, false, cond, not, ◌&&◌, eqb, List, length, map, take, get_or, set, None, refl, ap, ap₂, ⊎_elim, ◌∙◌, sym, arith}
use Rattle.std.proofs.Math.Seq.{take-set-lt}
use Rattle.std.proofs.lemmas.List.{map-set, length-map, length-take-le}
use Rattle.std.proofs.lemmas.Bool.{cases_eq}
use Rattle.std.proofs.lemmas.Bool.Decides.{nat_tests}
use Rattle.std.proofs.lemmas.Grind.{common_steps}
use mathlib.Core.Path.{fun_ext}
use Rattle.stations.specs.Members.{put, only, how_many, nobody, set_of}
use Rattle.stations.specs.declared.Stations.{Stations}
use Rattle.network.specs.declared.station.Station.{Station}
use Rattle.network.specs.Keeping.{is_used, is_present, active, with_crashed, unused_station}
use Rattle.network.specs.Stamps.{first_register}
use Rattle.network.specs.declared.operation.Operation.TheVariants.{Idle}
use Rattle.network.specs.declared.station.Life.TheVariants.{Unused}
use Rattle.network.specs.Knowing.{Set, most_stations}
use Rattle.network.specs.Shown.{shown}
use Rattle.engine.specs.Memories.{stations_of, Turned}

module _ {A : Type 0} where
  -- a list with one element changed, read with a default
  read_set : (l : List A) (p : ℕ) (a d : A) → p < length l → (q : ℕ) → get_or (set l p a) q d ≡ put (λ q. get_or l q d) p a q
  unfolding put
  read_set l p a d h q = grind (arith, common_steps, nat_tests)

  read_shown : {B : Type 0} (f : A → B) (l : List A) (p : ℕ) (d : A) (e : B) → p < length l → get_or (map f l) p e ≡ f (get_or l p d)
  read_shown f l p d e h = grind (arith, common_steps)

  pub read_any : (l : List A) (p : ℕ) (d e : A) → p < length l → get_or l p d ≡ get_or l p e
  read_any l p d e h = grind (arith, common_steps)

  read_front : (t : ℕ) (l : List A) (p : ℕ) (d : A) → p < t → t ≤ length l → get_or (take t l) p d ≡ get_or l p d
  read_front t l p d low long = grind (arith, common_steps)

-- what holds of an element after a function has changed at one place
pub put_under : {A B : Type 0} (f : A → B) (s : ℕ → A) (q : ℕ) (a : A) (p : ℕ) → f (put s q a p) ≡ put (λ p. f (s p)) q (f a) p
unfolding put
put_under f s q a p = by_place (eqb p q) where
  by_place : (b : Bool) → f (cond b a (s p)) ≡ cond b (f a) (f (s p))
  by_place true = refl
  by_place false = refl

-- a place that is written as it was
pub put_same : {A : Type 0} (s : ℕ → A) (q p : ℕ) → put s q (s q) p ≡ s p
unfolding put
put_same s q p = ⊎_elim
    (λ e. ap (λ (b : Bool). cond b (s q) (s p)) (eqb-is p q e) ∙ ap s (sym e))
    (λ ne. ap (λ (b : Bool). cond b (s q) (s p)) (eqb-not p q ne))
    (cases_eq p q) where
      eqb-is : (p q : ℕ) → p ≡ q → eqb p q ≡ true
      eqb-is p q e = grind (arith, nat_tests)

      eqb-not : (p q : ℕ) → (p ≡ q → ⊥) → eqb p q ≡ false
      eqb-not p q ne = grind (arith, nat_tests)

-- a station of memory, whatever it holds
unused : {R : Type 0} → R → Station R Stations
unused first = record { life = Unused; crashed = false; joined = false; known = record { entered = set_of nobody; joined = set_of nobody; left = set_of nobody }; register = first_register first; echoes = 0; bound = None; operation = Idle 0 }

module _ {R : Type 0} (first : R) (t : ℕ) (xs : List (Station R Stations)) (p : ℕ) (low : p < t) (long : t ≤ length xs) where
  -- one station of the table, and the table with it changed
  pub station_shown : (d : Station R Stations) → stations_of first (take t xs) p ≡ shown (get_or xs p d)
  station_shown d = read_shown shown (take t xs) p d (unused_station first) (omega (arith, length-take-le t xs long)) ∙ ap shown (read_front t xs p d low long)

  pub unused_shown : (b : Bool) → ((d : Station R Stations) → b ≡ not (is_used (get_or xs p d).life)) → b ≡ not (is_used (stations_of first (take t xs) p).life)
  unused_shown b asked = asked (unused first) ∙ ap (λ x. not (is_used x.life)) (sym (station_shown (unused first)))

  pub put_station : (x : Station R Stations) → stations_of first (take t (set xs p x)) ≡ put (stations_of first (take t xs)) p (shown x)
  put_station x =
      fun_ext (λ q. ap (λ l. get_or (map shown l) q (unused_station first)) (take-set-lt t xs p x low)
      ∙ ap (λ l. get_or l q (unused_station first)) (map-set shown (take t xs) p x)
      ∙ read_set (map shown (take t xs)) p (shown x) (unused_station first) (omega (arith, length-map (take t xs) shown, length-take-le t xs long)) q)

  -- and the table with one station turned
  pub turned_table : (f : Station R Set → Station R Set) (ys : List (Station R Stations)) → Turned p f xs ys
      → stations_of first (take t ys) ≡ put (stations_of first (take t xs)) p (f (stations_of first (take t xs) p))
  turned_table f ys turned =
      ap (λ l. stations_of first (take t l)) turned.put ∙ put_station turned.to
      ∙ ap (put (stations_of first (take t xs)) p) (turned.shows turned.to ∙ ap f (sym (station_shown turned.to)))

-- a station that crashes stays present, and is no longer active
module _ {R : Type 0} (s : ℕ → Station R Set) (q p : ℕ) where
  pub crashed_present : is_present (put s q (with_crashed (s q)) p).life ≡ is_present (s p).life
  crashed_present = put_under (λ x. is_present x.life) s q (with_crashed (s q)) p ∙ put_same (λ p. is_present (s p).life) q p

  never : (b : Bool) → b && false ≡ false
  never true = refl
  never false = refl

  pub crashed_active : active (put s q (with_crashed (s q)) p) ≡ put (λ p. active (s p)) q false p
  crashed_active = put_under active s q (with_crashed (s q)) p ∙ ap (λ (b : Bool). put (λ p. active (s p)) q b p) (never (is_present (s q).life))

module _ {R : Type 0} (s : ℕ → Station R Set) (f g : Set) (present : (p : ℕ) → f p ≡ is_present (s p).life) (active : (p : ℕ) → g p ≡ active (s p)) where
  crashed_bit : (a b : Bool) → a && not (a && not b) ≡ a && b
  crashed_bit true true = refl
  crashed_bit true false = refl
  crashed_bit false b = refl

  crashed_one : (p : ℕ) → only f g p ≡ is_present (s p).life && (s p).crashed
  crashed_one p = ap₂ (λ (a b : Bool). a && not b) (present p) (active p) ∙ crashed_bit (is_present (s p).life) (s p).crashed

  -- those present and not active are crashed
  pub crashed_count : how_many (only f g) most_stations ≡ how_many (λ p. is_present (s p).life && (s p).crashed) most_stations
  crashed_count = ap (λ (f : Set). how_many f most_stations) (fun_ext crashed_one)

  pub present_count : how_many f most_stations ≡ how_many (λ p. is_present (s p).life) most_stations
  present_count = ap (λ (f : Set). how_many f most_stations) (fun_ext present)
