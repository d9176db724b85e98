-- A record put between others or in the place of one, and the records in front of it and behind.
use Rattle.std.proofs.Common.{◌≡◌, ℕ, ◌+◌, ◌-◌, ◌<◌, ◌≤◌, List, [], ◌∷◌, ◌++◌, length, get_or, take, drop, set, sym, ap, ◌∙◌, arith}
use Rattle.std.proofs.lemmas.List.{length-append, length-take-le, length-drop, take_at, take-take, take_all, drop_all, drop-take, drop_more, set_at, append-nil}

module _ {X : Type 0} where
  -- the part from a place to the end
  pub part_from : (xs : List X) (i : ℕ) → take (length xs - i) (drop i xs) ≡ drop i xs
  part_from xs i = take_all (length xs - i) (drop i xs) (omega (arith, length-drop i xs))

  -- a part turned by one, with its first place written
  turned : (ls ps qs : List X) (i : ℕ) (z : X) → length ls ≡ i → 0 < length ps
      → set (ls ++ ((drop (length ps - 1) ps ++ take (length ps - 1) ps) ++ qs)) i z ≡ ls ++ z ∷ (take (length ps - 1) ps ++ qs)
  turned ls ps qs i z l h =
      let n = length ps - 1 in
      let last : drop n ps ≡ get_or ps n z ∷ [] = drop_more ps n z (omega arith) ∙ ap (λ w. get_or ps n z ∷ w) (drop_all (n + 1) ps (omega arith)) in
      ap (λ w. set (ls ++ ((w ++ take n ps) ++ qs)) i z) last ∙ set_at ls (get_or ps n z) (take n ps ++ qs) z i l

  -- a record put at a place: those from there on move up by one, and the last falls out
  pub put_between : (xs rs : List X) (i : ℕ) (z : X) → i < length xs
      → rs ≡ drop (length (take (length xs - i) (drop i xs)) - 1) (take (length xs - i) (drop i xs)) ++ take (length (take (length xs - i) (drop i xs)) - 1) (take (length xs - i) (drop i xs))
      → set (take i xs ++ (rs ++ drop (length xs - i) (drop i xs))) i z ≡ take i xs ++ z ∷ drop i (take (length xs - 1) xs)
  put_between xs rs i z h e =
      let ps : List X = take (length xs - i) (drop i xs) in
      let long : length ps ≡ length xs - i = length-take-le _ _ (omega (arith, length-drop i xs)) in
      let rest : drop i (take (length xs - 1) xs) ≡ take (length ps - 1) ps =
      ap (λ (n : ℕ). drop i (take n xs)) (omega (arith, long)) ∙ drop-take i (length ps - 1) xs ∙ ap (take (length ps - 1)) (sym (part_from xs i)) in
      ap (λ w. set (take i xs ++ (w ++ drop (length xs - i) (drop i xs))) i z) e
      ∙ turned (take i xs) ps _ i z (length-take-le i xs (omega arith)) (omega (arith, long))
      ∙ ap (λ w. take i xs ++ z ∷ (take (length ps - 1) ps ++ w)) (drop_all _ (drop i xs) (omega (arith, length-drop i xs)))
      ∙ ap (λ w. take i xs ++ z ∷ w) (append-nil _ ∙ sym rest)

  -- the same among the first n of more records
  pub put_in_front : (xs ys : List X) (n i : ℕ) (z : X) → n < length xs → i ≤ n
      → ys ≡ take i (take (n + 1) xs) ++ z ∷ drop i (take (length (take (n + 1) xs) - 1) (take (n + 1) xs))
      → take (n + 1) (ys ++ drop (n + 1) xs) ≡ take i (take n xs) ++ z ∷ drop i (take n xs)
  put_in_front xs ys n i z h l e =
      let long : length (take (n + 1) xs) ≡ n + 1 = length-take-le (n + 1) xs (omega arith) in
      let some : length (take n xs) ≡ n = length-take-le n xs (omega arith) in
      let low : take i (take (n + 1) xs) ≡ take i (take n xs) = take-take i (n + 1) xs (omega arith) ∙ sym (take-take i n xs l) in
      let high : take (length (take (n + 1) xs) - 1) (take (n + 1) xs) ≡ take n xs =
      ap (λ (m : ℕ). take m (take (n + 1) xs)) (omega (arith, long)) ∙ take-take n (n + 1) xs (omega arith) in
      let is : ys ≡ take i (take n xs) ++ z ∷ drop i (take n xs) =
      e ∙ ap (λ w. w ++ z ∷ drop i (take (length (take (n + 1) xs) - 1) (take (n + 1) xs))) low ∙ ap (λ w. take i (take n xs) ++ z ∷ drop i w) high in
      take_at ys _ (n + 1) (ap length is ∙ length-append (take i (take n xs)) _ ∙ omega (arith, length-take-le i (take n xs) (omega (arith, some)), length-drop i (take n xs), some)) ∙ is

  -- as many records, with those in front written
  pub length_with : (xs ys : List X) (n : ℕ) → n ≤ length xs → length ys ≡ length (take n xs) → length (ys ++ drop n xs) ≡ length xs
  length_with xs ys n h l = omega (arith, length-append ys (drop n xs), length-drop n xs, l, length-take-le n xs h)

  -- those in front, written
  pub in_front : (ys zs : List X) (n : ℕ) → length ys ≡ n → take n (ys ++ zs) ≡ ys
  in_front ys zs n l = take_at ys zs n l
