-- The ring of rows: one row more, and the test that goes through it from the newest row on.
use Rattle.std.proofs.Common.{◌≡◌, ℕ, zero, suc, ◌+◌, ◌-◌, ◌*◌, ◌%◌, ◌<◌, ◌≤◌, min, Bool, true, false, ◌&&◌, ltb, leb, ◌≢◌, List, ◌∷◌, length, get_or, take, set, sym, refl, ap, ◌∙◌, ⊎_elim, mul-le-mul, arith, get_or-set_other, get_or-set_same}
use Rattle.std.proofs.lemmas.Bool.{cases_lt, lt-ltb}
use Rattle.std.proofs.lemmas.List.{take_all}
use Rattle.std.proofs.lemmas.Bool.Decides.{nat_tests}
use Rattle.book.specs.declared.book.TickRow.{TickRow}
use Rattle.network.specs.Books.{Row, Book, within_churn, allows}
use Rattle.book.specs.Rings.{row_of, no_row, ring, can_note}

-- the row at a place, round the ring
abbrev pub row_at : List TickRow → ℕ → Row
row_at rows p = row_of (get_or rows (p % 32) no_row)

module _ (rows : List TickRow) (a k : ℕ) where
  pub ring_step : (i : ℕ) → i < k → ring rows (a + i) (k - i) ≡ row_at rows (a + i) ∷ ring rows (a + (i + 1)) (k - (i + 1))
  unfolding ring
  ring_step i h =
      let n : k - i ≡ suc (k - (i + 1)) = omega arith in
      let p : (a + i) + 1 ≡ a + (i + 1) = omega arith in
      ap (ring rows (a + i)) n ∙ ap (λ (b : ℕ). row_at rows (a + i) ∷ ring rows b (k - (i + 1))) p

  fits : (x y : ℕ) (b : Bool) → x ≤ y → leb x y && b ≡ b
  fits x y b h = grind (arith, nat_tests)

  fails : (x y : ℕ) (b : Bool) → y < x → leb x y && b ≡ false
  fails x y b h = grind (arith, nat_tests)

  -- a row that allows n moves leaves the test to the older ones, with its own moves added
  pub churn_step : (alpha n i : ℕ) → i < k → 100 * n ≤ alpha * (row_at rows (a + i)).present
      → within_churn alpha n (ring rows (a + i) (k - i)) ≡ within_churn alpha (n + (row_at rows (a + i)).moves) (ring rows (a + (i + 1)) (k - (i + 1)))
  unfolding within_churn
  churn_step alpha n i h l = ap (within_churn alpha n) (ring_step i h) ∙ fits _ _ _ l

  pub churn_fails : (alpha n i : ℕ) → i < k → alpha * (row_at rows (a + i)).present < 100 * n → within_churn alpha n (ring rows (a + i) (k - i)) ≡ false
  unfolding within_churn
  churn_fails alpha n i h l = ap (within_churn alpha n) (ring_step i h) ∙ fails _ _ _ l

  pub churn_none : (alpha n i : ℕ) → k ≤ i → within_churn alpha n (ring rows (a + i) (k - i)) ≡ true
  unfolding within_churn ring
  churn_none alpha n i h = let z : k - i ≡ 0 = omega arith in ap (λ (j : ℕ). within_churn alpha n (ring rows (a + i) j)) z

-- an arrival or departure is never allowed in tick 0, and later where the rows allow it
pub refused : (clock : ℕ) (b : Bool) → b ≡ false → false ≡ ltb 0 clock && b
refused clock b e = grind (arith, nat_tests)

pub allowed : (clock : ℕ) (b : Bool) → clock ≢ 0 → b ≡ true → true ≡ ltb 0 clock && b
allowed clock b ne e = grind (arith, nat_tests)

-- rings that are alike place by place
ring_same : (rows others : List TickRow) (a b n : ℕ) → ((i : ℕ) → i < n → row_at rows (a + i) ≡ row_at others (b + i)) → ring rows a n ≡ ring others b n
unfolding ring
ring_same rows others a b zero h = refl
ring_same rows others a b (suc n) h =
    let x : a + 0 ≡ a = omega arith in
    let y : b + 0 ≡ b = omega arith in
    let head : row_at rows a ≡ row_at others b = ap (row_at rows) (sym x) ∙ h 0 (omega arith) ∙ ap (row_at others) y in
    let tail : ring rows (a + 1) n ≡ ring others (b + 1) n = ring_same rows others (a + 1) (b + 1) n (λ i l. next i l) in
    cc
  where
    next : (i : ℕ) → i < n → row_at rows ((a + 1) + i) ≡ row_at others ((b + 1) + i)
    next i l =
        let x : (a + 1) + i ≡ a + (i + 1) = omega arith in
        let y : (b + 1) + i ≡ b + (i + 1) = omega arith in
        ap (row_at rows) x ∙ h (i + 1) (omega arith) ∙ ap (row_at others) (sym y)

-- fewer rows, and no fewer
take_ring : (rows : List TickRow) (a m k : ℕ) → m ≤ k → take m (ring rows a k) ≡ ring rows a m
unfolding ring
take_ring rows a zero k h = refl
take_ring rows a (suc m) zero h = absurd (omega arith)
take_ring rows a (suc m) (suc k) h = ap (λ l. row_at rows a ∷ l) (take_ring rows (a + 1) m k (omega arith))

ring_length : (rows : List TickRow) (a k : ℕ) → length (ring rows a k) ≡ k
unfolding ring
ring_length rows a zero = refl
ring_length rows a (suc k) = ap suc (ring_length rows (a + 1) k)

module _ (rows : List TickRow) (a : ℕ) (r : TickRow) (whole : length rows ≡ 32) (within : a < 32) where
  -- the place ahead of the newest row
  ahead : ℕ
  ahead = (a + 31) % 32

  older : (n : ℕ) → n < 32 → ring (set rows ahead r) (ahead + 1) n ≡ ring rows a n
  unfolding ahead
  older n h = ring_same (set rows ahead r) rows (ahead + 1) a n (λ i l. same i (omega arith)) where
    same : (i : ℕ) → i < 31 → row_at (set rows ((a + 31) % 32) r) (((a + 31) % 32 + 1) + i) ≡ row_at rows (a + i)
    same i l =
        let ne : (((a + 31) % 32 + 1) + i) % 32 ≢ (a + 31) % 32 = omega arith in
        let e : (((a + 31) % 32 + 1) + i) % 32 ≡ (a + i) % 32 = omega arith in
        ap row_of (get_or-set_other rows _ _ _ _ ne) ∙ ap (λ (p : ℕ). row_of (get_or rows p no_row)) e

  newest_first : (n : ℕ) → n < 32 → ring (set rows ahead r) ahead (suc n) ≡ row_of r ∷ ring rows a n
  unfolding ring ahead
  newest_first n h =
      let e : (a + 31) % 32 % 32 ≡ (a + 31) % 32 = omega arith in
      let head : row_at (set rows ahead r) ahead ≡ row_of r
      = ap (λ (p : ℕ). row_of (get_or (set rows ahead r) p no_row)) e ∙ ap row_of (get_or-set_same rows ((a + 31) % 32) r no_row (omega arith)) in
      let tail = older n h in
      cc

  -- what is kept of the older rows beside the newest
  kept_older : (k d n : ℕ) → k ≤ suc d → suc n ≡ min (k + 1) (suc d) → take d (ring rows a k) ≡ ring rows a n
  kept_older k d n h e =
      ⊎_elim
      (λ l. let m : n ≡ d = omega arith in take_ring rows a d k (omega arith) ∙ ap (ring rows a) (sym m))
      (λ l. let m : n ≡ k = omega arith in take_all d _ (omega (arith, ring_length rows a k)) ∙ ap (ring rows a) (sym m))
      (cases_lt d k)

  -- a row more: the newest stands first, and at most d are kept
  pub ring_push : (k d n : ℕ) → k ≤ d → d ≤ 32 → n ≡ min (k + 1) d → ring (set rows ((a + 31) % 32) r) ((a + 31) % 32) n ≡ take d (row_of r ∷ ring rows a k)
  unfolding ahead ring
  ring_push k zero n h l e = let z : n ≡ 0 = omega arith in ap (ring (set rows ahead r) ahead) z
  ring_push k (suc d) n h l e =
      let m : n ≡ suc (n - 1) = omega arith in
      ap (ring (set rows ahead r) ahead) m ∙ newest_first (n - 1) (omega arith)
      ∙ ap (λ rest. row_of r ∷ rest) (sym (kept_older k d (n - 1) h (omega arith)))

first_fits : (x y : ℕ) (b c : Bool) → b && (leb x y && c) ≡ true → x ≤ y
first_fits x y b c h = grind (arith, nat_tests)

-- a move that the newest row allows can be noted
pub allowed_can_note : (alpha clock : ℕ) (b : Book) (r : Row) (rs : List Row) → b.past ≡ r ∷ rs → alpha ≤ 65535 → r.present ≤ 65535
    → allows alpha clock b ≡ true → can_note b ≡ true
unfolding within_churn
allowed_can_note alpha clock b r rs e low few h =
    let product : alpha * r.present ≤ 65535 * 65535 = mul-le-mul low few in
    let whole : ltb 0 clock && within_churn alpha (b.moves + 1) (r ∷ rs) ≡ true
    = ap (λ (l : List Row). ltb 0 clock && within_churn alpha (b.moves + 1) l) (sym e) ∙ h in
    let fits : 100 * (b.moves + 1) ≤ alpha * r.present = first_fits (100 * (b.moves + 1)) (alpha * r.present) (ltb 0 clock) (within_churn alpha ((b.moves + 1) + r.moves) rs) whole in
    lt-ltb _ _ (omega arith)
