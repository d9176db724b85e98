-- The limit book along a run, and churn: its rows tell how many were present where each of the last D ticks ended and how
-- many moves were made since, so that 100 × (those who entered + those who left) ≤ α × those present, over at most D ticks.
-- Rests on `Movement` and `Marks`.
use Rattle.std.proofs.Common.{◌≡◌, ℕ, zero, suc, ◌+◌, ◌*◌, ◌<◌, ◌≤◌, min, true, List, [], ◌∷◌, length, take, sym, refl, ap, ◌∙◌, subst, inl, inr, arith}
use Rattle.std.proofs.lemmas.Bool.{both_ways, and_parts, leb-true, cases_lt, cases_eq}
use Rattle.std.proofs.lemmas.List.{length-take}
use Rattle.network.specs.declared.operation.Task.TheVariants as task
use Rattle.network.specs.declared.step.Step.{Step}
use Rattle.network.specs.declared.step.Step.TheVariants as step
use Rattle.network.specs.Books.{Row, within_churn, with_move, end_tick}
use Rattle.runs.proofs.Positions.{Run, state, state_start, clock, D, Accepted, OutcomeOf, goes, stays, outcome_of}
use Rattle.runs.proofs.Accepted.{ticks, enters, leaves, crashes, begins, hears}
use Rattle.runs.proofs.Bounds.{N}
use Rattle.runs.proofs.Clocks.{ClockStep, rises, rests, clock_step, clock_start}
use Rattle.runs.proofs.Marks.{mark, lives_at_mark, lives_from_mark, mark_zero}
use Rattle.runs.proofs.Movement.{is_move, moves, En, Lv, moves_between, same_lives, life_stays, enter_moves, leave_moves, MoveStep, moves_one, moves_none, move_step}

module _ {R : Type 0} (z : Run R) where
  -- rows, the newest of which ended just before clock c, tell the truth where so many moves were made in all, and n of them since the newest ended
  abbrev RowsTell : ℕ → ℕ → ℕ → List Row → Type 0
  RowsTell made c n [] = Unit {0}
  RowsTell made c n (r ∷ rs) = (t : ℕ) × (c ≡ t + 1) × (r.present ≡ N z (mark z t)) × (n + moves z (mark z t) ≡ made) × RowsTell made t (n + r.moves) rs

  -- as many moves more, in all and since
  tell_more : (made made' c n n' : ℕ) (rs : List Row) → n' + made ≡ n + made' → RowsTell made c n rs → RowsTell made' c n' rs
  tell_more made made' c n n' [] e h = tt
  tell_more made made' c n n' (r ∷ rs) e (t, a, b, d, f) = (t, a, b, omega arith, tell_more made made' t (n + r.moves) (n' + r.moves) rs (omega arith) f)

  tell_fewer : (made c n k : ℕ) (rs : List Row) → RowsTell made c n rs → RowsTell made c n (take k rs)
  tell_fewer made c n zero rs h = tt
  tell_fewer made c n (suc k) [] h = tt
  tell_fewer made c n (suc k) (r ∷ rs) (t, a, b, d, f) = (t, a, b, d, tell_fewer made t (n + r.moves) k rs f)

  -- what a row tells of the tick t, where the book allows one more move
  row_allows : (alpha made c n t : ℕ) (rs : List Row) → RowsTell made c n rs → within_churn alpha (n + 1) rs ≡ true → t < c → c ≤ t + length rs
      → 100 * (made + 1) ≤ alpha * N z (mark z t) + 100 * moves z (mark z t)
  unfolding within_churn
  row_allows alpha made c n t [] h w l k = absurd (omega arith)
  row_allows alpha made c n t (r ∷ rs) (s, a, b, d, f) w l k =
      let parts = and_parts _ _ w in
      elim (cases_eq t s) [
        | inl e ↦
            let row : 100 * (n + 1) ≤ alpha * N z (mark z s) = subst (λ x. 100 * (n + 1) ≤ alpha * x) b (leb-true _ _ parts.0) in
            subst (λ x. 100 * (made + 1) ≤ alpha * N z (mark z x) + 100 * moves z (mark z x)) (sym e) (omega (arith, row, d))
        | inr ne ↦ row_allows alpha made s (n + r.moves) t rs f (subst (λ x. within_churn alpha x rs ≡ true) (omega arith) parts.1) (omega arith) (omega arith)
      ]

  -- the book at a position: its rows tell the truth, and there is one for each of the last D ticks
  record BookTells (b : ℕ) : Type 0 where
    pub rows : RowsTell (moves z b) (clock z b) (state z b).book.moves (state z b).book.past
    pub so_many : length (state z b).book.past ≡ min (D z) (clock z b)

  book_rests : (b : ℕ) → (state z (suc b)).book ≡ (state z b).book → clock z (suc b) ≡ clock z b → moves z (suc b) ≡ moves z b → BookTells b → BookTells (suc b)
  book_rests b e c m h =
      record {
        rows = subst (λ k. RowsTell k (clock z (suc b)) (state z (suc b)).book.moves (state z (suc b)).book.past) (sym m)
            (subst (λ k. RowsTell (moves z b) k (state z (suc b)).book.moves (state z (suc b)).book.past) (sym c)
            (subst (λ k. RowsTell (moves z b) (clock z b) k.moves k.past) (sym e) h.rows));
        so_many = ap (λ k. length k.past) e ∙ h.so_many ∙ ap (min (D z)) (sym c);
      }

  book_moves : (b : ℕ) → (state z (suc b)).book ≡ with_move (state z b).book → clock z (suc b) ≡ clock z b → moves z (suc b) ≡ moves z b + 1 → BookTells b → BookTells (suc b)
  book_moves b e c m h =
      record {
        rows = subst (λ k. RowsTell (moves z (suc b)) k (state z (suc b)).book.moves (state z (suc b)).book.past) (sym c)
            (subst (λ k. RowsTell (moves z (suc b)) (clock z b) k.moves k.past) (sym e)
            (tell_more (moves z b) (moves z (suc b)) (clock z b) (state z b).book.moves ((state z b).book.moves + 1) _ (omega arith) h.rows));
        so_many = ap (λ k. length k.past) e ∙ h.so_many ∙ ap (min (D z)) (sym c);
      }

  book_ends : (b : ℕ) → Accepted z b step.Tick → BookTells b → BookTells (suc b)
  book_ends b a h =
      let e = (ticks z b a).leads in
      let c : clock z (suc b) ≡ clock z b + 1 = ap (λ s. s.clock) e in
      let book : (state z (suc b)).book ≡ end_tick (D z) (N z b) (state z b).book = ap (λ s. s.book) e in
      let made : moves z (suc b) ≡ moves z b = (same_lives z b (suc b) (life_stays z b step.Tick a refl)).0 in
      let there = same_lives z (mark z (clock z b)) b (lives_at_mark z b a c) in
      record {
        rows = subst (λ k. RowsTell (moves z (suc b)) (clock z (suc b)) k.moves k.past) (sym book)
            (tell_fewer (moves z (suc b)) (clock z (suc b)) 0 (D z) _
            (clock z b, c, there.1, omega (arith, there.0), tell_more (moves z b) (moves z (suc b)) (clock z b) (state z b).book.moves (0 + (state z b).book.moves) _ (omega arith) h.rows));
        so_many = ap (λ k. length k.past) book ∙ length-take (D z) _ ∙ (let n = h.so_many in omega arith);
      }

  book_by : (b : ℕ) (x : Step R) → Accepted z b x → BookTells b → BookTells (suc b)
  book_by b step.Tick a h = book_ends b a h
  book_by b (step.Enter p) a h = let e = (enters z b p a).leads in book_moves b (ap (λ s. s.book) e) (ap (λ s. s.clock) e) (enter_moves z b p a) h
  book_by b (step.Leave p) a h = let e = (leaves z b p a).leads in book_moves b (ap (λ s. s.book) e) (ap (λ s. s.clock) e) (leave_moves z b p a) h
  book_by b (step.Crash p) a h = let e = (crashes z b p a).leads in book_rests b (ap (λ s. s.book) e) (ap (λ s. s.clock) e) (same_lives z b (suc b) (life_stays z b _ a refl)).0 h
  book_by b (step.Read p) a h = let e = (begins z b p task.Read a).leads in book_rests b (ap (λ s. s.book) e) (ap (λ s. s.clock) e) (same_lives z b (suc b) (life_stays z b _ a refl)).0 h
  book_by b (step.Write p r) a h = let e = (begins z b p (task.Write r) a).leads in book_rests b (ap (λ s. s.book) e) (ap (λ s. s.clock) e) (same_lives z b (suc b) (life_stays z b _ a refl)).0 h
  book_by b (step.Deliver n q) a h = let e = (hears z b n q a).leads in book_rests b (ap (λ s. s.book) e) (ap (λ s. s.clock) e) (same_lives z b (suc b) (life_stays z b _ a refl)).0 h

  book_tells : (b : ℕ) → BookTells b
  book_tells zero =
      record {
        rows = subst (λ s. RowsTell (moves z 0) (clock z 0) s.book.moves s.book.past) (sym (state_start z)) tt;
        so_many = ap (λ s. length s.book.past) (state_start z) ∙ (let c = clock_start z in omega arith);
      }
  book_tells (suc b) = by (outcome_of z b) (book_tells b)
    where
      by : OutcomeOf z b → BookTells b → BookTells (suc b)
      by (goes x a) h = book_by b x a h
      by (stays e) h = book_rests b (ap (λ s. s.book) e) (ap (λ s. s.clock) e) (same_lives z b (suc b) (λ q. ap (λ s. (s.stations q).life) e)).0 h

  -- the moves of the present tick are among all that were made
  tick_moves_by : (b : ℕ) (x : Step R) → Accepted z b x → (state z b).book.moves ≤ moves z b → (state z (suc b)).book.moves ≤ moves z (suc b)
  tick_moves_by b step.Tick a h = omega (arith, ap (λ s. s.book.moves) (ticks z b a).leads)
  tick_moves_by b (step.Enter p) a h = omega (arith, ap (λ s. s.book.moves) (enters z b p a).leads, enter_moves z b p a)
  tick_moves_by b (step.Leave p) a h = omega (arith, ap (λ s. s.book.moves) (leaves z b p a).leads, leave_moves z b p a)
  tick_moves_by b (step.Crash p) a h = omega (arith, ap (λ s. s.book.moves) (crashes z b p a).leads, (same_lives z b (suc b) (life_stays z b _ a refl)).0)
  tick_moves_by b (step.Read p) a h = omega (arith, ap (λ s. s.book.moves) (begins z b p task.Read a).leads, (same_lives z b (suc b) (life_stays z b _ a refl)).0)
  tick_moves_by b (step.Write p r) a h = omega (arith, ap (λ s. s.book.moves) (begins z b p (task.Write r) a).leads, (same_lives z b (suc b) (life_stays z b _ a refl)).0)
  tick_moves_by b (step.Deliver n q) a h = omega (arith, ap (λ s. s.book.moves) (hears z b n q a).leads, (same_lives z b (suc b) (life_stays z b _ a refl)).0)

  pub tick_moves : (b : ℕ) → (state z b).book.moves ≤ moves z b
  tick_moves zero = omega (arith, ap (λ s. s.book.moves) (state_start z))
  tick_moves (suc b) = by (outcome_of z b) (tick_moves b)
    where
      by : OutcomeOf z b → (state z b).book.moves ≤ moves z b → (state z (suc b)).book.moves ≤ moves z (suc b)
      by (goes x a) h = tick_moves_by b x a h
      by (stays e) h = omega (arith, ap (λ s. s.book.moves) e, (same_lives z b (suc b) (λ q. ap (λ s. (s.stations q).life) e)).0)

  -- an accepted move is within the clock of its step, and the book allows it
  move_allowed : (b : ℕ) (x : Step R) → Accepted z b x → is_move x ≡ true → (clock z (suc b) ≡ clock z b) × (within_churn z.setup.choice.alpha ((state z b).book.moves + 1) (state z b).book.past ≡ true)
  move_allowed b step.Tick a m = absurd (both_ways _ refl m)
  move_allowed b (step.Enter p) a m = let e = enters z b p a in (ap (λ s. s.clock) e.leads, (and_parts _ _ e.allowed).1)
  move_allowed b (step.Leave p) a m = let e = leaves z b p a in (ap (λ s. s.clock) e.leads, (and_parts _ _ e.allowed).1)
  move_allowed b (step.Crash p) a m = absurd (both_ways _ refl m)
  move_allowed b (step.Read p) a m = absurd (both_ways _ refl m)
  move_allowed b (step.Write p r) a m = absurd (both_ways _ refl m)
  move_allowed b (step.Deliver n q) a m = absurd (both_ways _ refl m)

  moves_limited : (t b : ℕ) → t < clock z b → clock z b ≤ t + D z → 100 * moves z b ≤ z.setup.choice.alpha * N z (mark z t) + 100 * moves z (mark z t)
  moves_limited t zero l k = absurd (omega (arith, clock_start z))
  moves_limited t (suc b) l k = by (move_step z b) (clock_step z b) (moves_limited t b)
    where
      by : MoveStep z b → ClockStep z b → (t < clock z b → clock z b ≤ t + D z → 100 * moves z b ≤ z.setup.choice.alpha * N z (mark z t) + 100 * moves z (mark z t))
          → 100 * moves z (suc b) ≤ z.setup.choice.alpha * N z (mark z t) + 100 * moves z (mark z t)
      by (moves_one x a m e) c before =
          let (now, w) = move_allowed b x a m in
          let told = book_tells b in
          let row = row_allows z.setup.choice.alpha (moves z b) (clock z b) (state z b).book.moves t (state z b).book.past told.rows w (omega arith) (omega (arith, told.so_many)) in
          omega (arith, row, e)
      by (moves_none f) (rests e) before = let h = before (omega arith) (omega arith) in omega (arith, h, (same_lives z b (suc b) f).0)
      by (moves_none f) (rises a e) before =
          elim (cases_lt t (clock z b)) [
            | inl j ↦ let h = before j (omega arith) in omega (arith, h, (same_lives z b (suc b) f).0)
            | inr j ↦
                let here : t ≡ clock z b = omega arith in
                subst (λ x. 100 * moves z (suc b) ≤ z.setup.choice.alpha * N z (mark z x) + 100 * moves z (mark z x)) (sym here)
                (omega (arith, (same_lives z b (suc b) f).0, (same_lives z (mark z (clock z b)) b (lives_at_mark z b a e)).0))
          ]

  -- churn: over at most D ticks from the mark of tick t
  pub churn : (t b : ℕ) → mark z t ≤ b → clock z b ≤ t + D z → 100 * (En z (mark z t) b + Lv z (mark z t) b) ≤ z.setup.choice.alpha * N z (mark z t)
  churn t b l k =
      let between = moves_between z (mark z t) b l in
      elim (cases_lt t (clock z b)) [
        | inl over ↦ omega (arith, moves_limited t b over k)
        | inr runs ↦ omega (arith, (same_lives z (mark z t) b (lives_from_mark z t b runs l)).0)
      ]

  -- the same from the start
  pub churn_start : (b : ℕ) → clock z b ≤ D z → 100 * (En z 0 b + Lv z 0 b) ≤ z.setup.choice.alpha * N z 0
  churn_start b k = subst (λ a. 100 * (En z a b + Lv z a b) ≤ z.setup.choice.alpha * N z a) (mark_zero z) (churn 0 b (omega (arith, mark_zero z)) (omega arith))
