-- How many records are live is how many copies wait.
use Rattle.std.proofs.Common.{◌≡◌, ℕ, ◌+◌, ◌*◌, ◌^◌, ◌≤◌, Bool, true, false, List, [], ◌∷◌, is_some, refl, ap, ◌∙◌, ⊎_elim, arith}
use Rattle.std.proofs.lemmas.Bool.{eq-eqb, cases_Bool}
use Rattle.stations.specs.Members.{how_many}
use Rattle.stations.proofs.Counting.{how_many_same, how_many_more, how_many_none}
use Rattle.carrier.specs.Counts.{under, load, copies}
use Rattle.carrier.proofs.Sums.{total_same, total_rows}
use Rattle.rack.specs.declared.entry.Entry.{Entry}
use Rattle.rack.specs.Entries.{held_under, waiting, rising, lives}
use Rattle.rack.proofs.Keys.{waiting_at}
use Rattle.rack.proofs.Order.{rising_parts, rising_bound, held_other, held_below}

module _ {X : Type 0} where
  abbrev has : List (Entry X) → ℕ → Bool
  has es k = is_some (held_under es k)

  counted : (b : ℕ) (es : List (Entry X)) (n : ℕ) → 2 ^ 40 ≤ n → rising b es ≡ true → how_many (has es) n ≡ lives es
  counted b [] n h r = how_many_none (has []) n (λ k l. refl)
  counted b (e ∷ es) n h r =
      let p = rising_parts b e es r in
      let rest = counted (e.key + 1) es n h p.1 in
      ⊎_elim
      (λ t.
      let more = how_many_more (has (e ∷ es)) (has es) n e.key (omega (arith, rising_bound (e.key + 1) es p.1))
      (here t) (ap is_some (held_below (e.key + 1) e.key es p.1 (omega arith)))
      (λ j ne. ap is_some (held_other j e _ ne)) in
      more ∙ ap (λ (x : ℕ). x + 1) rest ∙ rw t (omega arith))
      (λ t. how_many_same (has (e ∷ es)) (has es) n (λ k l. off t k) ∙ rest ∙ rw t (omega arith))
      (cases_Bool e.live) where
        here : e.live ≡ true → has (e ∷ es) e.key ≡ true
        here t = rw (t, eq-eqb e.key e.key refl)

        off : e.live ≡ false → (k : ℕ) → has (e ∷ es) k ≡ has es k
        off t k = rw t

  pub copies_lives : (es : List (Entry X)) → rising 0 es ≡ true → copies (waiting es) ≡ lives es
  unfolding load under
  copies_lives es r =
      total_same _ (λ n. how_many (λ q. has es (n * 256 + q)) 256) (2 ^ 32)
      (λ n l. how_many_same _ (λ q. has es (n * 256 + q)) 256 (λ q m. ap is_some (waiting_at es n q m)))
      ∙ total_rows (has es) 256 (2 ^ 32)
      ∙ counted 0 es (2 ^ 32 * 256) (omega arith) r
