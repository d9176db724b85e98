-- What a change of one record, a pass over all and one record more leave of what the records in use keep to.
use Rattle.std.proofs.Common.{◌≡◌, ℕ, ◌+◌, ◌-◌, ◌^◌, ◌<◌, ◌≤◌, min, Bool, true, false, cond, not, ◌&&◌, ◌||◌, eqb, List, ◌∷◌, ◌++◌, length, get_or, take, drop, set, is_some, Some, None, Option, sym, refl, ap, ◌∙◌, ⊎_elim, arith}
use Rattle.std.specs.List.{prefix_len}
use Rattle.std.proofs.lemmas.List.{set_at, length-take-le, take-append-drop, take_all, drop_all}
use Rattle.std.proofs.lemmas.List.Sums.{prefix_len-le-length}
use Rattle.std.proofs.lemmas.Bool.{or_left, or_right, cond-true, cond-false, cases_Bool, cases_eq, eq-eqb, ne_eqb, not_from_true, not_from_false}
use Rattle.carrier.specs.declared.message.Held.{Held}
use Rattle.rack.specs.declared.entry.Entry.{Entry}
use Rattle.rack.specs.declared.rack.Rack.{Rack}
use Rattle.rack.specs.Entries.{held_under, rising, lives, steady, before, dead, keyed, last_sent, sifted, changed, changed_entry, Continues}
use Rattle.rack.specs.Racks.{kept}
use Rattle.rack.proofs.Order.{held_mid}
use Rattle.rack.proofs.Changes.{rising_swap, held_swap, rising_insert, lives_mid, leading_skip, leading_grows, leading_swap, leading_insert, steady_swap, steady_push, last_read}
use Rattle.rack.proofs.Searching.{around}
use Rattle.rack.proofs.Sifting.{sifted_rising, sifted_steady, sifted_lives, sifted_first}

-- what the records in use keep to, with how many are live, how many stand before the first of those, and the flag of the ticks
pub record Sound {X : Type 0} (es : List (Entry X)) (live first : ℕ) (timely : Bool) : Type 0 where
  pub order : rising 0 es ≡ true
  pub count : live ≡ lives es
  pub front : first ≡ prefix_len dead es
  pub ticks : (not timely || steady 0 es) ≡ true

pub sound : {X : Type 0} (r : Rack X) → Sound (kept r) r.live r.first r.timely
sound r = record { order = r.order; count = r.count; front = r.front; ticks = r.ticks }

-- the same of equal records and numbers
pub sound_as : {X : Type 0} (es ds : List (Entry X)) (a b c d : ℕ) (timely : Bool) → Sound es a c timely → ds ≡ es → b ≡ a → d ≡ c → Sound ds b d timely
sound_as es ds a b c d timely s e p q = record {
  order = ap (rising 0) e ∙ s.order;
  count = p ∙ s.count ∙ ap lives (sym e);
  front = q ∙ s.front ∙ ap (prefix_len dead) (sym e);
  ticks = ap (λ l. not timely || steady 0 l) e ∙ s.ticks;
}

-- a flag that is not set tells nothing
flagged : (a b c : Bool) → (b ≡ true → c ≡ true) → (not a || b) ≡ true → (not a || c) ≡ true
flagged true b c h e = h e
flagged false b c h e = refl

-- one live record rewritten
module _ {X : Type 0} (es : List (Entry X)) (i : ℕ) (old new : Entry X) (place : i < length es) (read : old ≡ get_or es i old) (order : rising 0 es ≡ true)
    (same_key : new.key ≡ old.key) where
  abbrev front : List (Entry X)
  front = take i es

  abbrev back : List (Entry X)
  back = drop (i + 1) es

  was : es ≡ front ++ old ∷ back
  was = around es i old place read

  is : set es i new ≡ front ++ new ∷ back
  is = ap (λ l. set l i new) was ∙ set_at front old back new i (length-take-le i es (omega (arith, place)))

  ordered : rising 0 (front ++ old ∷ back) ≡ true
  ordered = ap (rising 0) (sym was) ∙ order

  pub rewritten_held : (j : ℕ) → held_under (set es i new) j ≡ cond (eqb j old.key) (cond new.live (Some new.held) None) (held_under es j)
  rewritten_held j =
      ap (λ l. held_under l j) is ∙ held_swap j front old new back 0 same_key ordered
      ∙ ap (λ l. cond (eqb j old.key) (cond new.live (Some new.held) None) (held_under l j)) (sym was)

  module _ (live first : ℕ) (timely : Bool) (ok : Sound es live first timely) (alive : old.live ≡ true) (same_sent : new.held.sent ≡ old.held.sent) where
    one_live : lives es ≡ lives (front ++ back) + 1
    one_live = ap lives was ∙ lives_mid front old back ∙ ap (λ (t : Bool). lives (front ++ back) + cond {A = ℕ} t 1 0) alive

    pub rewritten_some : 1 ≤ live
    rewritten_some = omega (arith, one_live, ok.count)

    further : prefix_len dead es ≤ prefix_len dead (set es i new)
    further =
        ⊎_elim
        (λ t. omega (arith, ap (prefix_len dead) was, ap (prefix_len dead) is, leading_swap dead front old new back (not_from_true _ t ∙ sym (not_from_true _ alive))))
        (λ t. omega (arith, ap (prefix_len dead) was, ap (prefix_len dead) is, leading_grows dead front old new back (not_from_false _ t)))
        (cases_Bool new.live)

    pub rewritten : Sound (set es i new) ((live - 1) + cond new.live 1 0) (first + prefix_len dead (drop first (set es i new))) timely
    rewritten = record {
      order = ap (rising 0) is ∙ rising_swap front old new back 0 same_key ordered;
      count = omega (arith, one_live, ok.count, ap lives is ∙ lives_mid front new back);
      front = sym (leading_skip dead (set es i new) first (omega (arith, ok.front, further)));
      ticks = flagged timely (steady 0 es) _ (λ e. ap (steady 0) is ∙ steady_swap front old new back 0 same_sent ∙ ap (steady 0) (sym was) ∙ e) ok.ticks;
    }

-- where nothing is held, nothing can be changed
pub unchanged : {X : Type 0} (h : ℕ → Option (Held X)) (k : ℕ) (c : Option X) → h k ≡ None → (j : ℕ) → h j ≡ cond (eqb j k) (changed c (h k)) (h j)
unchanged h k c n j =
    ⊎_elim
    (λ q. ap h q ∙ n ∙ sym (ap (changed c) n) ∙ sym (cond-true _ _ _ (eq-eqb j k q)))
    (λ ne. sym (cond-false _ _ _ (ne_eqb j k ne)))
    (cases_eq j k)

-- a changed record holds what is changed
pub changed_held : {X : Type 0} (e : Entry X) (c : Option X) → cond (changed_entry e c).live (Some (changed_entry e c).held) None ≡ changed c (Some e.held)
changed_held e None = refl
changed_held e (Some v) = refl

pub changed_key : {X : Type 0} (e : Entry X) (c : Option X) → (changed_entry e c).key ≡ e.key
changed_key e None = refl
changed_key e (Some v) = refl

pub changed_sent : {X : Type 0} (e : Entry X) (c : Option X) → (changed_entry e c).held.sent ≡ e.held.sent
changed_sent e None = refl
changed_sent e (Some v) = refl

pub changed_live : {X : Type 0} (e : Entry X) (c : Option X) → (changed_entry e c).live ≡ is_some c
changed_live e None = refl
changed_live e (Some v) = refl

-- a pass over all records
pub sifted_sound : {X : Type 0} (f : ℕ → X → Option X) (es : List (Entry X)) (live first : ℕ) (timely : Bool) → Sound es live first timely
    → Sound (sifted f es) (length (sifted f es)) 0 timely
sifted_sound f es live first timely ok = record {
  order = sifted_rising f 0 es ok.order;
  count = sym (sifted_lives f es);
  front = sym (sifted_first f es);
  ticks = flagged timely (steady 0 es) _ (sifted_steady f 0 es) ok.ticks;
}

-- one record more, before the first that is not before its key
module _ {X : Type 0} (es : List (Entry X)) (order : rising 0 es ≡ true) (e : Entry X) (i : ℕ) (place : i ≡ prefix_len (before e.key) es) (alive : e.live ≡ true)
    (small : e.key < 2 ^ 40) (free : keyed e.key es ≡ false) where
  abbrev more : List (Entry X)
  more = take i es ++ e ∷ drop i es

  ordered_now : rising 0 more ≡ true
  ordered_now = ap (λ (n : ℕ). rising 0 (take n es ++ e ∷ drop n es)) place ∙ rising_insert 0 es e order (omega arith) small free

  whole : take i es ++ drop i es ≡ es
  whole = take-append-drop i es

  pub added_held : (j : ℕ) → held_under more j ≡ cond (eqb j e.key) (Some e.held) (held_under es j)
  added_held j =
      held_mid j (take i es) e (drop i es) 0 ordered_now
      ∙ ap (λ (b : Bool). cond (b && eqb j e.key) (Some e.held) (held_under (take i es ++ drop i es) j)) alive
      ∙ ap (λ l. cond (eqb j e.key) (Some e.held) (held_under l j)) whole

  goes_on : Continues es i e.held.sent → steady 0 more ≡ true
  goes_on c =
      let end : length es ≤ i = omega (arith, c.end) in
      ap (steady 0) (ap (λ l. l ++ e ∷ drop i es) (take_all i es end) ∙ ap (λ l. es ++ e ∷ l) (drop_all i es end))
      ∙ steady_push 0 es e c.so_far c.next

  pub added_sound : (live first : ℕ) (timely flag : Bool) → Sound es live first timely → (flag ≡ true → Continues es i e.held.sent)
      → Sound more (live + 1) (min first i) flag
  added_sound live first timely flag ok go = record {
    order = ordered_now;
    count = omega (arith, ok.count, lives_mid (take i es) e (drop i es), ap lives whole, ap (λ (b : Bool). cond {A = ℕ} b 1 0) alive);
    front =
        let low = prefix_len-le-length (before e.key) es in
        omega (arith, ok.front, leading_insert dead (take i es) e (drop i es) (not_from_true _ alive), ap (prefix_len dead) whole, length-take-le i es (omega (arith, place, low)));
    ticks = ⊎_elim (λ b. or_right _ _ (goes_on (go b))) (λ b. or_left _ _ (not_from_false _ b)) (cases_Bool flag);
  }

-- where the flag is set, ticks sent never fall
pub steady_flag : {X : Type 0} (r : Rack X) → r.timely ≡ true → steady 0 (kept r) ≡ true
steady_flag r t = sym (ap (λ (b : Bool). not b || steady 0 (kept r)) t) ∙ r.ticks

pub last_some : {X : Type 0} (es : List (Entry X)) (x : Entry X) → 0 < length es → x ≡ get_or es (length es - 1) x → last_sent 0 es ≡ x.held.sent
last_some es x h g = last_read 0 (length es - 1) es x (omega arith) g
