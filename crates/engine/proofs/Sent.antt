-- What a step sends, tied to what it changes: its messages, their room after the change, and the state that they lead to.
use Rattle.std.proofs.Common.{◌≡◌, ℕ, Bool, true, false, cond, eqb, List, [], ◌∷◌, length, Some, None, Option, Ok, refl, ap, ap₂, sym, ◌∙◌}
use Rattle.std.specs.Prelude.{option_map}
use mathlib.Core.Path.{fun_ext}
use Rattle.carrier.specs.Laws.{Laws, Room as RoomRule}
use Rattle.carrier.specs.Waits.{Waits, Within, at, except}
use Rattle.carrier.specs.declared.message.Held.{Held}
use Rattle.stations.specs.Members.{put}
use Rattle.stations.specs.declared.Stations.{Stations}
use Rattle.network.specs.declared.content.Content.{Content}
use Rattle.network.specs.declared.entry.Entry.{Entry}
use Rattle.network.specs.declared.fault.StepFault.{StepFault}
use Rattle.network.specs.declared.letter.Letter.{Letter}
use Rattle.network.specs.declared.step.Step.{Step}
use Rattle.network.specs.declared.step.Step.TheVariants as step
use Rattle.network.specs.Changes.{changed, said, actor, delivered}
use Rattle.network.specs.Knowing.{Set}
use Rattle.network.specs.Posting.{mails}
use Rattle.network.specs.Refusals.{mail_test, step_mails, sending_test, refusal, first_of, unless}
use Rattle.network.specs.States.{Copy, Mail, Setup, State, active_set}
use Rattle.network.specs.Steps.{next, after, ended_at, outcome}
use Rattle.engine.specs.Copies.{kept_copy, kept_waits, shown_room}
use Rattle.engine.specs.Mails.{after_mails}
use Rattle.engine.specs.Memories.{state_of, setup_of}
use Rattle.engine.specs.declared.memory.Memory.{Memory}
use Rattle.engine.proofs.Faults.{held}
use Rattle.engine.proofs.Outcomes.{done_told, done_leads}

-- tests kept beside a function agree with it where one value changes
pub agrees_put : {A B : Type 0} (f : A → B) (g : ℕ → A) (h k : ℕ → B) (p : ℕ) (a : A) → ((q : ℕ) → h q ≡ f (g q)) → k ≡ put h p (f a) → (q : ℕ) → k q ≡ f (put g p a q)
unfolding put
agrees_put f g h k p a same e q = ap (λ k. k q) e ∙ by (eqb q p) where
  by : (b : Bool) → cond b (f a) (h q) ≡ f (cond b a (g q))
  by true = refl
  by false = same q

left_of : {X : Type 0} (b : Bool) (o : Option X) (x : X) → cond b None o ≡ Some x → o ≡ Some x
left_of true o x h = cc
left_of false o x h = h

both_hold : (a b : Bool) (f g : StepFault) → a ≡ true → b ≡ true → first_of (unless a f ∷ unless b g ∷ []) ≡ None
unfolding first_of
both_hold a b f g x y = ap₂ (λ (a b : Bool). first_of (unless a f ∷ unless b g ∷ [])) x y

module _ {R : Type 0} where
  dated_delivered : (u : Setup R) (n q : ℕ) (s : State R) (ls : List (Letter R Set)) (o : Option (Copy R))
      → mails q (delivered u n q o s).clock (active_set (delivered u n q o s)) (delivered u n q o s).next ls ≡ mails q s.clock (active_set (delivered u n q o s)) s.next ls
  dated_delivered u n q s ls None = refl
  dated_delivered u n q s ls (Some c) = refl

  -- the messages of a step bear the tick and the numbers of the state before
  dated : (u : Setup R) (x : Step R) (s : State R) → step_mails u x s ≡ mails (actor x) s.clock (active_set (changed u x s)) s.next (said u x s)
  unfolding changed said mails
  dated u step.Tick s = refl
  dated u (step.Enter p) s = refl
  dated u (step.Leave p) s = refl
  dated u (step.Crash p) s = refl
  dated u (step.Read p) s = refl
  dated u (step.Write p r) s = refl
  dated u (step.Deliver n q) s = dated_delivered u n q s (said u (step.Deliver n q) s) (s.waits n q)

  next_delivered : (u : Setup R) (n q : ℕ) (s : State R) (o : Option (Copy R)) → (delivered u n q o s).next ≡ s.next
  next_delivered u n q s None = refl
  next_delivered u n q s (Some c) = refl

  pub changed_next : (u : Setup R) (x : Step R) (s : State R) → (changed u x s).next ≡ s.next
  unfolding changed
  changed_next u step.Tick s = refl
  changed_next u (step.Enter p) s = refl
  changed_next u (step.Leave p) s = refl
  changed_next u (step.Crash p) s = refl
  changed_next u (step.Read p) s = refl
  changed_next u (step.Write p r) s = refl
  changed_next u (step.Deliver n q) s = next_delivered u n q s (s.waits n q)

  within_delivered : (u : Setup R) (n q : ℕ) (s : State R) (o : Option (Copy R)) → Within (delivered u n q o s).waits s.waits
  unfolding at
  within_delivered u n q s None m r x h = h
  within_delivered u n q s (Some c) m r x h = left_of _ _ x h

  -- a change only takes copies
  pub changed_within : (u : Setup R) (x : Step R) (s : State R) → Within (changed u x s).waits s.waits
  unfolding changed except
  changed_within u step.Tick s m r y h = h
  changed_within u (step.Enter p) s m r y h = h
  changed_within u (step.Leave p) s m r y h = left_of _ _ y h
  changed_within u (step.Crash p) s m r y h = left_of _ _ y h
  changed_within u (step.Read p) s m r y h = h
  changed_within u (step.Write p v) s m r y h = h
  changed_within u (step.Deliver n q) s m r y h = within_delivered u n q s (s.waits n q) m r y h

  kept_some : (o v : Option (Copy R)) → ((x : Copy R) → o ≡ Some x → v ≡ Some x) → (y : Held (Content R Stations)) → option_map kept_copy o ≡ Some y → option_map kept_copy v ≡ Some y
  kept_some None v h y e = cc
  kept_some (Some x) v h y e = ap (option_map kept_copy) (h x refl) ∙ e

  module _ {S : Type 0} {waits : S → Waits (Held (Content R Stations))} {room : S → RoomRule (Content R Stations)} {ample : S → Type 0} (laws : Laws waits room ample) (c : S) where
    -- removing copies never loses room, as it is shown
    shown_shrinks : (v w : Waits (Copy R)) (ms : List (Mail R)) → Within v w → shown_room (room c) w ms ≡ true → shown_room (room c) v ms ≡ true
    shown_shrinks v w ms within = laws.shrinks c (kept_waits v) (kept_waits w) _ (λ n q. kept_some (v n q) (w n q) (within n q))

    test_shrinks : (v w : Waits (Copy R)) (n : ℕ) (ms : List (Mail R)) → Within v w → mail_test (shown_room (room c)) w n ms ≡ None → mail_test (shown_room (room c)) v n ms ≡ None
    unfolding mail_test
    test_shrinks v w n [] within h = h
    test_shrinks v w n (m ∷ ms) within h =
        let numbers = held _ _ _ h in
        both_hold _ _ _ _ numbers.0 (shown_shrinks v w (m ∷ ms) within (held _ _ _ numbers.1).0)

  -- the messages of a step, from what it says and who is active once it has changed what it changes
  pub mails_sent : (u : Setup R) (x : Step R) (s : State R) (who : Set) (ls : List (Letter R Set)) (ms : List (Mail R))
      → ms ≡ mails (actor x) s.clock who s.next ls → said u x s ≡ ls → ((q : ℕ) → who q ≡ active_set (changed u x s) q) → ms ≡ step_mails u x s
  mails_sent u x s who ls ms made says active =
      made
      ∙ ap₂ (λ (f : Set) (ls : List (Letter R Set)). mails (actor x) s.clock f s.next ls) (fun_ext active) (sym says)
      ∙ sym (dated u x s)

  module _ (u : Setup R) (x : Step R) (s : State R) (ms : List (Mail R)) (sent : ms ≡ step_mails u x s) where
    -- the test of their room is the test of the step
    pub test_sent : mail_test u.room s.waits s.next ms ≡ sending_test u x s
    test_sent = ap (mail_test u.room s.waits s.next) sent

    -- posted behind the change, they lead to the next state
    pub next_sent : (t v : State R) → t ≡ changed u x s → v ≡ after_mails ms t → v ≡ next u x s
    unfolding next
    next_sent t v at e = e ∙ ap₂ after_mails sent at

    module _ (accepted : refusal u x s ≡ None) where
      pub sent_leads : (t v : State R) → t ≡ changed u x s → v ≡ after_mails ms t → v ≡ after u x s
      sent_leads t v at e = next_sent t v at e ∙ done_leads u x s accepted

      pub sent_told : (o : Option (Entry R)) → o ≡ ended_at (actor x) s (next u x s) → Ok (record { sent = length ms; from = s.next; ended = o }) ≡ outcome u x s
      sent_told o ended =
          ap₂ (λ (ms : List (Mail R)) (o : Option (Entry R)). Ok (record { sent = length ms; from = s.next; ended = o })) sent ended
          ∙ done_told u x s accepted

  -- what had room before the change has room after it
  module _ {C : Type 0} {waits : C → Waits (Held (Content R Stations))} {room : C → RoomRule (Content R Stations)} {ample : C → Type 0} (laws : Laws waits room ample) where
    pub room_stays : (old mid : Memory R C) (x : Step R) (ms : List (Mail R))
        → ms ≡ step_mails (setup_of room old) x (state_of waits old) → sending_test (setup_of room old) x (state_of waits old) ≡ None
        → state_of waits mid ≡ changed (setup_of room old) x (state_of waits old) → setup_of room mid ≡ setup_of room old
        → mail_test (setup_of room mid).room (state_of waits mid).waits (state_of waits mid).next ms ≡ None
    room_stays old mid x ms sent passes at same =
        let u = setup_of room old in
        let s = state_of waits old in
        ap₂ (λ (u : Setup R) (t : State R). mail_test u.room t.waits t.next ms) same at
        ∙ ap (λ (n : ℕ). mail_test u.room (changed u x s).waits n ms) (changed_next u x s)
        ∙ test_shrinks laws old.carrier (changed u x s).waits s.waits s.next ms (changed_within u x s) (test_sent u x s ms sent ∙ passes)
