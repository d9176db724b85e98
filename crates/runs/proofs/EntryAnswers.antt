-- The replies to a request to be let in are the answers to an entry. Rests on `Asked` and `Travel`.
use Rattle.std.proofs.Common.{◌≡◌, ℕ, suc, true, sym, refl, ap, ◌∙◌, subst, arith}
use Rattle.std.proofs.lemmas.Bool.{eq-eqb}
use Rattle.std.proofs.lemmas.Bool.Decides.{nat_tests}
use Rattle.network.specs.declared.content.Content.{Content}
use Rattle.network.specs.declared.content.Content.TheVariants.{Enter, EnterEcho}
use Rattle.network.specs.declared.letter.Letter.{Letter}
use Rattle.network.specs.declared.station.Station.{Station}
use Rattle.network.specs.Hearing.{hear}
use Rattle.network.specs.Knowing.{Set}
use Rattle.network.specs.Saying.{letters, says}
use Rattle.runs.proofs.Positions.{Run, station}
use Rattle.runs.proofs.Asked.{Reply, reply_from}
use Rattle.runs.proofs.Hearings.{HearsAt, alone}
use Rattle.runs.proofs.Mails.{Among}
use Rattle.runs.proofs.Requests.{entry, asks}
use Rattle.runs.proofs.Travel.{Answer}

module _ {R : Type 0} where
  asks_entry : (p : ℕ) (m : Content R Set) → asks p entry m ≡ true → m ≡ Enter p
  asks_entry p m h = grind (arith, nat_tests)

  said_answer : (q p : ℕ) (x y : Station R Set) (l : Letter R Set) → Among l (letters (says q (Enter p) x y)) → l.content ≡ EnterEcho y.known y.register y.joined p
  unfolding says
  said_answer q p x y l a = ap (λ (k : Letter R Set). k.content) (alone _ _ a)

module _ {R : Type 0} (z : Run R) where
  pub reply_answer : (u p q : ℕ) (d : Reply z u p q entry) → Answer z p d.place q u
  reply_answer u p q d =
      let entering = asks_entry p d.question d.request in
      let x = station z d.place q in
      let y = station z (suc d.place) q in
      let h = d.heard in
      let words = sym d.same ∙ said_answer q p x y d.letter (subst (λ m. Among d.letter (letters (says q m x y))) entering d.among) in
      record {
        asked = subst (HearsAt z d.place q) entering d.asked;
        given = record {
          number = h.number;
          copy = h.copy;
          accepted = h.accepted;
          waited = h.waited;
          holds = h.holds ∙ words;
          before = h.before;
          after = h.after ∙ ap (λ m. hear z.setup.choice p m (station z u p)) words;
        };
        later = d.before;
        sender = d.sender;
        soon = d.soon;
      }

  pub answer_reply : (p v q u : ℕ) → Answer z p v q u → Reply z u p q entry
  answer_reply p v q u a = subst (λ q. Reply z u p q entry) a.sender (reply_from z u p entry _ a.given (eq-eqb p p refl))
