use Rattle.std.proofs.Common.{◌<◌, Some, sym, refl, ap, ◌∙◌, ⊎_elim, arith}
use Rattle.std.proofs.lemmas.Bool.{eqb-true, eqb-false, lt-ltb, cond-true, cases_eq}
use Rattle.carrier.specs.Counts.{by_message, fits, receivers}
use Rattle.carrier.specs.Waits.{fitted}
use Rattle.carrier.proofs.Copies.{posted_none}
use Rattle.pool.specs.Pooled.{wanted}
use Rattle.pool.specs.Meaning.{pooled}
use Rattle.pool.proofs.Messages.{posting_gone, posting_spare, changed_whole, changed_wanted, pooled_posted}
use Rattle.pool.proofs.pool.calls.PoolCarrier.post.Goals as goal

pub returns-then-is_empty : goal.returns-then-is_empty
unfolding receivers
returns-then-is_empty g c =
    let p = c.args.item.now in
    let fit = sym c.room_one.ensures ∙ c.if-not-room_one.false in
    let none = posted_none p (pooled c.args.self.now.rack) (eqb-true _ 0 (sym c.is_empty.ensures ∙ c.if-is_empty.true)) in
    record { value = sym (ap fitted fit); after = sym (cond-true _ _ _ fit ∙ none); same = refl }

pub invariant_of-self : goal.invariant_of-self
unfolding receivers
invariant_of-self g c =
    let s = c.args.self.now in
    let p = c.args.item.now in
    let fit = sym c.room_one.ensures ∙ c.if-not-room_one.false in
    let some = eqb-false _ 0 (sym c.is_empty.ensures ∙ c.if-is_empty.false) in
    let done = c.insert.ensures in
    let is = done.after ∙ cond-true _ _ _ (posting_spare s.rack p s.whole s.wanted fit some) in
    let many : 0 < receivers p = ⊎_elim (λ z. absurd (some z)) (λ z. omega arith) (cases_eq (receivers p) 0) in record {
      whole = changed_whole s.rack c.insert.new.self p.number (Some c.share.result) is s.whole;
      wanted = changed_wanted s.rack c.insert.new.self p.number (Some c.share.result) is (ap (λ h. wanted (Some h)) c.share.ensures ∙ lt-ltb 0 _ many) s.wanted;
    }

pub returns : goal.returns
unfolding receivers
returns g c =
    let s = c.args.self.now in
    let p = c.args.item.now in
    let fit = sym c.room_one.ensures ∙ c.if-not-room_one.false in
    let some = eqb-false _ 0 (sym c.is_empty.ensures ∙ c.if-is_empty.false) in
    let is = c.insert.ensures.after ∙ cond-true _ _ _ (posting_spare s.rack p s.whole s.wanted fit some) in
    record {
      value = sym (ap fitted fit);
      after =
          pooled_posted s.rack c.insert.new.self p.number (Some c.share.result) is p refl (ap Some c.share.ensures) (posting_gone s.rack p s.whole s.wanted fit some)
          ∙ sym (cond-true _ _ _ fit);
      same = ap (fits by_message) c.insert.ensures.same;
    }
