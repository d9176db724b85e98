use Rattle.std.proofs.Common.{◌≡◌, Some, None, Err, sym, ap, ◌∙◌, rules}
use Rattle.carrier.specs.Waits.{found}
use Rattle.carrier.specs.declared.fault.CarrierFault.TheVariants.{NotWaiting}
use Rattle.carrier.proofs.Copies.{at_same}
use Rattle.rack.specs.Entries.{changed}
use Rattle.rack.specs.Racks.{stored}
use Rattle.pool.specs.Pooled.{opened, lesser, wanted}
use Rattle.pool.specs.Meaning.{pooled}
use Rattle.pool.proofs.Messages.{lesser_wanted, changed_whole, changed_wanted, pooled_taken}
use Rattle.pool.proofs.pool.calls.PoolCarrier.take.Goals as goal

pub returns-in_err-held-clause-after : goal.returns-in_err-held-clause-after
unfolding pooled
returns-in_err-held-clause-after g c =
    let r = c.args.self.now.rack in
    let none : c.open.result ≡ None = search rules in
    let gone = ap (λ o. opened o c.args.station) (sym c.get-message.ensures) ∙ sym c.open.ensures ∙ none in
    at_same (pooled r) c.args.number c.args.station None gone

pub returns-in_err-held-clause-value : goal.returns-in_err-held-clause-value
unfolding pooled
returns-in_err-held-clause-value g c =
    let none : c.open.result ≡ None = search rules in
    let gone = ap (λ o. opened o c.args.station) (sym c.get-message.ensures) ∙ sym c.open.ensures ∙ none in
    let err : c.from_residual.result ≡ Err NotWaiting = search rules in
    err ∙ sym (ap found gone)

pub invariant_of-self : goal.invariant_of-self
invariant_of-self g c =
    let s = c.args.self.now in
    let q = c.args.station in
    let k = c.in_ok-kept.kept in
    let old = stored s.rack c.args.number 0 in
    let is : c.get-message.result ≡ Some k = search rules in
    let was = sym c.get-message.ensures ∙ is in
    let less = ap (λ x. changed x old) c.without.ensures ∙ ap (changed (lesser q k.content)) was in
    let done = c.change.ensures in record {
      whole = changed_whole s.rack c.change.new.self c.args.number _ done.after s.whole;
      wanted = changed_wanted s.rack c.change.new.self c.args.number _ done.after (ap wanted less ∙ lesser_wanted k q) s.wanted;
    }

pub returns-clause-value : goal.returns-clause-value
unfolding pooled
returns-clause-value g c =
    let some : c.open.result ≡ Some c.in_ok-held.held = search rules in
    sym (ap found (ap (λ o. opened o c.args.station) (sym c.get-message.ensures) ∙ sym c.open.ensures ∙ some))

pub returns-clause-after : goal.returns-clause-after
returns-clause-after g c =
    let s = c.args.self.now in
    let q = c.args.station in
    let k = c.in_ok-kept.kept in
    let old = stored s.rack c.args.number 0 in
    let is : c.get-message.result ≡ Some k = search rules in
    let was = sym c.get-message.ensures ∙ is in
    let less = ap (λ x. changed x old) c.without.ensures ∙ ap (changed (lesser q k.content)) was in
    pooled_taken s.rack c.change.new.self c.args.number _ c.change.ensures.after k q less was
