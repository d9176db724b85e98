use Rattle.std.proofs.Common.{◌≡◌, ◌<◌, true, false, is_some, Some, sym, refl, ap, ◌∙◌, arith}
use Rattle.std.proofs.lemmas.Bool.{and_from, not_from_false, lt-ltb, cond-true}
use Rattle.stations.specs.Members.{member}
use Rattle.stations.proofs.Counting.{how_many_some}
use Rattle.stations.proofs.Words.{member_past}
use Rattle.carrier.specs.Counts.{by_copy, receivers, copies}
use Rattle.carrier.specs.Waits.{at}
use Rattle.carrier.proofs.Asking.{one_load, one_fresh}
use Rattle.carrier.proofs.Posting.{part, part_none, part_skip, part_more, part_all, part_gone, part_room}
use Rattle.rack.specs.Racks.{stored, capacity, spare}
use Rattle.tray.proofs.tray.calls.fill.Goals as goal
use Rattle.tray.proofs.tray.calls.fill.Goals.{then-contains, else-contains}

pub loop-q-init : goal.loop-q-init
loop-q-init g c =
    let p = c.args.item.now in
    (sym (part_none (member p.to) p.number p.held (stored c.args.rack.now)), refl)

pub loop-q-preserved : goal.loop-q-preserved
unfolding receivers
loop-q-preserved g c =
    let p = c.args.item.now in
    let f = member p.to in
    let w = stored c.args.rack.now in
    let k = capacity c.args.rack.now in
    let r = c.loop-q.rack in
    let q = c.loop-q.q in
    let low = c.loop-q-test.true in
    elim c.if-contains.branch [
      | then-contains v ↦
          let yes' : f q ≡ true = sym c.contains.ensures ∙ v.if-contains.true in
          let some = how_many_some f 256 q low yes' in
          let fresh = one_fresh by_copy refl k w p c.requires (λ z. omega (arith, z, some)) in
          let gone : is_some (stored r p.number q) ≡ false = ap (λ u. is_some (u p.number q)) c.loop-q.invariant.0 ∙ part_gone f p.number p.held w q low fresh in
          let few : copies (stored r) < capacity r =
          omega (arith, ap copies c.loop-q.invariant.0, c.loop-q.invariant.1, part_room f p.number p.held w q k low yes' (one_load by_copy refl k w p c.requires)) in
          let free : spare r p.number q ≡ true = and_from _ _ (not_from_false _ gone) (lt-ltb _ _ few) in (
            ap stored v.rack-is ∙ v.insert.ensures.after ∙ cond-true _ _ _ free ∙ ap (at p.number q (Some p.held)) c.loop-q.invariant.0 ∙ sym (part_more f p.number p.held w q yes'),
            ap capacity v.rack-is ∙ v.insert.ensures.same ∙ c.loop-q.invariant.1,
          )
      | else-contains v ↦
          let no' : f q ≡ false = sym c.contains.ensures ∙ v.if-contains.false in (
            ap stored v.rack-is ∙ c.loop-q.invariant.0 ∙ sym (part_skip f p.number p.held w q no'),
            ap capacity v.rack-is ∙ c.loop-q.invariant.1,
          )
    ]

pub returns : goal.returns
returns g c =
    let p = c.args.item.now in
    let f = member p.to in
    let w = stored c.args.rack.now in
    let end : c.loop-q.q ≡ 256 = omega (arith, c.loop-q-test.false, c.loop-q.auto.q-end) in
    record {
      after = c.loop-q.invariant.0 ∙ ap (part f p.number p.held w) end ∙ part_all f p.number p.held w (member_past p.to);
      same = c.loop-q.invariant.1;
    }
