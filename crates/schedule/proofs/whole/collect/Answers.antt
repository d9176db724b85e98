use Rattle.std.proofs.Common.{◌≡◌, List, [], ◌∷◌, ◌++◌, map, vec_items, sym, ap, ◌∙◌, arith}
use Rattle.std.proofs.lemmas.List.{map-append}
use Rattle.std.proofs.lemmas.Result.{err_from_is_err_and}
use Rattle.schedule.specs.Items.{PlacedItem, shown_placed}
use Rattle.schedule.specs.Readers.{verdict, to_come}
use Rattle.schedule.proofs.Lists.{prefixed, prefixed_more, prefixed_all, verdict_prefixed, verdict_ok}
use Rattle.schedule.proofs.Readings.{Moved, next_item, next_end, next_fault}
use Rattle.schedule.proofs.whole.collect.Goals as goal
use Rattle.schedule.proofs.whole.collect.Goals.{In-Some}

moved : (c : In-Some) → Moved c.args.file.now c.loop-records.reader c.next.new.self (shown_placed c.in-Some.placed)
moved c = next_item _ _ _ _ _ c.loop-records.invariant.1 c.next.ensures.file c.in-Some.is c.in_ok-placed.ensures.answer c.next.ensures.stage c.next.ensures.place

pub returns-in_err-placed : goal.returns-in_err-placed
returns-in_err-placed c =
    let p = err_from_is_err_and c.from_residual.result c.from_residual.ensures.1 in
    rw (p.1, p.2)
    (ap verdict c.loop-records.invariant.0 ∙ verdict_prefixed (map shown_placed (vec_items c.loop-records.records)) (to_come c.loop-records.reader)
    ∙ next_fault c.loop-records.reader c.in_err-placed.field-0.0 c.in_err-placed.ensures.answer)

pub loop-records-smaller : goal.loop-records-smaller
loop-records-smaller c = let m = moved (goal.at.loop-records-smaller c).In-Some in omega (arith, m.further, m.within)

pub loop-records-preserved : goal.loop-records-preserved
loop-records-preserved c =
    let m = moved (goal.at.loop-records-preserved c).In-Some in
    let xs : List PlacedItem = map shown_placed (vec_items c.loop-records.records) in
    let more : xs ++ shown_placed c.in-Some.placed ∷ [] ≡ map shown_placed (vec_items c.push.new.self) =
    sym (ap (map shown_placed) c.in_ok-push.ensures.items ∙ map-append shown_placed (vec_items c.loop-records.records) (c.in-Some.placed ∷ [])) in (
      c.loop-records.invariant.0 ∙ ap (prefixed xs) m.read ∙ prefixed_more xs (shown_placed c.in-Some.placed) (to_come c.next.new.self)
          ∙ ap (λ (ys : List PlacedItem). prefixed ys (to_come c.next.new.self)) more,
      m.same,
    )

pub returns-in_err-push : goal.returns-in_err-push
returns-in_err-push c =
    let p = err_from_is_err_and c.from_residual-in_err-push.result c.from_residual-in_err-push.ensures.1 in
    rw (p.1, p.2) (verdict_ok _ c.requires)

pub returns : goal.returns
returns c =
    let xs : List PlacedItem = map shown_placed (vec_items c.loop-records.records) in
    c.loop-records.invariant.0
    ∙ ap (prefixed xs) (next_end c.loop-records.reader _ c.in_default.is c.in_ok-placed.ensures.answer)
    ∙ prefixed_all xs
