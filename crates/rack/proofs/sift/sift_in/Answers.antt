use Rattle.std.proofs.Common.{ℕ, ◌+◌, ◌<◌, length, set, sym, refl, ap, ◌∙◌, subst, arith, rules}
use Rattle.std.proofs.lemmas.List.{take_all}
use Rattle.rack.specs.Entries.{sifted}
use Rattle.rack.proofs.Sifting.{Sifting, sifted_drops, sifted_keeps, sifting_drops, sifting_keeps}
use Rattle.rack.proofs.sift.sift_in.Goals as goal
use Rattle.rack.proofs.sift.sift_in.Goals.{in-Some, in_default}

pub offset_bounds-records-count : goal.offset_bounds-records-count
offset_bounds-records-count g c = let h : c.loop-i.count < length c.args.records.now = omega (arith, c.loop-i.invariant.0) in search rules

pub loop-i-init : goal.loop-i-init
loop-i-init g c = (omega arith, λ f h. record { done = refl; rest = refl; behind_i = omega arith; long = refl })

pub loop-i-preserved : goal.loop-i-preserved
loop-i-preserved g c =
    let xs = c.args.records.now in
    let ys = c.loop-i.records in
    let x = c.index-records-i.result in
    let i = c.loop-i.i in
    let k = c.loop-i.count in
    let within : i < length xs = omega arith in
    elim c.match-rest.branch [
      | in-Some w ↦
          let z = w.in-Some.left in (
            omega (arith, c.loop-i.invariant.0, w.count-is),
            λ f h.
                let left = sifting_keeps f xs ys k i (c.loop-i.invariant.1 f h) x within c.index-records-i.is z (sifted_keeps f x z (sym (c.rest.ensures f h) ∙ w.in-Some.is)) in
                subst (λ zs. Sifting f xs zs c.match-rest.count (i + 1)) (sym w.records-is) (subst (λ (n : ℕ). Sifting f xs (set ys k z) n (i + 1)) (sym w.count-is) left),
          )
      | in_default w ↦ (
        omega (arith, c.loop-i.invariant.0, w.count-is),
        λ f h.
            let left = sifting_drops f xs ys k i (c.loop-i.invariant.1 f h) x within c.index-records-i.is (sifted_drops f x (sym (c.rest.ensures f h) ∙ w.in_default.is)) in
            subst (λ zs. Sifting f xs zs c.match-rest.count (i + 1)) (sym w.records-is) (subst (λ (n : ℕ). Sifting f xs ys n (i + 1)) (sym w.count-is) left),
      )
    ]

pub returns-clause-kept : goal.returns-clause-kept
returns-clause-kept g c = λ f h. (c.loop-i.invariant.1 f h).done ∙ ap (sifted f) (take_all c.loop-i.i c.args.records.now c.loop-i-test.false)
