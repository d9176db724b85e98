use Rattle.std.proofs.Common.{◌≡◌, ◌%◌, length, Some, sym, ap, ◌∙◌, arith, rules}
use Rattle.std.proofs.lemmas.List.{length-take-le}
use Rattle.rack.specs.Entries.{held_under, lives}
use Rattle.rack.specs.Racks.{kept, capacity}
use Rattle.rack.proofs.Sifting.{sifted_held, trimmed_all, keyed_lives, squeezed_le}
use Rattle.rack.proofs.rack.Rack.make_way.Goals as goal

pub returns-then-self-clause-after : goal.returns-then-self-clause-after
returns-then-self-clause-after g c =
    let r = c.args.self.now in
    λ j. ap (λ l. held_under l j) (c.squeeze.ensures.after (λ q v. Some v) (λ q v o l p. search rules)) ∙ sifted_held (λ q v. Some v) 0 j (kept r) r.order ∙ trimmed_all (j % 256) (held_under (kept r) j)

pub returns-then-self-clause-spare : goal.returns-then-self-clause-spare
returns-then-self-clause-spare g c =
    let r = c.args.self.now in
    let s = c.squeeze.new.self in
    omega (arith, c.squeeze.ensures.dense, s.count, ap lives (c.squeeze.ensures.after (λ q v. Some v) (λ q v o l p. search rules)), squeezed_le (kept r), r.count, c.requires.spare, c.squeeze.ensures.same)

pub returns-then-self-clause-free : goal.returns-then-self-clause-free
returns-then-self-clause-free g c =
    let s = c.squeeze.new.self in
    let all : lives (kept s) ≡ length (kept s) = sym s.count ∙ c.squeeze.ensures.dense ∙ sym (length-take-le s.len s.records.now s.within) in
    keyed_lives c.args.key.rank (kept s) all (returns-then-self-clause-after g c c.args.key.rank ∙ c.requires.gone)

pub returns-else-has_key-clause-spare : goal.returns-else-has_key-clause-spare
unfolding capacity
returns-else-has_key-clause-spare g c = omega (arith, c.args.self.now.within, c.if-self.false)

pub squeeze-requires-clause-followed : goal.squeeze-requires-clause-followed
squeeze-requires-clause-followed g c = (λ q v. Some v, λ q v o l p. search rules)
