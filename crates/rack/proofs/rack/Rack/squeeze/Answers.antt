use Rattle.std.proofs.Common.{◌≡◌, ◌≤◌, ◌++◌, length, take, drop, sym, refl, ap, ◌∙◌, arith}
use Rattle.std.proofs.lemmas.List.{length-take-le, take-append-le}
use Rattle.rack.specs.Entries.{sifted}
use Rattle.rack.specs.Racks.{kept, capacity}
use Rattle.rack.proofs.Shifting.{length_with}
use Rattle.rack.proofs.Keeping.{sound, sound_as, sifted_sound}
use Rattle.rack.proofs.rack.Rack.squeeze.Goals as goal

pub invariant_of-self : goal.invariant_of-self
invariant_of-self g c =
    let r = c.args.self.now in
    let f = c.requires.followed.0 in
    let n = c.sift_in-left.result in
    let ys = c.sift_in-left.new.records in
    let long : length ys ≡ r.len = c.sift_in-left.auto.records ∙ length-take-le r.len r.records.now r.within in
    let some : n ≤ length ys = omega (arith, c.sift_in-left.ensures.within, c.sift_in-left.auto.records) in
    let is : take n (ys ++ drop r.len r.records.now) ≡ sifted f (kept r) = take-append-le n ys _ some ∙ (c.sift_in-left.ensures.kept f c.requires.followed.1) in
    let left : length (sifted f (kept r)) ≡ n = ap length (sym (c.sift_in-left.ensures.kept f c.requires.followed.1)) ∙ length-take-le n ys some in
    let s = sifted_sound f (kept r) r.live r.first r.timely (sound r) in
    let t = sound_as _ _ _ _ _ _ _ s is (sym left) refl in
    record {
      within = omega (arith, some, long, r.within, length_with r.records.now ys r.len r.within c.sift_in-left.auto.records);
      order = t.order;
      count = t.count;
      front = t.front;
      ticks = t.ticks;
    }

pub returns-clause-same : goal.returns-clause-same
unfolding capacity
returns-clause-same g c =
    let r = c.args.self.now in
    length_with r.records.now c.sift_in-left.new.records r.len r.within c.sift_in-left.auto.records
