use Rattle.std.proofs.Common.{◌+◌, ◌≤◌, length, drop, set, arith, rules}
use Rattle.std.proofs.lemmas.List.{length-set, length-drop}
use Rattle.std.proofs.lemmas.List.Sums.{prefix_len-le-length}
use Rattle.rack.specs.Entries.{dead}
use Rattle.rack.proofs.shift.put_over.Goals as goal

pub overflow_add-result : goal.overflow_add-result
overflow_add-result g c =
    let xs = set c.args.records.now c.args.i c.args.entry in
    let few : c.args.first + c.dead_past.result ≤ length c.args.records.now =
    omega (arith, c.dead_past.ensures, prefix_len-le-length dead (drop c.args.first xs), length-drop c.args.first xs, length-set c.args.records.now c.args.i c.args.entry, c.requires.known) in
    search rules
