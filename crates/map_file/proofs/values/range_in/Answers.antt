use Rattle.std.proofs.Common.{arith, rules}
use Rattle.map_file.proofs.ValueFacts.{range_bytes}
use Rattle.map_file.proofs.values.range_in.Goals as goal

pub returns-then-from-to : goal.returns-then-from-to
returns-then-from-to c =
    let first = c.in_ok-from-in-45.ensures in
    let last = c.in_ok-to-in-45.ensures in
    ((c.if-from-to.true, last.0), range_bytes c.args.field.now _ _ (omega arith) first.1 (search rules) last.1)
