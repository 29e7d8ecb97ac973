use Rattle.std.proofs.Common.{◌∙◌, [], drop, sym}
use Rattle.linked_rows.specs.Rows.{row}
use Rattle.linked_rows.proofs.RowFacts.{head_row}
use Rattle.linked_rows.proofs.rows.Rows.pop_front.Goals as goal

pub returns-in-Some-clause-left : goal.returns-in-Some-clause-left
returns-in-Some-clause-left c = c.remove.ensures.moved c.args.list [] (drop 1 (row c.args.self.now c.args.list)) (head_row (row c.args.self.now c.args.list) c.in-Some.node (sym c.first-first.ensures ∙ c.in-Some.is))
