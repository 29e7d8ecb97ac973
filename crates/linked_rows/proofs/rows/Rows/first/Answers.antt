use Rattle.std.proofs.Common.{◌∙◌}
use Rattle.linked_rows.proofs.RowFacts.{first_then}
use Rattle.linked_rows.proofs.rows.Rows.first.Goals as goal

pub returns : goal.returns
returns c = c.node_at.ensures ∙ first_then c.self.inside.links.items c.self.inside.nodes c.args.self.now c.self.invariant c.self.view_is c.args.list c.index.result.now c.requires c.index.ensures
