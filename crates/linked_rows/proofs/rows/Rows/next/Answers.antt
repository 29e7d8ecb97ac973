use Rattle.std.proofs.Common.{◌∙◌, arith}
use Rattle.linked_rows.proofs.RowFacts.{below, next_then}
use Rattle.linked_rows.proofs.rows.Rows.next.Goals as goal

pub index-requires : goal.index-requires
index-requires c = omega (arith, below c.self.inside.links.items c.self.inside.nodes c.args.self.now c.self.invariant c.self.view_is c.args.node c.requires, c.self.inside.links.ok.0)

pub returns : goal.returns
returns c l a b st = c.node_at.ensures ∙ next_then c.self.inside.links.items c.self.inside.nodes c.args.self.now c.self.invariant c.self.view_is c.args.node c.index.result.now l a b c.index.ensures st
