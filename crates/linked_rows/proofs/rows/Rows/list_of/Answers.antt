use Rattle.linked_rows.specs.Rows.{IsIn}
use Rattle.linked_rows.proofs.RowFacts.{none_from_found, found_then, found_else}
use Rattle.linked_rows.proofs.rows.Rows.list_of.Goals as goal

pub returns-then-node-self-clause-found : goal.returns-then-node-self-clause-found
returns-then-node-self-clause-found c =
    found_then c.self.inside.links.items c.self.inside.nodes c.args.self.now c.self.invariant c.self.view_is c.args.node c.index.result.now c.if-node-self.true c.index.ensures

pub returns-then-node-self-clause-none : goal.returns-then-node-self-clause-none
returns-then-node-self-clause-none c = none_from_found c.index.result.now.list (IsIn c.args.self.now c.args.node) (returns-then-node-self-clause-found c)

pub returns-else-node-self-clause-found : goal.returns-else-node-self-clause-found
returns-else-node-self-clause-found c =
    found_else c.self.inside.links.items c.self.inside.nodes c.args.self.now c.self.invariant c.self.view_is c.args.node c.if-node-self.false

pub returns-else-node-self-clause-none : goal.returns-else-node-self-clause-none
returns-else-node-self-clause-none c = none_from_found _ (IsIn c.args.self.now c.args.node) (returns-else-node-self-clause-found c)
