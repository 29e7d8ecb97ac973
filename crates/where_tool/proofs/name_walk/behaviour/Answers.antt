use Rattle.frp_tree.specs.Tree.{ClauseTree, clause_of, program_tree_of}
use Rattle.efrp_types.proofs.RowLaws.{all-of}
use Rattle.where_tool.specs.Visits.{clause_visits}
use Rattle.where_tool.specs.Walks.{AreFew}
use Rattle.where_tool.proofs.WalkFacts.{none-visited, visited-trees}
use Rattle.where_tool.proofs.name_walk.behaviour.Goals as goal

pub clauses-requires : goal.clauses-requires
clauses-requires c =
    rw c.as_slice.ensures (all-of (λ (k : ClauseTree). AreFew 0 k.expr) clause_of c.in-Reactive.its_clauses (rw c.in-Reactive.is at c.requires))

pub returns-in-Reactive : goal.returns-in-Reactive
returns-in-Reactive c =
    rw c.in-Reactive.is (rw (c.as_slice.ensures, visited-trees clause_of (clause_visits (program_tree_of c.args.p.now) c.args.owner.now c.args.decl) c.in-Reactive.its_clauses) at c.clauses.ensures)

pub returns-in-Input : goal.returns-in-Input
returns-in-Input c = rw c.in-Input.is (none-visited, tt)

pub returns-in-Table : goal.returns-in-Table
returns-in-Table c = rw c.in-Table.is (none-visited, tt)
