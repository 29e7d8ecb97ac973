use Rattle.frp_tree.specs.Tree.{ClauseTree, clause_of, program_tree_of}
use Rattle.efrp_types.specs.Ready.{IsFit}
use Rattle.efrp_types.proofs.RowLaws.{all-of}
use Rattle.where_tool.specs.Visits.{typed_clause_visits}
use Rattle.where_tool.specs.Walks.{AreFew}
use Rattle.where_tool.proofs.WalkFacts.{handed-first, walks-rest, visited-trees}
use Rattle.where_tool.proofs.type_walk.behaviour.Goals as goal

pub returns-in-Input : goal.returns-in-Input
returns-in-Input c = rw c.in-Input.is (c.met.ensures _ c.unlike.ensures)

pub returns-in-Table : goal.returns-in-Table
returns-in-Table c = rw c.in-Table.is (rw c.as_slice.ensures at c.entries.ensures (program_tree_of c.args.p.now))

pub returns-in_err-met-in-Reactive : goal.returns-in_err-met-in-Reactive
returns-in_err-met-in-Reactive c =
    rw c.in-Reactive.is (handed-first _ _ (λ (done : Unit {0}). Unit {0}) _ c.from_residual.result c.from_residual.ensures.1 (c.in_err-met-in-Reactive.ensures _ (c.literal_as-told.ensures (program_tree_of c.args.p.now))))

pub clauses-requires-clause-fit : goal.clauses-requires-clause-fit
clauses-requires-clause-fit c =
    rw c.as_slice-in-Reactive.ensures
    (all-of (λ (k : ClauseTree). IsFit (program_tree_of c.args.p.now) k.expr) clause_of c.in-Reactive.its_clauses (rw c.in-Reactive.is at c.requires.fit))

pub clauses-requires-clause-few : goal.clauses-requires-clause-few
clauses-requires-clause-few c =
    rw c.as_slice-in-Reactive.ensures (all-of (λ (k : ClauseTree). AreFew 0 k.expr) clause_of c.in-Reactive.its_clauses (rw c.in-Reactive.is at c.requires.few))

pub returns-in_ok-met-in-Reactive : goal.returns-in_ok-met-in-Reactive
returns-in_ok-met-in-Reactive c =
    let walked = c.in_ok-met-in-Reactive.ensures _ (c.literal_as-told.ensures (program_tree_of c.args.p.now)) in
    rw c.in-Reactive.is (walks-rest _ _ (λ (done : Unit {0}). Unit {0}) c.clauses.result walked.0
    (rw (c.as_slice-in-Reactive.ensures, visited-trees clause_of (typed_clause_visits (program_tree_of c.args.p.now) c.args.d.now.name c.args.d.now.ty c.args.decl) c.in-Reactive.its_clauses) at c.clauses.ensures))
