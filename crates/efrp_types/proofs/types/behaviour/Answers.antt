use Rattle.std.proofs.Common.{subst}
use Rattle.frp_tree.specs.Tree.{ClauseTree, clause_of, program_tree_of}
use Rattle.efrp_types.specs.Answers.{Tells}
use Rattle.efrp_types.specs.Ready.{IsFit}
use Rattle.efrp_types.specs.TypeFaults.{faults_as, literal_faults}
use Rattle.efrp_types.proofs.AnswerLaws.{told-first, rest-tells}
use Rattle.efrp_types.proofs.DeclFacts.{flat-row, flat-trees}
use Rattle.efrp_types.proofs.RowLaws.{all-of}
use Rattle.efrp_types.proofs.types.behaviour.Goals as goal

pub returns-in-Table : goal.returns-in-Table
returns-in-Table c =
    rw c.in-Table.is (subst (λ zs. Tells zs c.entries.result) (flat-row (literal_faults (program_tree_of c.args.p.now) c.args.d.now.name c.args.d.now.ty) c.in-Table.its_entries)
    (rw c.as_slice.ensures at c.entries.ensures (program_tree_of c.args.p.now)))

pub returns-in_err-literal_as-in-Reactive : goal.returns-in_err-literal_as-in-Reactive
returns-in_err-literal_as-in-Reactive c =
    rw c.in-Reactive.is (told-first _ _ _ c.from_residual.result c.from_residual.ensures.1 (c.in_err-literal_as-in-Reactive.ensures (program_tree_of c.args.p.now)))

pub clauses-requires-clause-fit : goal.clauses-requires-clause-fit
clauses-requires-clause-fit c =
    rw c.as_slice-in-Reactive.ensures
    (all-of (λ (k : ClauseTree). IsFit (program_tree_of c.args.p.now) k.expr) clause_of c.in-Reactive.its_clauses (rw c.in-Reactive.is at c.requires.fit))

pub returns-in_ok-literal_as-in-Reactive : goal.returns-in_ok-literal_as-in-Reactive
returns-in_ok-literal_as-in-Reactive c =
    rw c.in-Reactive.is (rest-tells _ _ _ (c.in_ok-literal_as-in-Reactive.ensures (program_tree_of c.args.p.now))
    (subst (λ zs. Tells zs c.clauses.result) (flat-trees clause_of (λ (k : ClauseTree). faults_as (program_tree_of c.args.p.now) c.args.d.now.name c.args.d.now.ty k.expr) c.in-Reactive.its_clauses)
    (rw c.as_slice-in-Reactive.ensures at c.clauses.ensures)))
