use Rattle.std.proofs.Common.{subst}
use Rattle.frp_tree.specs.Tree.{clause_of, program_tree_of}
use Rattle.efrp_types.specs.Answers.{Tells}
use Rattle.efrp_types.specs.NameFaults.{clause_faults}
use Rattle.efrp_types.proofs.DeclFacts.{after-trees}
use Rattle.efrp_types.proofs.names.behaviour.Goals as goal

pub returns-in-Reactive : goal.returns-in-Reactive
returns-in-Reactive c =
    rw c.in-Reactive.is (subst (λ zs. Tells zs c.clauses.result) (after-trees clause_of (clause_faults (program_tree_of c.args.p.now) c.args.owner.now) c.in-Reactive.its_clauses)
    (rw c.as_slice.ensures at c.clauses.ensures))
