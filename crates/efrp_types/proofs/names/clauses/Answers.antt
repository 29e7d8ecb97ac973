use Rattle.std.specs.Prelude.{List, map}
use Rattle.frp_tree.specs.declared.syntax.Clause.{Clause}
use Rattle.frp_tree.specs.Tree.{program_tree_of, clause_of}
use Rattle.efrp_types.specs.NameFaults.{clause_faults}
use Rattle.efrp_types.proofs.AnswerLaws.{gone-more, gone-told, gone-all}
use Rattle.efrp_types.proofs.names.clauses.Goals as goal

pub returns-in_err-clause : goal.returns-in_err-clause
returns-in_err-clause c =
    gone-told (λ (before : List Clause) (k : Clause). clause_faults (program_tree_of c.args.p.now) c.args.owner.now (map clause_of before) (clause_of k)) c.args.clauses.now c.loop-i.i c.index-clauses-i.result _ c.from_residual.result c.loop-i-test.true c.index-clauses-i.is c.loop-i.invariant c.from_residual.ensures.1 c.in_err-clause.ensures

pub returns : goal.returns
returns c = gone-all (λ (before : List Clause) (k : Clause). clause_faults (program_tree_of c.args.p.now) c.args.owner.now (map clause_of before) (clause_of k)) c.args.clauses.now c.loop-i.i c.loop-i.auto.i-end c.loop-i-test.false c.loop-i.invariant

pub loop-i-preserved : goal.loop-i-preserved
loop-i-preserved c = gone-more (λ (before : List Clause) (k : Clause). clause_faults (program_tree_of c.args.p.now) c.args.owner.now (map clause_of before) (clause_of k)) c.args.clauses.now c.loop-i.i c.index-clauses-i.result c.loop-i-test.true c.index-clauses-i.is c.loop-i.invariant c.in_ok-clause.ensures
