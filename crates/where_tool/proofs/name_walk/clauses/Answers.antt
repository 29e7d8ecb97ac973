use Rattle.std.specs.Prelude.{ℕ, List, map}
use Rattle.frp_tree.specs.declared.syntax.Clause.{Clause}
use Rattle.frp_tree.specs.Tree.{program_tree_of, clause_of, tree_of}
use Rattle.efrp_types.proofs.RowLaws.{all-at}
use Rattle.where_tool.specs.Visits.{clause_visits}
use Rattle.where_tool.specs.Walks.{AreFew}
use Rattle.where_tool.proofs.WalkFacts.{gone-halts, gone-all, gone-more, halts-first, halts-rest, none-both}
use Rattle.where_tool.proofs.name_walk.clauses.Goals as goal

pub returns-in_err-met : goal.returns-in_err-met
returns-in_err-met c =
    gone-halts (λ (n : ℕ) (before : List Clause) (k : Clause). clause_visits (program_tree_of c.args.p.now) c.args.owner.now c.args.decl n (map clause_of before) (clause_of k)) c.args.clauses.now c.loop-i.i c.index-clauses-i.result
    _ c.from_residual.result c.loop-i-test.true c.index-clauses-i.is c.loop-i.invariant c.from_residual.ensures.1
    (halts-first _ _ _ (c.in_err-met.ensures _ c.clause_event-told.ensures))

pub expression-requires : goal.expression-requires
expression-requires c = all-at (λ (k : Clause). AreFew 0 (tree_of k.expr)) c.args.clauses.now c.loop-i.i c.index-clauses-i.result c.loop-i-test.true c.index-clauses-i.is c.requires

pub returns-in_err-expression : goal.returns-in_err-expression
returns-in_err-expression c =
    let walked = c.in_ok-met.ensures _ c.clause_event-told.ensures in
    gone-halts (λ (n : ℕ) (before : List Clause) (k : Clause). clause_visits (program_tree_of c.args.p.now) c.args.owner.now c.args.decl n (map clause_of before) (clause_of k)) c.args.clauses.now c.loop-i.i c.index-clauses-i.result
    _ c.from_residual-in_err-expression.result c.loop-i-test.true c.index-clauses-i.is c.loop-i.invariant c.from_residual-in_err-expression.ensures.1
    (halts-rest _ _ _ walked.0 c.in_err-expression.ensures)

pub returns : goal.returns
returns c =
    (gone-all (λ (n : ℕ) (before : List Clause) (k : Clause). clause_visits (program_tree_of c.args.p.now) c.args.owner.now c.args.decl n (map clause_of before) (clause_of k)) c.args.clauses.now c.loop-i.i c.loop-i.auto.i-end c.loop-i-test.false c.loop-i.invariant, tt)

pub loop-i-preserved : goal.loop-i-preserved
loop-i-preserved c =
    let walked = c.in_ok-met.ensures _ c.clause_event-told.ensures in
    let used = c.in_ok-expression.ensures in
    gone-more (λ (n : ℕ) (before : List Clause) (k : Clause). clause_visits (program_tree_of c.args.p.now) c.args.owner.now c.args.decl n (map clause_of before) (clause_of k)) c.args.clauses.now c.loop-i.i c.index-clauses-i.result
    c.loop-i-test.true c.index-clauses-i.is c.loop-i.invariant (none-both _ _ walked.0 used.0)
