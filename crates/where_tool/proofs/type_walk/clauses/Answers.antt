use Rattle.std.specs.Prelude.{ℕ, List}
use Rattle.frp_tree.specs.declared.syntax.Clause.{Clause}
use Rattle.frp_tree.specs.Tree.{program_tree_of, tree_of}
use Rattle.efrp_types.specs.Ready.{IsFit}
use Rattle.efrp_types.proofs.RowLaws.{all-at}
use Rattle.where_tool.specs.declared.parts.Host.TheVariants as host
use Rattle.where_tool.specs.Visits.{typed_visits}
use Rattle.where_tool.specs.Walks.{AreFew}
use Rattle.where_tool.proofs.WalkFacts.{gone-halts, gone-all, gone-more}
use Rattle.where_tool.proofs.type_walk.clauses.Goals as goal

pub returns-in_err-expression : goal.returns-in_err-expression
returns-in_err-expression c =
    gone-halts (λ (n : ℕ) (before : List Clause) (k : Clause). typed_visits (program_tree_of c.args.p.now) c.args.d.now.name (host.Clause c.args.decl n) c.args.d.now.ty (tree_of k.expr)) c.args.clauses.now c.loop-i.i c.index-clauses-i.result
    _ c.from_residual.result c.loop-i-test.true c.index-clauses-i.is c.loop-i.invariant c.from_residual.ensures.1 c.in_err-expression.ensures

pub returns : goal.returns
returns c = (gone-all (λ (n : ℕ) (before : List Clause) (k : Clause). typed_visits (program_tree_of c.args.p.now) c.args.d.now.name (host.Clause c.args.decl n) c.args.d.now.ty (tree_of k.expr)) c.args.clauses.now c.loop-i.i c.loop-i.auto.i-end c.loop-i-test.false c.loop-i.invariant, tt)

pub loop-i-preserved : goal.loop-i-preserved
loop-i-preserved c =
    let walked = c.in_ok-expression.ensures in
    gone-more (λ (n : ℕ) (before : List Clause) (k : Clause). typed_visits (program_tree_of c.args.p.now) c.args.d.now.name (host.Clause c.args.decl n) c.args.d.now.ty (tree_of k.expr)) c.args.clauses.now c.loop-i.i c.index-clauses-i.result
    c.loop-i-test.true c.index-clauses-i.is c.loop-i.invariant walked.0

pub expression-requires-clause-fit : goal.expression-requires-clause-fit
expression-requires-clause-fit c = all-at (λ (k : Clause). IsFit (program_tree_of c.args.p.now) (tree_of k.expr)) c.args.clauses.now c.loop-i.i c.index-clauses-i.result c.loop-i-test.true c.index-clauses-i.is c.requires.fit

pub expression-requires-clause-few : goal.expression-requires-clause-few
expression-requires-clause-few c = all-at (λ (k : Clause). AreFew 0 (tree_of k.expr)) c.args.clauses.now c.loop-i.i c.index-clauses-i.result c.loop-i-test.true c.index-clauses-i.is c.requires.few
