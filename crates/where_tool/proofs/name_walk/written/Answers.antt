use Rattle.std.specs.Prelude.{ℕ, List}
use Rattle.frp_tree.specs.declared.syntax.Output.{Output}
use Rattle.frp_tree.specs.Tree.{program_tree_of, tree_of}
use Rattle.where_tool.specs.declared.parts.Host.TheVariants as host
use Rattle.where_tool.specs.Visits.{use_visits}
use Rattle.efrp_types.proofs.RowLaws.{all-at}
use Rattle.where_tool.specs.Walks.{AreFew}
use Rattle.where_tool.proofs.WalkFacts.{gone-halts, gone-all, gone-more}
use Rattle.where_tool.proofs.name_walk.written.Goals as goal

pub returns-in_err-expression : goal.returns-in_err-expression
returns-in_err-expression c =
    gone-halts (λ (n : ℕ) (before : List Output) (o : Output). use_visits (program_tree_of c.args.p.now) (host.Output n) 0 (tree_of o.expr)) c.args.outputs.now c.loop-i.i c.index-outputs-i.result _ c.from_residual.result c.loop-i-test.true c.index-outputs-i.is c.loop-i.invariant c.from_residual.ensures.1 c.in_err-expression.ensures

pub returns : goal.returns
returns c = (gone-all (λ (n : ℕ) (before : List Output) (o : Output). use_visits (program_tree_of c.args.p.now) (host.Output n) 0 (tree_of o.expr)) c.args.outputs.now c.loop-i.i c.loop-i.auto.i-end c.loop-i-test.false c.loop-i.invariant, tt)

pub loop-i-preserved : goal.loop-i-preserved
loop-i-preserved c = let walked = c.in_ok-expression.ensures in gone-more (λ (n : ℕ) (before : List Output) (o : Output). use_visits (program_tree_of c.args.p.now) (host.Output n) 0 (tree_of o.expr)) c.args.outputs.now c.loop-i.i c.index-outputs-i.result c.loop-i-test.true c.index-outputs-i.is c.loop-i.invariant walked.0

pub expression-requires : goal.expression-requires
expression-requires c = all-at (λ (o : Output). AreFew 0 (tree_of o.expr)) c.args.outputs.now c.loop-i.i c.index-outputs-i.result c.loop-i-test.true c.index-outputs-i.is c.requires
