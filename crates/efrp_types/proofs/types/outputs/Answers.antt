use Rattle.std.specs.Prelude.{List}
use Rattle.frp_tree.specs.declared.syntax.Output.{Output}
use Rattle.frp_tree.specs.declared.syntax.Ty.TheVariants.{U8}
use Rattle.frp_tree.specs.Tree.{program_tree_of, tree_of}
use Rattle.efrp_types.specs.Ready.{IsFit}
use Rattle.efrp_types.specs.TypeFaults.{faults_as}
use Rattle.efrp_types.proofs.AnswerLaws.{gone-more, gone-told, gone-all}
use Rattle.efrp_types.proofs.RowLaws.{all-at}
use Rattle.efrp_types.proofs.types.outputs.Goals as goal

pub returns-in_err-as_type : goal.returns-in_err-as_type
returns-in_err-as_type c =
    gone-told (λ (before : List Output) (o : Output). faults_as (program_tree_of c.args.p.now) o.port U8 (tree_of o.expr)) c.args.outputs.now c.loop-i.i c.index-outputs-i.result _ c.from_residual.result c.loop-i-test.true c.index-outputs-i.is c.loop-i.invariant c.from_residual.ensures.1 c.in_err-as_type.ensures

pub returns : goal.returns
returns c = gone-all (λ (before : List Output) (o : Output). faults_as (program_tree_of c.args.p.now) o.port U8 (tree_of o.expr)) c.args.outputs.now c.loop-i.i c.loop-i.auto.i-end c.loop-i-test.false c.loop-i.invariant

pub loop-i-preserved : goal.loop-i-preserved
loop-i-preserved c = gone-more (λ (before : List Output) (o : Output). faults_as (program_tree_of c.args.p.now) o.port U8 (tree_of o.expr)) c.args.outputs.now c.loop-i.i c.index-outputs-i.result c.loop-i-test.true c.index-outputs-i.is c.loop-i.invariant c.in_ok-as_type.ensures

pub as_type-requires-clause-fit : goal.as_type-requires-clause-fit
as_type-requires-clause-fit c = all-at (λ (o : Output). IsFit (program_tree_of c.args.p.now) (tree_of o.expr)) c.args.outputs.now c.loop-i.i c.index-outputs-i.result c.loop-i-test.true c.index-outputs-i.is c.requires.fit
