use Rattle.std.specs.Prelude.{List}
use Rattle.frp_tree.specs.declared.syntax.Output.{Output}
use Rattle.frp_tree.specs.Tree.{program_tree_of, tree_of}
use Rattle.efrp_types.specs.NameFaults.{use_faults}
use Rattle.efrp_types.proofs.AnswerLaws.{gone-more, gone-told, gone-all}
use Rattle.efrp_types.proofs.names.written.Goals as goal

pub returns-in_err-uses : goal.returns-in_err-uses
returns-in_err-uses c =
    gone-told (λ (before : List Output) (o : Output). use_faults (program_tree_of c.args.p.now) (tree_of o.expr)) c.args.outputs.now c.loop-i.i c.index-outputs-i.result _ c.from_residual.result c.loop-i-test.true c.index-outputs-i.is c.loop-i.invariant c.from_residual.ensures.1 c.in_err-uses.ensures

pub returns : goal.returns
returns c = gone-all (λ (before : List Output) (o : Output). use_faults (program_tree_of c.args.p.now) (tree_of o.expr)) c.args.outputs.now c.loop-i.i c.loop-i.auto.i-end c.loop-i-test.false c.loop-i.invariant

pub loop-i-preserved : goal.loop-i-preserved
loop-i-preserved c = gone-more (λ (before : List Output) (o : Output). use_faults (program_tree_of c.args.p.now) (tree_of o.expr)) c.args.outputs.now c.loop-i.i c.index-outputs-i.result c.loop-i-test.true c.index-outputs-i.is c.loop-i.invariant c.in_ok-uses.ensures
