use Rattle.std.specs.Prelude.{List, map}
use Rattle.frp_tree.specs.declared.syntax.Output.{Output}
use Rattle.frp_tree.specs.Tree.{output_of}
use Rattle.efrp_types.specs.NameFaults.{output_faults}
use Rattle.efrp_types.proofs.AnswerLaws.{gone-more, gone-told, gone-all}
use Rattle.efrp_types.proofs.names.outputs.Goals as goal

pub returns-in_err-output : goal.returns-in_err-output
returns-in_err-output c =
    gone-told (λ (before : List Output) (o : Output). output_faults (map output_of before) (output_of o)) c.args.outputs.now c.loop-i.i c.index-outputs-i.result _ c.from_residual.result c.loop-i-test.true c.index-outputs-i.is c.loop-i.invariant c.from_residual.ensures.1 c.in_err-output.ensures

pub returns : goal.returns
returns c = gone-all (λ (before : List Output) (o : Output). output_faults (map output_of before) (output_of o)) c.args.outputs.now c.loop-i.i c.loop-i.auto.i-end c.loop-i-test.false c.loop-i.invariant

pub loop-i-preserved : goal.loop-i-preserved
loop-i-preserved c = gone-more (λ (before : List Output) (o : Output). output_faults (map output_of before) (output_of o)) c.args.outputs.now c.loop-i.i c.index-outputs-i.result c.loop-i-test.true c.index-outputs-i.is c.loop-i.invariant c.in_ok-output.ensures
