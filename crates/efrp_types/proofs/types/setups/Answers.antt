use Rattle.std.specs.Prelude.{List}
use Rattle.frp_tree.specs.declared.syntax.Setup.{Setup}
use Rattle.efrp_types.specs.TypeFaults.{setup_byte_faults}
use Rattle.efrp_types.proofs.AnswerLaws.{gone-more, gone-told, gone-all}
use Rattle.efrp_types.proofs.types.setups.Goals as goal

pub returns-in_err-setup : goal.returns-in_err-setup
returns-in_err-setup c =
    gone-told (λ (before : List Setup) (s : Setup). setup_byte_faults s) c.args.setups.now c.loop-i.i c.index-setups-i.result _ c.from_residual.result c.loop-i-test.true c.index-setups-i.is c.loop-i.invariant c.from_residual.ensures.1 c.in_err-setup.ensures

pub returns : goal.returns
returns c = gone-all (λ (before : List Setup) (s : Setup). setup_byte_faults s) c.args.setups.now c.loop-i.i c.loop-i.auto.i-end c.loop-i-test.false c.loop-i.invariant

pub loop-i-preserved : goal.loop-i-preserved
loop-i-preserved c = gone-more (λ (before : List Setup) (s : Setup). setup_byte_faults s) c.args.setups.now c.loop-i.i c.index-setups-i.result c.loop-i-test.true c.index-setups-i.is c.loop-i.invariant c.in_ok-setup.ensures
