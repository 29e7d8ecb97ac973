use Rattle.where_tool.specs.Visits.{setup_visits}
use Rattle.where_tool.proofs.WalkFacts.{gone-halts, gone-all, gone-more}
use Rattle.where_tool.proofs.name_walk.setups.Goals as goal

pub returns-in_err-met : goal.returns-in_err-met
returns-in_err-met c =
    gone-halts setup_visits c.args.setups.now c.loop-i.i c.index-setups-i.result _ c.from_residual.result c.loop-i-test.true c.index-setups-i.is c.loop-i.invariant c.from_residual.ensures.1 (c.in_err-met.ensures _ c.setup.ensures)

pub returns : goal.returns
returns c = (gone-all setup_visits c.args.setups.now c.loop-i.i c.loop-i.auto.i-end c.loop-i-test.false c.loop-i.invariant, tt)

pub loop-i-preserved : goal.loop-i-preserved
loop-i-preserved c = let walked = c.in_ok-met.ensures _ c.setup.ensures in gone-more setup_visits c.args.setups.now c.loop-i.i c.index-setups-i.result c.loop-i-test.true c.index-setups-i.is c.loop-i.invariant walked.0
