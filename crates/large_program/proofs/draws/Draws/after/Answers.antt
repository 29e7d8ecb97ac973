use Rattle.std.proofs.Common.{sym}
use Rattle.large_program.proofs.DrawLaws.{next_drawn, none_yet}
use Rattle.large_program.proofs.draws.Draws.after.Goals as goal

-- src/draws.rt:34:9
pub loop-init : goal.loop-init
loop-init c = sym (none_yet c.args.n)

-- src/draws.rt:34:9
pub loop-preserved : goal.loop-preserved
loop-preserved c = next_drawn c.loop.counter c.args.n _ _ c.loop.invariant c.below.ensures.number
