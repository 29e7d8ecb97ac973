use Rattle.std.proofs.Common.{subst}
use Rattle.std.proofs.lemmas.List.{take_all}
use Rattle.where_tool.proofs.LineFacts.{HasLines, no-lines-yet, lines-more, line-start}
use Rattle.where_tool.proofs.spots.line_start.Goals as goal

pub loop-i-init : goal.loop-i-init
loop-i-init c = no-lines-yet

pub loop-i-preserved : goal.loop-i-preserved
loop-i-preserved c = lines-more c.args.before.now c.loop-i.i c.loop-i.start c.start_behind-start.result c.loop-i-test.true c.start_behind-start.ensures c.loop-i.invariant

pub returns : goal.returns
returns c = line-start c.args.before.now c.loop-i.start (subst (λ ys. HasLines ys c.loop-i.start) (take_all c.loop-i.i c.args.before.now c.loop-i-test.false) c.loop-i.invariant)
