use Rattle.frp_tree.specs.Tree.{program_tree_of}
use Rattle.std.proofs.Common.{◌∙◌}
use Rattle.program_bounds.proofs.sizes.levels_of.Goals as goal

pub returns-in-Ok-clause-levels : goal.returns-in-Ok-clause-levels
returns-in-Ok-clause-levels c = c.from.ensures ∙ c.count.ensures (program_tree_of c.args.c.now.typed.program) c.in-Ok.ensures.ok
