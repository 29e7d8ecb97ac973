use Rattle.std.proofs.Common.{◌∙◌, ap}
use Rattle.frp_tree.specs.Printed.{printed}
use Rattle.frp_tool.proofs.BigTextFacts.{read_large}
use Rattle.frp_tool.proofs.bigs.program_of.Goals as goal

pub returns : goal.returns
returns c = read_large c.args.number c.as_slice.result.now (c.as_slice.ensures ∙ c.in_ok-text.ensures.printed ∙ ap printed c.in_ok-program.ensures) c.program_in.result c.program_in.ensures
