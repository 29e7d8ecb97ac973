use Rattle.std.proofs.Common.{refl}
use Rattle.frp_tree.specs.Tree.{program_tree_of}
use Rattle.frp_tool.proofs.CompileFacts.{is_fault}
use Rattle.frp_tool.proofs.compiles.texts_in.Goals as goal

pub returns-in_ok-build_line-in-Err : goal.returns-in_ok-build_line-in-Err
returns-in_ok-build_line-in-Err c =
    let line = c.in_ok-build_line-in-Err.ensures in
    (c.in-Err.fault, is_fault (program_tree_of c.args.c.now.typed.program) c.in-Err.fault line.0 c.in-Err.ensures.err, refl, line.1)
