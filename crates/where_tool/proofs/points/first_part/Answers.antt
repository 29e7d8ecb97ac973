use Rattle.frp_tree.specs.Tree.{program_tree_of}
use Rattle.where_tool.proofs.PointFacts.{none-not-first}
use Rattle.where_tool.proofs.points.first_part.Goals as goal

pub unreachable-requires : goal.unreachable-requires
unreachable-requires c =
    let walked = c.in-Ok.ensures in
    none-not-first (program_tree_of c.args.p.now) c.args.fault.now walked.0 c.requires.faulty
