use Rattle.where_tool.proofs.points.byte_of.Goals as goal

pub out_of_memory-requires : goal.out_of_memory-requires
out_of_memory-requires c = c.in-Err.ensures.none c.requires.0 c.requires.1
