use Rattle.frp_tree.specs.Tree.{program_tree_of}
use Rattle.event_needs.proofs.NumberLaws.{event-at}
use Rattle.event_needs.proofs.lookups.event_name.Goals as goal

pub returns : goal.returns
returns c = event-at (program_tree_of c.args.program.now) c.as_slice.result.now c.args.event c.index-as_slice-event.result c.as_slice.ensures c.requires
