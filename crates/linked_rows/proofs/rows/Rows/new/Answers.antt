use Rattle.std.proofs.Common.{[], replicate}
use Rattle.linked_rows.proofs.LinkedFacts.{kept, lone_linked}
use Rattle.linked_rows.proofs.RowFacts.{lone_shows}
use Rattle.linked_rows.proofs.rows.Rows.new.Goals as goal

pub invariant_of-result : goal.invariant_of-result
invariant_of-result c =
    kept c.in_ok-links.links.items c.args.nodes (replicate c.args.lists [])
    (lone_linked c.in_ok-links.links.items c.args.nodes c.args.lists c.requires.few_nodes c.requires.few_lists c.in_ok-links.ensures.size c.in_ok-links.ensures.each)

pub returns : goal.returns
returns c =
    lone_shows c.in_ok-links.links.items c.args.nodes c.args.lists
    (lone_linked c.in_ok-links.links.items c.args.nodes c.args.lists c.requires.few_nodes c.requires.few_lists c.in_ok-links.ensures.size c.in_ok-links.ensures.each)
