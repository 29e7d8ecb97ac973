use Rattle.std.proofs.Common.{◌≡◌, length}
use Rattle.text_parts.specs.Fields.{fields_of}
use Rattle.frp_tree.specs.Tree.{decl_of}
use Rattle.event_file.specs.Parts.{samples_for}
use Rattle.event_file.proofs.fields.first_given.Given as goal

abbrev pub invariant-loop-field : goal.invariant-loop-field
invariant-loop-field l = samples_for (decl_of l.d) (fields_of l.text) ≡ samples_for (decl_of l.d) (fields_of l.rest)

abbrev pub decreases-loop-field : goal.decreases-loop-field
decreases-loop-field l = length l.rest
