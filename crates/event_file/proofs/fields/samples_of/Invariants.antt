use Rattle.std.proofs.Common.{map, take}
use Rattle.text_parts.specs.Fields.{fields_of}
use Rattle.frp_tree.specs.Tree.{decl_of}
use Rattle.event_file.specs.Parts.{inputs_among, AreGiven}
use Rattle.event_file.proofs.fields.samples_of.Given as goal

abbrev pub invariant-loop-d : goal.invariant-loop-d
invariant-loop-d l = AreGiven (fields_of l.text) (inputs_among (map decl_of (take l.d-index l.decls))) l.samples
