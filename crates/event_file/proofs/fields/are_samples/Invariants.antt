use Rattle.std.proofs.Common.{◌≡◌, map, length}
use Rattle.std.specs.List.{list_all, list_any}
use Rattle.text_parts.specs.Fields.{fields_of}
use Rattle.frp_tree.specs.Tree.{decl_of}
use Rattle.event_file.specs.Events.{gives}
use Rattle.event_file.specs.Parts.{inputs_among}
use Rattle.event_file.proofs.fields.are_samples.Given as goal

abbrev pub invariant-loop-field : goal.invariant-loop-field
invariant-loop-field l =
    list_all (λ field. list_any (gives field) (inputs_among (map decl_of l.decls))) (fields_of l.text)
    ≡ list_all (λ field. list_any (gives field) (inputs_among (map decl_of l.decls))) (fields_of l.rest)

abbrev pub decreases-loop-field : goal.decreases-loop-field
decreases-loop-field l = length l.rest
