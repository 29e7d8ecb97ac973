use Rattle.std.proofs.Common.{◌≡◌, ◌++◌, drop, map, string_bytes}
use Rattle.frp_tree.specs.Tree.{decl_of}
use Rattle.efrp_meaning.specs.Values.{number_of}
use Rattle.event_file.specs.Written.{named_values}
use Rattle.event_file.proofs.model.add_values.Given as goal

abbrev pub invariant-loop-d : goal.invariant-loop-d
invariant-loop-d l =
    string_bytes l.text ++ named_values (map decl_of (drop l.d-index l.decls)) (map number_of l.rest)
    ≡ string_bytes l.initial.text ++ named_values (map decl_of l.decls) (map number_of l.values)
