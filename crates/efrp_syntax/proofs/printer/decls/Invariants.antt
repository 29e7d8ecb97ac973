use Rattle.std.proofs.Common.{◌≡◌, ◌++◌, length, map}
use Rattle.std.specs.List.{flat_map}
use Rattle.frp_tree.specs.Tree.{decl_of}
use Rattle.frp_tree.specs.Printed.{decl_item, line}
use Rattle.efrp_syntax.proofs.printer.decls.Given as goal

abbrev pub invariant-row : goal.invariant-row
invariant-row l = flat_map line (map decl_item (map decl_of l.rest)) ++ l.out ≡ flat_map line (map decl_item (map decl_of l.decls)) ++ l.initial.out

abbrev pub decreases-row : goal.decreases-row
decreases-row l = length l.rest
