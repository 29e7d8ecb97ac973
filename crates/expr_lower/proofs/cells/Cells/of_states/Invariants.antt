use Rattle.std.proofs.Common.{◌≡◌, map, take, sum_by}
use Rattle.frp_tree.specs.Tree.{decl_of}
use Rattle.efrp_meaning.specs.Bounds.{bytes_in}
use Rattle.expr_lower.specs.Numbered.{state_places}
use Rattle.expr_lower.proofs.cells.Cells.of_states.Given as goal

abbrev pub invariant-loop-d : goal.invariant-loop-d
invariant-loop-d l = record {
  places : l.cells.places.items ≡ state_places 0 (map decl_of (take l.d-index l.decls));
  next : l.cells.next ≡ sum_by (λ d. bytes_in d.ty d.behaviour) (map decl_of (take l.d-index l.decls));
}
