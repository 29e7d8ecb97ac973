use Rattle.std.proofs.Common.{◌≡◌, ◌+◌, ◌≤◌, drop, filter, length, map}
use Rattle.frp_tree.specs.Tree.{decl_of}
use Rattle.efrp_meaning.specs.Decls.{is_reactive}
use Rattle.checks_tests.proofs.event_tests.reactives.Given as goal

abbrev pub invariant-loop-d : goal.invariant-loop-d
invariant-loop-d l = record {
  inside : l.count ≤ l.d-index;
  total : l.count + length (filter (λ d. is_reactive d.behaviour) (map decl_of (drop l.d-index l.decls))) ≡ length (filter (λ d. is_reactive d.behaviour) (map decl_of l.decls));
}
