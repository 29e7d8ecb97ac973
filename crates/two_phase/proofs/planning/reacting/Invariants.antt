use Rattle.std.specs.Prelude.{◌≡◌, map, Some}
use Rattle.std.proofs.Common.{take}
use Rattle.frp_tree.specs.Tree.{DeclTree, program_tree_of}
use Rattle.efrp_types.specs.Numbers.{decl_number}
use Rattle.two_phase.proofs.AddFacts.{reacting-of}
use Rattle.two_phase.proofs.planning.reacting.Given as goal

abbrev pub invariant-loop-n : goal.invariant-loop-n
invariant-loop-n l =
    map Some l.numbers ≡ map (λ (d : DeclTree). decl_number (program_tree_of l.typed.program) d.name) (reacting-of l.event (take l.n (program_tree_of l.typed.program).decls))
