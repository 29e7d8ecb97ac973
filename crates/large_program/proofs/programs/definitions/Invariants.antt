use Rattle.std.specs.Prelude.{◌≡◌, ◌*◌, map}
use Rattle.frp_tree.specs.Tree.{decl_of}
use Rattle.large_program.specs.Draws.{after_draws}
use Rattle.large_program.specs.LargePrograms.{definitions_below}
use Rattle.large_program.proofs.programs.definitions.Given as goal

abbrev pub invariant-loop-i : goal.invariant-loop-i
invariant-loop-i l = (map decl_of l.decls ≡ definitions_below l.n l.i) × (l.draws.number ≡ after_draws (8 * l.i) l.n)
