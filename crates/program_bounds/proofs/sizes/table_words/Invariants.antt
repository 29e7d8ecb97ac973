use Rattle.std.specs.Prelude.{◌≡◌, ◌+◌, ◌*◌, ◌≤◌, sum_by}
use Rattle.std.proofs.Common.{take}
use Rattle.frp_tree.specs.declared.syntax.Decl.{Decl}
use Rattle.frp_tree.specs.Limits.{entries_in}
use Rattle.frp_tree.specs.Tree.{behaviour_of}
use Rattle.efrp_meaning.specs.Bounds.{words_in}
use Rattle.program_bounds.proofs.sizes.table_words.Given as goal

abbrev pub invariant-loop-d : goal.invariant-loop-d
invariant-loop-d l =
    (l.words ≡ sum_by (λ (d : Decl). words_in d.ty (behaviour_of d.behaviour)) (take l.d-index l.decls))
    × (l.words ≤ 2 * sum_by (λ (d : Decl). entries_in (behaviour_of d.behaviour)) (take l.d-index l.decls) + 32 * l.d-index)
