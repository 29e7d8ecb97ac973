use Rattle.std.specs.Prelude.{◌≡◌, ◌*◌, ◌≤◌, sum_by}
use Rattle.std.proofs.Common.{take}
use Rattle.frp_tree.specs.declared.syntax.Decl.{Decl}
use Rattle.frp_tree.specs.Tree.{behaviour_of}
use Rattle.efrp_meaning.specs.Bounds.{bytes_in}
use Rattle.program_bounds.proofs.sizes.state_bytes.Given as goal

abbrev pub invariant-loop-d : goal.invariant-loop-d
invariant-loop-d l = (l.bytes ≡ sum_by (λ (d : Decl). bytes_in d.ty (behaviour_of d.behaviour)) (take l.d-index l.decls)) × (l.bytes ≤ 2 * l.d-index)
