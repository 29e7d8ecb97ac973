use Rattle.std.specs.Prelude.{◌≡◌, ◌≤◌, length, filter, take}
use Rattle.frp_tree.specs.declared.syntax.Decl.{Decl}
use Rattle.frp_tree.specs.Tree.{behaviour_of}
use Rattle.efrp_meaning.specs.Decls.{is_input}
use Rattle.efrp_types.proofs.typed.inputs_among.Given as goal

abbrev pub invariant-loop-d : goal.invariant-loop-d
invariant-loop-d l = (l.n ≤ l.d-index) × (l.n ≡ length (filter (λ (d : Decl). is_input (behaviour_of d.behaviour)) (take l.d-index l.decls)))
