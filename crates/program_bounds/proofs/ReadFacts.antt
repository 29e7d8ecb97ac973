-- A definition and an output of a typed program, as they are read of the lists in memory.
use Rattle.std.specs.Prelude.{◌≡◌, ℕ, ◌<◌, ◌≤◌, Bool, false, List, length, get_or, slice_get, Some}
use Rattle.std.proofs.Common.{ap, arith, ◌∙◌}
use Rattle.std.proofs.lemmas.List.{get_or-map}
use Rattle.std.proofs.lemmas.Option.{get_or_from_slice_get, slice_get_within}
use Rattle.frp_tree.specs.declared.syntax.Decl.{Decl}
use Rattle.frp_tree.specs.declared.syntax.Output.{Output}
use Rattle.frp_tree.specs.declared.syntax.Ty.TheVariants.{U8}
use Rattle.frp_tree.specs.Limits.{nodes, nodes_in}
use Rattle.frp_tree.specs.Tree.{DeclTree, OutputTree, ProgramTree, behaviour_of, decl_of, output_of, program_tree_of, tree_of}
use Rattle.efrp_meaning.specs.Needs.{is_named_in, needed}
use Rattle.efrp_meaning.specs.Types.{IsTyped, IsTypedAs, type_of}
use Rattle.efrp_types.specs.declared.typed.Typed.{Typed}
use Rattle.efrp_types.proofs.TypedLaws.{no-fault-is-typed}
use Rattle.event_needs.specs.Needed.{named_on}
use Rattle.event_needs.proofs.ListLaws.{each-at}
use Rattle.event_needs.proofs.NumberLaws.{tree-at}
use Rattle.program_bounds.proofs.SumFacts.{one-within}

module _ (t : Typed) where
  abbrev tree : ProgramTree
  tree = program_tree_of t.program

  is-typed : IsTyped tree
  is-typed = (no-fault-is-typed tree t.formed t.checked.names t.checked.types).0

  module _ (decls : List Decl) (same : decls ≡ t.program.decls) (i : ℕ) (d : Decl) (inside : i < length decls) (read : d ≡ get_or decls i d) where
    pub decl-there : slice_get tree.decls i ≡ Some (decl_of d)
    decl-there = tree-at decl_of decls t.program.decls i d same inside read

    pub decl-typed : IsTypedAs tree d.ty (behaviour_of d.behaviour)
    decl-typed = each-at (λ (k : DeclTree). IsTypedAs tree k.ty k.behaviour) tree.decls i (decl_of d) is-typed.decls decl-there

    pub decl-few : nodes_in (behaviour_of d.behaviour) ≤ 4096
    decl-few = let one = one-within (λ (k : DeclTree). nodes_in k.behaviour) tree.decls i (decl_of d) decl-there in let all = t.formed.written.nodes in omega (arith, one, all)

    pub decl-named : (event : List ℕ) (marks : List Bool) → marks ≡ named_on tree event → get_or marks i false ≡ is_named_in d.name (needed tree event)
    decl-named event marks are =
        ap (λ (bs : List Bool). get_or bs i false) are ∙ get_or-map (λ (k : DeclTree). is_named_in k.name (needed tree event)) tree.decls i (decl_of d) false (slice_get_within tree.decls i (decl_of d) decl-there)
        ∙ ap (λ (k : DeclTree). is_named_in k.name (needed tree event)) (get_or_from_slice_get tree.decls i (decl_of d) (decl_of d) decl-there)

  module _ (outputs : List Output) (same : outputs ≡ t.program.outputs) (i : ℕ) (o : Output) (inside : i < length outputs) (read : o ≡ get_or outputs i o) where
    pub output-there : slice_get tree.outputs i ≡ Some (output_of o)
    output-there = tree-at output_of outputs t.program.outputs i o same inside read

    pub output-typed : type_of tree (tree_of o.expr) ≡ Some U8
    output-typed = each-at (λ (k : OutputTree). type_of tree k.expr ≡ Some U8) tree.outputs i (output_of o) is-typed.outputs output-there

    pub output-few : nodes (tree_of o.expr) ≤ 4096
    output-few = let one = one-within (λ (k : OutputTree). nodes k.expr) tree.outputs i (output_of o) output-there in let all = t.formed.written.nodes in omega (arith, one, all)
