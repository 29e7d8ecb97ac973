use Rattle.std.specs.Prelude.{◌≡◌, flat_map, Some}
use Rattle.std.proofs.Common.{sym, ap, subst, ◌∙◌}
use Rattle.std.proofs.lemmas.List.Folds.{flat_map-map}
use Rattle.frp_tree.specs.declared.syntax.Decl.{Decl}
use Rattle.frp_tree.specs.declared.syntax.Program.{Program}
use Rattle.frp_tree.specs.Tree.{DeclTree, behaviour_of, decl_of, program_tree_of}
use Rattle.efrp_meaning.specs.Meaning.{initial_state}
use Rattle.reaction_model.specs.States.{HasTypes, numbers_of}
use Rattle.reaction_model.specs.Values.{first_values}
use Rattle.reaction_model.proofs.RowFacts.{whole, is-typed}
use Rattle.reaction_model.proofs.MadeFacts.{initial-is}
use Rattle.reaction_model.proofs.passes.first_states.Goals as goal

pub returns : goal.returns
returns c =
    let typed = c.args.typed.now in
    let p = program_tree_of typed.program in
    let all = whole c.as_slice-d-items.result.now typed.program.decls c.loop-d.d-index (c.as_slice-d-items.ensures ∙ ap (λ (q : Program). q.decls) c.program.ensures) c.loop-d-test.false in
    subst (λ vs. (initial_state p ≡ Some (numbers_of vs)) × HasTypes p vs)
    (sym (c.loop-d.invariant ∙ ap (flat_map (λ (d : Decl). first_values (behaviour_of d.behaviour))) all ∙ sym (flat_map-map (λ (d : DeclTree). first_values d.behaviour) decl_of typed.program.decls)))
    (initial-is p (is-typed p typed.checked typed.formed))
