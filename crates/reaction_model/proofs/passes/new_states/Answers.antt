use Rattle.std.specs.Prelude.{◌+◌, ◌++◌}
use Rattle.std.proofs.Common.{sym, ap, subst, take, ◌∙◌}
use Rattle.frp_tree.specs.declared.syntax.Decl.{Decl}
use Rattle.frp_tree.specs.declared.syntax.Program.{Program}
use Rattle.frp_tree.specs.Tree.{behaviour_of, decl_of, program_tree_of}
use Rattle.efrp_meaning.specs.Meaning.{rule_on}
use Rattle.reaction_model.specs.Values.{new_values_by}
use Rattle.reaction_model.proofs.RowFacts.{tree-at, whole-trees, is-typed, names-differ}
use Rattle.reaction_model.proofs.MadeFacts.{Made, state_types, new_of, new-more, new-state-is}
use Rattle.reaction_model.proofs.passes.new_states.Goals as goal

pub returns : goal.returns
returns c = λ s j are.
    let typed = c.args.typed.now in
    let p = program_tree_of typed.program in
    let event = c.args.event.now in
    let all = whole-trees decl_of c.as_slice-decls.result.now typed.program.decls c.loop-i.i (c.as_slice-decls.ensures ∙ ap (λ (q : Program). q.decls) c.program.ensures) c.loop-i-test.false in
    new-state-is p (is-typed p typed.checked typed.formed) (names-differ p typed.checked) s j event c.args.values.now are c.loop-i.states
    (subst (λ ds. Made (state_types ds) (new_of p s j event ds) c.loop-i.states) all (c.loop-i.invariant s j are))

pub loop-i-preserved : goal.loop-i-preserved
loop-i-preserved c = λ s j are.
    let typed = c.args.typed.now in
    let p = program_tree_of typed.program in
    let event = c.args.event.now in
    let values = c.args.values.now in
    let i = c.loop-i.i in
    let d = decl_of c.index-decls-i.result in
    let found = tree-at decl_of c.as_slice-decls.result.now typed.program.decls i c.index-decls-i.result (c.as_slice-decls.ensures ∙ ap (λ (q : Program). q.decls) c.program.ensures) c.loop-i-test.true c.index-decls-i.is in
    subst (λ new. Made (state_types (take (i + 1) p.decls)) (new_of p s j event (take (i + 1) p.decls)) new)
    (sym (c.in_ok-add_new_state.ensures ∙ ap (λ (k : Decl). c.loop-i.states ++ new_values_by p values c.at.result (rule_on event (behaviour_of k.behaviour))) (sym c.index-decls-i.is)
    ∙ ap (λ v. c.loop-i.states ++ new_values_by p values v (rule_on event (behaviour_of c.index-decls-i.result.behaviour))) c.at.ensures))
    (new-more p (is-typed p typed.checked typed.formed) (names-differ p typed.checked) s j event values are i d c.loop-i.states found (c.loop-i.invariant s j are))
