use Rattle.std.specs.Prelude.{Some}
use Rattle.std.proofs.Common.{ap, sym, ◌∙◌}
use Rattle.frp_tree.specs.Tree.{program_tree_of}
use Rattle.reaction_model.specs.States.{numbers_of}
use Rattle.reaction_model.proofs.RowFacts.{is-typed, names-differ, reacts}
use Rattle.reaction_model.proofs.MadeFacts.{port-values-are}
use Rattle.reaction_model.proofs.reactions.reaction_of.Goals as goal

pub returns : goal.returns
returns c = λ s j are.
    let typed = c.args.typed.now in
    let p = program_tree_of typed.program in
    let event = c.args.event.now in
    let new = c.in_ok-new_states.ensures s j are in
    let ports = port-values-are p (is-typed p typed.checked typed.formed) (names-differ p typed.checked) s j event c.args.values.now are in
    (reacts p s j event (numbers_of c.in_ok-new_states.field-0) c.in_ok-ports.ports new.0 (ports ∙ ap Some (sym c.in_ok-ports.ensures)), new.1)
