use Rattle.std.proofs.Common.{sym, ap, option_and_then, ◌∙◌}
use Rattle.frp_tree.specs.Literals.{lit_value_of}
use Rattle.frp_tree.specs.Tree.{DeclTree, program_tree_of}
use Rattle.efrp_meaning.specs.Decls.{entries_of}
use Rattle.efrp_meaning.specs.Values.{entry_at}
use Rattle.reaction_model.specs.Values.{value_or_nothing}
use Rattle.reaction_model.proofs.LookupFacts.{named-at}
use Rattle.reaction_model.proofs.lookups.entry_in.Goals as goal

pub returns-in-Some : goal.returns-in-Some
returns-in-Some c =
    let p = program_tree_of c.args.typed.now.program in
    c.entry_of.ensures ∙ ap (λ o. value_or_nothing (option_and_then (λ entries. option_and_then lit_value_of (entry_at entries c.args.i)) (option_and_then (λ (d : DeclTree). entries_of d.behaviour) o)))
    (c.in-Some.ensures ∙ sym (named-at p c.args.table.now))

pub returns-in-None : goal.returns-in-None
returns-in-None c =
    let p = program_tree_of c.args.typed.now.program in
    ap (λ o. value_or_nothing (option_and_then (λ entries. option_and_then lit_value_of (entry_at entries c.args.i)) (option_and_then (λ (d : DeclTree). entries_of d.behaviour) o)))
    (c.in-None.ensures ∙ sym (named-at p c.args.table.now))
