use Rattle.std.proofs.Common.{sym, ap, option_and_then, ltb-true, ◌∙◌}
use Rattle.frp_tree.specs.Literals.{lit_value_of}
use Rattle.reaction_model.specs.Values.{value_or_nothing}
use Rattle.reaction_model.proofs.LookupFacts.{last-at}
use Rattle.reaction_model.proofs.lookups.last.Goals as goal

pub returns-in-Some : goal.returns-in-Some
returns-in-Some c =
    c.literal.ensures
    ∙ ap (λ o. value_or_nothing (option_and_then lit_value_of o)) (c.in-Some.ensures.value ∙ sym (last-at c.args.entries.now (ltb-true _ _ (sym c.in-Some.ensures.item.0))))
