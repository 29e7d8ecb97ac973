use Rattle.std.proofs.Common.{sym, ap, option_and_then, ltb-true, refl, ◌∙◌}
use Rattle.std.proofs.lemmas.Option.{slice_get_read, slice_get_past}
use Rattle.frp_tree.specs.Literals.{lit_value_of}
use Rattle.reaction_model.specs.Values.{value_or_nothing}
use Rattle.reaction_model.proofs.LookupFacts.{entry-within, entry-past}
use Rattle.reaction_model.proofs.lookups.entry.Goals as goal

pub returns-in-Some : goal.returns-in-Some
returns-in-Some c =
    let entries = c.args.entries.now in
    let found = slice_get_read entries _ c.args.i c.in-Some.entry.now refl (ltb-true _ _ (sym c.in-Some.ensures.lookup.0)) c.in-Some.ensures.lookup.1 in
    c.literal.ensures ∙ sym (ap (λ o. value_or_nothing (option_and_then lit_value_of o)) (entry-within entries c.args.i c.in-Some.entry.now found))

pub returns-in-None : goal.returns-in-None
returns-in-None c =
    let entries = c.args.entries.now in
    c.last.ensures ∙ sym (ap (λ o. value_or_nothing (option_and_then lit_value_of o)) (entry-past entries c.args.i (slice_get_past entries c.args.i c.in-None.ensures.lookup.3)))
