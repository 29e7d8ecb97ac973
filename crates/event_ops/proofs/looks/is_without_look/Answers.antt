use Rattle.std.specs.List.{list_all}
use Rattle.std.proofs.Common.{ap, sym, ◌∙◌}
use Rattle.std.proofs.lemmas.List.Folds.{list_all-map}
use Rattle.frp_tree.specs.declared.syntax.Clause.{Clause}
use Rattle.frp_tree.specs.Tree.{ClauseTree, behaviour_of, clause_of, tree_of}
use Rattle.event_ops.specs.Looks.{looks_nowhere, no_look_in}
use Rattle.event_ops.proofs.looks.is_without_look.Goals as goal

pub returns-in-Reactive : goal.returns-in-Reactive
returns-in-Reactive c =
    c.clauses_have_no_look.ensures ∙ ap (list_all (λ (k : Clause). looks_nowhere (tree_of k.expr))) c.as_slice.ensures
    ∙ sym (list_all-map (λ (k : ClauseTree). looks_nowhere k.expr) clause_of c.in-Reactive.clauses) ∙ sym (ap (λ b. no_look_in (behaviour_of b)) c.in-Reactive.is)
