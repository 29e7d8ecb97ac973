use Rattle.std.specs.Str.{bytes_eq}
use Rattle.std.proofs.Common.{sym, ap, option_map, rules, tests, ◌∙◌}
use Rattle.std.proofs.lemmas.Iterator.{YieldsList-from_slice}
use Rattle.std.proofs.lemmas.Iterator.Search.{find_from_yields_List}
use Rattle.frp_tree.specs.declared.syntax.Clause.{Clause}
use Rattle.frp_tree.specs.Tree.{ClauseTree, clause_of}
use Rattle.event_needs.proofs.NumberLaws.{find-mapped}
use Rattle.event_needs.proofs.lookups.clause_for.Goals as goal

pub returns : goal.returns
returns c =
    let event = c.args.event.now in
    ap (option_map clause_of) (find_from_yields_List (λ (k : Clause). bytes_eq event k.event) _ _ _ c.find.ensures.ran (YieldsList-from_slice c.args.clauses.now cc) (λ x b q k. search (rules, tests)))
    ∙ sym (find-mapped (λ (k : ClauseTree). bytes_eq event k.event) clause_of c.args.clauses.now)
