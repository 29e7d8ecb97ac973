use Rattle.std.proofs.Common.{◌≡◌, ◌+◌, ◌%◌, ◌++◌, ◌∷◌, [], ap, sym, ◌∙◌}
use Rattle.frp_tree.specs.declared.syntax.Clause.{Clause}
use Rattle.std.specs.Prelude.{List}
use Rattle.large_program.specs.Draws.{after_draws, below}
use Rattle.large_program.specs.LargePrograms.{clause, definition_name, first_event, literal_for, second_event, type_of}
use Rattle.large_program.proofs.DrawLaws.{more_draws, next_drawn, none_yet}
use Rattle.large_program.proofs.ProgramFacts.{definition_is}
use Rattle.large_program.proofs.clauses.definition.Goals as goal

pub returns : goal.returns
returns c =
    let s = c.args.draws.now.number in
    let i = c.args.i in
    let same = c.from-number.ensures in
    let one = c.below-first.ensures in
    let two = c.below.ensures in
    let drawn = next_drawn 0 s s _ (sym (none_yet s)) one.number in
    let begun = next_drawn 1 s _ _ drawn two.number in
    let a = c.in_ok-clause.ensures in
    let b = c.in_ok-clause-2.ensures in
    let after = a.1 ∙ ap (after_draws 3) begun ∙ sym (more_draws 3 2 s) in
    let is_first : c.below-first.result ≡ first_event s = one.drawn ∙ ap (below 11) drawn in
    let is_second : (c.below-first.result + 1 + c.below.result) % 11 ≡ second_event s = λ j. (is_first j + 1 + (two.drawn ∙ ap (below 10) begun) j) % 11 in
    let clauses = c.in_ok-push-2.ensures.ok ∙ ap (λ (cs : List Clause). cs ++ c.in_ok-clause-2.field-0 ∷ []) (c.in_ok-push.ensures.ok ∙ ap (λ (cs : List Clause). cs ++ c.in_ok-clause.field-0 ∷ []) c.new-clauses.ensures) in (
      definition_is i s _ _ _ _ c.in_ok-clause.field-0 c.in_ok-clause-2.field-0 (c.in_ok-definition_name.ensures ∙ ap definition_name same) (c.type_of.ensures ∙ ap type_of same)
          (c.literal_for.ensures ∙ ap (λ n. literal_for n i) same) clauses (a.0 ∙ (λ j. clause (same j) (is_first j) (begun j))) (b.0 ∙ (λ j. clause (same j) (is_second j) (after j))),
      b.1 ∙ ap (after_draws 3) after ∙ sym (more_draws 3 5 s),
    )
