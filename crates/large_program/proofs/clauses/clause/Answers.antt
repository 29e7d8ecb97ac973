use Rattle.std.proofs.Common.{ap, ◌∙◌}
use Rattle.large_program.specs.Draws.{below}
use Rattle.large_program.proofs.ProgramFacts.{after_one, after_three, after_two, clause_is}
use Rattle.large_program.proofs.clauses.clause.Goals as goal

pub returns : goal.returns
returns c =
    let s = c.args.draws.now.number in
    let one = c.below-form.ensures in
    let two = c.below-k.ensures in
    let three = c.below-later.ensures in
    let first = after_one s _ _ _ one.number two.number three.number in
    let second = after_two s _ _ _ one.number two.number three.number in
    let third = after_three s _ _ _ one.number two.number three.number in (
      clause_is c.args.i c.args.event s _ _ c.below-form.result c.below-k.result c.below-later.result c.in_ok-event_name.ensures c.in_ok-expression.ensures
          (one.drawn ∙ ap (below 4) first) (two.drawn ∙ ap (below 200) second) (three.drawn ∙ ap (below 2) third),
      third,
    )
