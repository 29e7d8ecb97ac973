use Rattle.std.proofs.Common.{[], arith, ap, sym, subst, refl, sum_by, ◌∙◌}
use Rattle.std.specs.Prelude.{IsSome}
use Rattle.frp_tree.specs.declared.syntax.Program.{Program}
use Rattle.frp_tree.specs.Tree.{OutputTree, output_of, program_tree_of, tree_of}
use Rattle.efrp_meaning.specs.Bounds.{result_bytes, weight}
use Rattle.event_needs.proofs.NumberLaws.{whole-trees}
use Rattle.program_bounds.proofs.FewFacts.{body-costs-few, scratch-costs-few}
use Rattle.program_bounds.proofs.ReadFacts.{output-few, output-there, output-typed}
use Rattle.program_bounds.proofs.SumFacts.{sum-more, sum-within}
use Rattle.program_bounds.proofs.TypedFacts.{are-typed}
use Rattle.program_bounds.proofs.costs.of_outputs.Goals as goal

pub of_expression-own-requires-clause-typed : goal.of_expression-own-requires-clause-typed
of_expression-own-requires-clause-typed c =
    let t = c.args.typed.now in
    let p = program_tree_of t.program in
    let outputs = c.as_slice-output-items.result.now in
    let same = c.as_slice-output-items.ensures ∙ ap (λ (q : Program). q.outputs) c.program.ensures in
    are-typed p (tree_of c.output-item.result.expr) (subst IsSome (sym (output-typed t outputs same c.loop-output.output-index c.output-item.result c.loop-output-test.true c.output-item.is)) refl)

pub of_expression-own-requires-clause-few : goal.of_expression-own-requires-clause-few
of_expression-own-requires-clause-few c =
    let t = c.args.typed.now in
    let p = program_tree_of t.program in
    let outputs = c.as_slice-output-items.result.now in
    let same = c.as_slice-output-items.ensures ∙ ap (λ (q : Program). q.outputs) c.program.ensures in
    output-few t outputs same c.loop-output.output-index c.output-item.result c.loop-output-test.true c.output-item.is

pub together-costs-requires-clause-body : goal.together-costs-requires-clause-body
together-costs-requires-clause-body c =
    let t = c.args.typed.now in
    let p = program_tree_of t.program in
    let outputs = c.as_slice-output-items.result.now in
    let same = c.as_slice-output-items.ensures ∙ ap (λ (q : Program). q.outputs) c.program.ensures in
    let i = c.loop-output.output-index in
    let o = c.output-item.result in
    let there = output-there t outputs same i o c.loop-output-test.true c.output-item.is in
    let within = sum-within (λ (k : OutputTree). weight p k.expr) p.outputs i (output_of o) c.loop-output.costs.body c.of_expression-own.result.body there c.loop-output.invariant.0 c.of_expression-own.ensures.body in
    let few = body-costs-few p t.formed [] in
    omega (arith, within, few)

pub together-costs-requires-clause-scratch : goal.together-costs-requires-clause-scratch
together-costs-requires-clause-scratch c =
    let t = c.args.typed.now in
    let p = program_tree_of t.program in
    let outputs = c.as_slice-output-items.result.now in
    let same = c.as_slice-output-items.ensures ∙ ap (λ (q : Program). q.outputs) c.program.ensures in
    let i = c.loop-output.output-index in
    let o = c.output-item.result in
    let there = output-there t outputs same i o c.loop-output-test.true c.output-item.is in
    let within = sum-within (λ (k : OutputTree). result_bytes p k.expr) p.outputs i (output_of o) c.loop-output.costs.scratch c.of_expression-own.result.scratch there c.loop-output.invariant.1 c.of_expression-own.ensures.scratch in
    let few = scratch-costs-few p t.formed [] in
    omega (arith, within, few)

pub loop-output-preserved : goal.loop-output-preserved
loop-output-preserved c =
    let t = c.args.typed.now in
    let p = program_tree_of t.program in
    let outputs = c.as_slice-output-items.result.now in
    let same = c.as_slice-output-items.ensures ∙ ap (λ (q : Program). q.outputs) c.program.ensures in
    let i = c.loop-output.output-index in
    let o = c.output-item.result in
    let there = output-there t outputs same i o c.loop-output-test.true c.output-item.is in (
      sum-more (λ (k : OutputTree). weight p k.expr) p.outputs i (output_of o) c.loop-output.costs.body c.of_expression-own.result.body c.together-costs.result.body there c.loop-output.invariant.0 c.of_expression-own.ensures.body c.together-costs.ensures.body,
      sum-more (λ (k : OutputTree). result_bytes p k.expr) p.outputs i (output_of o) c.loop-output.costs.scratch c.of_expression-own.result.scratch c.together-costs.result.scratch there c.loop-output.invariant.1 c.of_expression-own.ensures.scratch c.together-costs.ensures.scratch,
    )

pub returns-clause-body : goal.returns-clause-body
returns-clause-body c =
    let t = c.args.typed.now in
    let p = program_tree_of t.program in
    let outputs = c.as_slice-output-items.result.now in
    let same = c.as_slice-output-items.ensures ∙ ap (λ (q : Program). q.outputs) c.program.ensures in
    c.loop-output.invariant.0 ∙ ap (sum_by (λ (k : OutputTree). weight p k.expr)) (whole-trees output_of outputs t.program.outputs c.loop-output.output-index same c.loop-output-test.false)

pub returns-clause-scratch : goal.returns-clause-scratch
returns-clause-scratch c =
    let t = c.args.typed.now in
    let p = program_tree_of t.program in
    let outputs = c.as_slice-output-items.result.now in
    let same = c.as_slice-output-items.ensures ∙ ap (λ (q : Program). q.outputs) c.program.ensures in
    c.loop-output.invariant.1 ∙ ap (sum_by (λ (k : OutputTree). result_bytes p k.expr)) (whole-trees output_of outputs t.program.outputs c.loop-output.output-index same c.loop-output-test.false)
