use Rattle.std.proofs.Common.{arith, ap, subst, ◌∙◌}
use Rattle.std.proofs.lemmas.Result.{IfOk-from_err}
use Rattle.frp_tree.specs.declared.syntax.Program.{Program}
use Rattle.frp_tree.specs.Tree.{program_tree_of}
use Rattle.efrp_meaning.specs.Bounds.{result_bytes, weight}
use Rattle.efrp_types.specs.Numbers.{event_name}
use Rattle.efrp_types.specs.declared.typed.Typed.{Typed}
use Rattle.program_bounds.specs.Bounded.{AreCosts}
use Rattle.program_bounds.proofs.CostFacts.{cost-is}
use Rattle.program_bounds.proofs.FewFacts.{body-costs-few, scratch-costs-few}
use Rattle.program_bounds.proofs.costs.costs_of.Goals as goal

pub returns-in_err-marked : goal.returns-in_err-marked
returns-in_err-marked c = IfOk-from_err c.from_residual.result _ c.from_residual.ensures.0

pub together-requires-clause-body : goal.together-requires-clause-body
together-requires-clause-body c =
    let t = c.typed-typed.result.now in
    let few = body-costs-few (program_tree_of t.program) t.formed c.event_name-name.result.now in
    let first = c.of_definitions-definitions.ensures.body in
    let second = c.of_outputs-outputs.ensures.body in
    omega (arith, few, first, second)

pub together-requires-clause-scratch : goal.together-requires-clause-scratch
together-requires-clause-scratch c =
    let t = c.typed-typed.result.now in
    let few = scratch-costs-few (program_tree_of t.program) t.formed c.event_name-name.result.now in
    let first = c.of_definitions-definitions.ensures.scratch in
    let second = c.of_outputs-outputs.ensures.scratch in
    omega (arith, few, first, second)

pub returns : goal.returns
returns c =
    let t = c.typed-typed.result.now in
    let p = program_tree_of t.program in
    let name = c.event_name-name.result.now in
    let named = c.event_name-name.ensures ∙ ap (λ (q : Program). event_name (program_tree_of q) c.args.event) c.program.ensures in
    let first-body = c.of_definitions-definitions.ensures.body in
    let second-body = c.of_outputs-outputs.ensures.body in
    let both-body = c.together.ensures.body in
    let is-body = cost-is p (weight p) 6 name in
    let first-scratch = c.of_definitions-definitions.ensures.scratch in
    let second-scratch = c.of_outputs-outputs.ensures.scratch in
    let both-scratch = c.together.ensures.scratch in
    let is-scratch = cost-is p (result_bytes p) 1 name in
    let are : AreCosts p name c.together.result = record { body = omega (arith, both-body, first-body, second-body, is-body); scratch = omega (arith, both-scratch, first-scratch, second-scratch, is-scratch) } in
    subst (λ (u : Typed). AreCosts (program_tree_of u.program) (event_name (program_tree_of u.program) c.args.event) c.together.result) c.typed-typed.ensures (subst (λ x. AreCosts p x c.together.result) named are)
