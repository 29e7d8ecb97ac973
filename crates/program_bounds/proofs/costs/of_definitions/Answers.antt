use Rattle.std.proofs.Common.{arith, ap, sum_by, ◌∙◌}
use Rattle.frp_tree.specs.declared.syntax.Program.{Program}
use Rattle.frp_tree.specs.Tree.{behaviour_of, decl_of, program_tree_of}
use Rattle.efrp_meaning.specs.Bounds.{result_bytes, weight}
use Rattle.event_needs.proofs.NumberLaws.{whole-trees}
use Rattle.program_bounds.specs.Costing.{decl_cost, own_cost}
use Rattle.program_bounds.proofs.FewFacts.{body-costs-few, scratch-costs-few}
use Rattle.program_bounds.proofs.ReadFacts.{decl-few, decl-named, decl-there, decl-typed}
use Rattle.program_bounds.proofs.SumFacts.{sum-more, sum-within}
use Rattle.program_bounds.proofs.costs.of_definitions.Goals as goal

pub of_definition-own-requires-clause-typed : goal.of_definition-own-requires-clause-typed
of_definition-own-requires-clause-typed c =
    let t = c.args.typed.now in
    let p = program_tree_of t.program in
    let event = c.args.event.now in
    let decls = c.as_slice-decls.result.now in
    let same = c.as_slice-decls.ensures ∙ ap (λ (q : Program). q.decls) c.program.ensures in
    decl-typed t decls same c.loop-i.i c.index-decls-i.result c.loop-i-test.true c.index-decls-i.is

pub of_definition-own-requires-clause-few : goal.of_definition-own-requires-clause-few
of_definition-own-requires-clause-few c =
    let t = c.args.typed.now in
    let p = program_tree_of t.program in
    let event = c.args.event.now in
    let decls = c.as_slice-decls.result.now in
    let same = c.as_slice-decls.ensures ∙ ap (λ (q : Program). q.decls) c.program.ensures in
    decl-few t decls same c.loop-i.i c.index-decls-i.result c.loop-i-test.true c.index-decls-i.is

pub together-costs-requires-clause-body : goal.together-costs-requires-clause-body
together-costs-requires-clause-body c =
    let t = c.args.typed.now in
    let p = program_tree_of t.program in
    let event = c.args.event.now in
    let decls = c.as_slice-decls.result.now in
    let same = c.as_slice-decls.ensures ∙ ap (λ (q : Program). q.decls) c.program.ensures in
    let i = c.loop-i.i in
    let d = c.index-decls-i.result in
    let there = decl-there t decls same i d c.loop-i-test.true c.index-decls-i.is in
    let named = decl-named t decls same i d c.loop-i-test.true c.index-decls-i.is event c.args.named.now c.requires in
    let body = c.of_definition-own.ensures.body ∙ ap (λ b. own_cost (weight p) 6 event b (behaviour_of d.behaviour)) named in
    let scratch = c.of_definition-own.ensures.scratch ∙ ap (λ b. own_cost (result_bytes p) 1 event b (behaviour_of d.behaviour)) named in
    let within = sum-within (decl_cost p (weight p) 6 event) p.decls i (decl_of d) c.loop-i.costs.body c.of_definition-own.result.body there c.loop-i.invariant.0 body in
    let few = body-costs-few p t.formed event in
    omega (arith, within, few)

pub together-costs-requires-clause-scratch : goal.together-costs-requires-clause-scratch
together-costs-requires-clause-scratch c =
    let t = c.args.typed.now in
    let p = program_tree_of t.program in
    let event = c.args.event.now in
    let decls = c.as_slice-decls.result.now in
    let same = c.as_slice-decls.ensures ∙ ap (λ (q : Program). q.decls) c.program.ensures in
    let i = c.loop-i.i in
    let d = c.index-decls-i.result in
    let there = decl-there t decls same i d c.loop-i-test.true c.index-decls-i.is in
    let named = decl-named t decls same i d c.loop-i-test.true c.index-decls-i.is event c.args.named.now c.requires in
    let body = c.of_definition-own.ensures.body ∙ ap (λ b. own_cost (weight p) 6 event b (behaviour_of d.behaviour)) named in
    let scratch = c.of_definition-own.ensures.scratch ∙ ap (λ b. own_cost (result_bytes p) 1 event b (behaviour_of d.behaviour)) named in
    let within = sum-within (decl_cost p (result_bytes p) 1 event) p.decls i (decl_of d) c.loop-i.costs.scratch c.of_definition-own.result.scratch there c.loop-i.invariant.1 scratch in
    let few = scratch-costs-few p t.formed event in
    omega (arith, within, few)

pub loop-i-preserved : goal.loop-i-preserved
loop-i-preserved c =
    let t = c.args.typed.now in
    let p = program_tree_of t.program in
    let event = c.args.event.now in
    let decls = c.as_slice-decls.result.now in
    let same = c.as_slice-decls.ensures ∙ ap (λ (q : Program). q.decls) c.program.ensures in
    let i = c.loop-i.i in
    let d = c.index-decls-i.result in
    let there = decl-there t decls same i d c.loop-i-test.true c.index-decls-i.is in
    let named = decl-named t decls same i d c.loop-i-test.true c.index-decls-i.is event c.args.named.now c.requires in
    let body = c.of_definition-own.ensures.body ∙ ap (λ b. own_cost (weight p) 6 event b (behaviour_of d.behaviour)) named in
    let scratch = c.of_definition-own.ensures.scratch ∙ ap (λ b. own_cost (result_bytes p) 1 event b (behaviour_of d.behaviour)) named in (
      sum-more (decl_cost p (weight p) 6 event) p.decls i (decl_of d) c.loop-i.costs.body c.of_definition-own.result.body c.together-costs.result.body there c.loop-i.invariant.0 body c.together-costs.ensures.body,
      sum-more (decl_cost p (result_bytes p) 1 event) p.decls i (decl_of d) c.loop-i.costs.scratch c.of_definition-own.result.scratch c.together-costs.result.scratch there c.loop-i.invariant.1 scratch c.together-costs.ensures.scratch,
    )

pub returns-clause-body : goal.returns-clause-body
returns-clause-body c =
    let t = c.args.typed.now in
    let p = program_tree_of t.program in
    let event = c.args.event.now in
    let decls = c.as_slice-decls.result.now in
    let same = c.as_slice-decls.ensures ∙ ap (λ (q : Program). q.decls) c.program.ensures in
    c.loop-i.invariant.0 ∙ ap (sum_by (decl_cost p (weight p) 6 event)) (whole-trees decl_of decls t.program.decls c.loop-i.i same c.loop-i-test.false)

pub returns-clause-scratch : goal.returns-clause-scratch
returns-clause-scratch c =
    let t = c.args.typed.now in
    let p = program_tree_of t.program in
    let event = c.args.event.now in
    let decls = c.as_slice-decls.result.now in
    let same = c.as_slice-decls.ensures ∙ ap (λ (q : Program). q.decls) c.program.ensures in
    c.loop-i.invariant.1 ∙ ap (sum_by (decl_cost p (result_bytes p) 1 event)) (whole-trees decl_of decls t.program.decls c.loop-i.i same c.loop-i-test.false)
