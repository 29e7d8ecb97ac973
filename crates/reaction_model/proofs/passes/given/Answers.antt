use Rattle.std.specs.Prelude.{◌+◌, ◌++◌, ◌∷◌, [], map, length}
use Rattle.std.proofs.Common.{arith, ap, sym, subst, Vec, Global, ◌∙◌}
use Rattle.std.proofs.lemmas.List.{length-map}
use Rattle.frp_tree.specs.declared.syntax.Program.{Program}
use Rattle.frp_tree.specs.declared.syntax.Value.{Value}
use Rattle.frp_tree.specs.Tree.{decl_of, program_tree_of}
use Rattle.reaction_model.specs.States.{numbers_of}
use Rattle.reaction_model.specs.Values.{nothing}
use Rattle.reaction_model.specs.Stands.{AreGiven}
use Rattle.reaction_model.proofs.RowFacts.{names-differ}
use Rattle.reaction_model.proofs.GivenFacts.{laid, laid-all, laid-is-given, length-laid, moved, state-more, input-more, other-more}
use Rattle.reaction_model.proofs.passes.given.Goals as goal
use Rattle.reaction_model.proofs.passes.given.Goals.{in-Reactive+in_ok-push-in-Reactive, in-Input+in_ok-push-in-Input, in_default+in_ok-push-in_default}

pub returns : goal.returns
returns c =
    let typed = c.args.typed.now in
    let p = program_tree_of typed.program in
    let vs = c.args.states.now in
    let js = c.args.samples.now in
    let items = c.as_slice-d-items.result.now in
    let same = c.as_slice-d-items.ensures ∙ ap (λ (q : Program). q.decls) c.program.ensures in
    let all = laid-all items vs js c.loop-d.values.items c.loop-d.d-index c.loop-d.state c.loop-d.input c.loop-d.invariant.laid_out c.loop-d-test.false ∙ ap (λ ds. laid (map decl_of ds) vs js) same in (
      ap length all ∙ length-laid p.decls vs js ∙ length-map typed.program.decls decl_of,
      subst (AreGiven p (numbers_of vs) js) (sym all) (laid-is-given p (names-differ p typed.checked) vs js c.requires.has_types c.requires.are_samples),
    )

pub loop-d-preserved : goal.loop-d-preserved
loop-d-preserved c =
    let vs = c.args.states.now in
    let js = c.args.samples.now in
    let items = c.as_slice-d-items.result.now in
    let values = c.loop-d.values.items in
    let k = c.loop-d.d-index in
    let m = c.loop-d.state in
    let i = c.loop-d.input in
    let d = c.d-item.result in
    elim c.match-d.branch [
      | in-Reactive+in_ok-push-in-Reactive w ↦ record {
        few_states = omega (arith, w.state-is, c.loop-d.invariant.few_states);
        few_inputs = omega (arith, w.input-is, c.loop-d.invariant.few_inputs);
        laid_out = moved items vs js _ c.match-d.values.items (k + 1) (m + 1) c.match-d.state i c.match-d.input
            (ap (λ (v : Vec Value Global). v.items) w.values-is ∙ w.in_ok-push-in-Reactive.ensures.items ∙ ap (λ v. values ++ v ∷ []) w.at.ensures) w.state-is w.input-is
            (state-more items vs js values k m i d c.loop-d-test.true c.d-item.is c.loop-d.invariant.laid_out w.in-Reactive.init w.in-Reactive.clauses w.in-Reactive.is);
      }
      | in-Input+in_ok-push-in-Input w ↦ record {
        few_states = omega (arith, w.state-is, c.loop-d.invariant.few_states);
        few_inputs = omega (arith, w.input-is, c.loop-d.invariant.few_inputs);
        laid_out = moved items vs js _ c.match-d.values.items (k + 1) m c.match-d.state (i + 1) c.match-d.input
            (ap (λ (v : Vec Value Global). v.items) w.values-is ∙ w.in_ok-push-in-Input.ensures.items ∙ ap (λ v. values ++ v ∷ []) w.sample.ensures) w.state-is w.input-is
            (input-more items vs js values k m i d c.loop-d-test.true c.d-item.is c.loop-d.invariant.laid_out w.in-Input.field-0 w.in-Input.is);
      }
      | in_default+in_ok-push-in_default w ↦ record {
        few_states = omega (arith, w.state-is, c.loop-d.invariant.few_states);
        few_inputs = omega (arith, w.input-is, c.loop-d.invariant.few_inputs);
        laid_out = moved items vs js (values ++ nothing ∷ []) c.match-d.values.items (k + 1) m c.match-d.state i c.match-d.input
            (ap (λ (v : Vec Value Global). v.items) w.values-is ∙ w.in_ok-push-in_default.ensures.items) w.state-is w.input-is
            (other-more items vs js values k m i d c.loop-d-test.true c.d-item.is c.loop-d.invariant.laid_out w.in_default.not-Reactive w.in_default.not-Input);
      }
    ]
