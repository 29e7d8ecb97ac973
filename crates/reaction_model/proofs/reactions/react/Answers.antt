use Rattle.std.proofs.Common.{ap, arith, sym, subst, ◌∙◌}
use Rattle.std.specs.Prelude.{IfOk}
use Rattle.std.proofs.lemmas.Result.{IfOk-weaker}
use Rattle.frp_tree.specs.declared.syntax.Program.{Program}
use Rattle.frp_tree.specs.Tree.{program_tree_of}
use Rattle.efrp_meaning.specs.Causal.{IsCausalOn}
use Rattle.efrp_meaning.specs.States.{AreSamples}
use Rattle.efrp_types.specs.Numbers.{event_name}
use Rattle.efrp_types.specs.declared.typed.Typed.{Typed}
use Rattle.reaction_model.specs.States.{numbers_of}
use Rattle.reaction_model.specs.Reactions.{IsReaction, IsReactionBy}
use Rattle.reaction_model.specs.Stands.{AreValues}
use Rattle.reaction_model.proofs.RowFacts.{causal-at}
use Rattle.reaction_model.proofs.StateLaws.{bytes-are-samples}
use Rattle.reaction_model.proofs.reactions.react.Goals as goal

pub values_on-requires-clause-are_samples : goal.values_on-requires-clause-are_samples
values_on-requires-clause-are_samples c =
    let checked = c.args.c.now in
    subst (λ (t : Typed). AreSamples (program_tree_of t.program) c.args.samples.now) (sym c.typed-typed.ensures) (bytes-are-samples (program_tree_of checked.typed.program) c.args.samples.now (λ k. let fits = c.type_inv.samples k in omega (arith, fits)) c.requires.sampled)

pub values_on-requires-clause-causal : goal.values_on-requires-clause-causal
values_on-requires-clause-causal c =
    let checked = c.args.c.now in
    let p = program_tree_of checked.typed.program in
    let name = c.event_name-name.ensures ∙ ap (λ (q : Program). event_name (program_tree_of q) c.args.event) (c.program.ensures ∙ ap (λ (t : Typed). t.program) c.typed-typed.ensures) in
    subst (λ (t : Typed). IsCausalOn (program_tree_of t.program) c.event_name-name.result.now) (sym c.typed-typed.ensures)
    (subst (IsCausalOn p) (sym name) (causal-at p checked.causal c.args.event c.requires.is_event))

pub returns : goal.returns
returns c =
    let checked = c.args.c.now in
    let p = program_tree_of checked.typed.program in
    let s = numbers_of c.args.s.now.values in
    let j = c.args.samples.now in
    let event = event_name p c.args.event in
    let name = c.event_name-name.ensures ∙ ap (λ (q : Program). event_name (program_tree_of q) c.args.event) (c.program.ensures ∙ ap (λ (t : Typed). t.program) c.typed-typed.ensures) in
    let are =
    subst (AreValues p s j event) (sym c.as_slice.ensures.value)
    (subst (λ n. AreValues p s j n c.in_ok-values.values.items) name
    (subst (λ (t : Typed). AreValues (program_tree_of t.program) s j c.event_name-name.result.now c.in_ok-values.values.items) c.typed-typed.ensures
    (subst (λ vs. AreValues (program_tree_of c.typed-typed.result.now.program) (numbers_of vs) j c.event_name-name.result.now c.in_ok-values.values.items) c.as_slice-states.ensures c.in_ok-values.ensures))) in
    let by =
    subst (λ n. IfOk c.reaction_of.result (IsReactionBy p n c.as_slice.result.now)) name
    (subst (λ (t : Typed). IfOk c.reaction_of.result (IsReactionBy (program_tree_of t.program) c.event_name-name.result.now c.as_slice.result.now)) c.typed-typed.ensures c.reaction_of.ensures) in
    IfOk-weaker c.reaction_of.result (IsReactionBy p event c.as_slice.result.now) (IsReaction p s j event) (λ r h. h s j are) by
