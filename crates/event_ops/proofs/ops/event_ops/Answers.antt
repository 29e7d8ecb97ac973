use Rattle.std.proofs.Common.{◌≡◌, ℕ, ◌+◌, List, [], arith, refl, sym, ap, subst, sum_by, take, ◌∙◌}
use Rattle.std.proofs.lemmas.List.{take_all}
use Rattle.std.proofs.lemmas.Result.{IfOk-from_err}
use Rattle.frp_tree.specs.declared.syntax.Program.{Program}
use Rattle.frp_tree.specs.Tree.{program_tree_of}
use Rattle.efrp_meaning.specs.Bounds.{result_bytes, weight}
use Rattle.efrp_types.specs.Numbers.{event_name}
use Rattle.efrp_types.specs.declared.typed.Typed.{Typed}
use Rattle.event_needs.proofs.CheckedLaws.{checked-causal, checked-typed}
use Rattle.event_needs.proofs.NumberLaws.{names-differ}
use Rattle.two_phase.specs.declared.plans.Assign.{Assign}
use Rattle.two_phase.proofs.GiveLaws.{all-known, plans-give}
use Rattle.event_ops.specs.Drafts.{Drafted, IsDraftedTo, IsReady, by_expression}
use Rattle.event_ops.specs.Works.{Works}
use Rattle.event_ops.proofs.DraftFacts.{begins}
use Rattle.event_ops.proofs.FinishFacts.{works}
use Rattle.event_ops.proofs.NamedFacts.{can-put}
use Rattle.event_ops.proofs.SumFacts.{needed-plain}
use Rattle.event_ops.proofs.ops.event_ops.Goals as goal

pub returns-in_err-draft : goal.returns-in_err-draft
returns-in_err-draft c = IfOk-from_err c.from_residual.result _ c.from_residual.ensures.0

pub returns-in_err-assign : goal.returns-in_err-assign
returns-in_err-assign c = IfOk-from_err c.from_residual-in_err-assign.result _ c.from_residual-in_err-assign.ensures.0

pub returns-in_err-puts : goal.returns-in_err-puts
returns-in_err-puts c = IfOk-from_err c.from_residual-in_err-puts.result _ c.from_residual-in_err-puts.ensures.0

pub loop-k-init : goal.loop-k-init
loop-k-init c =
    let k = c.args.c.now in
    let p = program_tree_of k.typed.program in
    let event = event_name p c.args.event in
    let plan = c.args.plan.now in
    let typed = checked-typed k in
    let differ = names-differ k in
    begins p typed differ c.requires.no_inputs event c.in_ok-draft.draft c.in_ok-draft.ensures

pub assign-requires-clause-ready : goal.assign-requires-clause-ready
assign-requires-clause-ready c =
    let k = c.args.c.now in
    let p = program_tree_of k.typed.program in
    let event = event_name p c.args.event in
    let plan = c.args.plan.now in
    let typed = checked-typed k in
    let differ = names-differ k in
    let named = c.event_name-name.ensures ∙ ap (λ (q : Program). event_name (program_tree_of q) c.args.event) (c.program.ensures ∙ ap (λ (t : Typed). t.program) c.typed.ensures) in
    let causal = checked-causal k c.args.event c.requires.is_event in
    let ready : IsReady p event plan = record { plan = c.requires.plan; gives = plans-give p event plan differ causal c.requires.plan; no_look = c.requires.no_look; no_inputs = c.requires.no_inputs; room = c.requires.room } in
    subst (λ x. IsReady p x plan) (sym named) ready

pub assign-requires-clause-so_far : goal.assign-requires-clause-so_far
assign-requires-clause-so_far c =
    let k = c.args.c.now in
    let p = program_tree_of k.typed.program in
    let event = event_name p c.args.event in
    let plan = c.args.plan.now in
    let typed = checked-typed k in
    let differ = names-differ k in
    let named = c.event_name-name.ensures ∙ ap (λ (q : Program). event_name (program_tree_of q) c.args.event) (c.program.ensures ∙ ap (λ (t : Typed). t.program) c.typed.ensures) in
    subst (λ x. IsDraftedTo p x plan c.loop-k.k c.loop-k.draft) (sym named) c.loop-k.invariant

pub loop-k-preserved : goal.loop-k-preserved
loop-k-preserved c =
    let k = c.args.c.now in
    let p = program_tree_of k.typed.program in
    let event = event_name p c.args.event in
    let plan = c.args.plan.now in
    let typed = checked-typed k in
    let differ = names-differ k in
    let named = c.event_name-name.ensures ∙ ap (λ (q : Program). event_name (program_tree_of q) c.args.event) (c.program.ensures ∙ ap (λ (t : Typed). t.program) c.typed.ensures) in
    subst (λ x. IsDraftedTo p x plan (c.loop-k.k + 1) c.assign.new.draft) named c.in_ok-assign.ensures

pub add_outputs-requires : goal.add_outputs-requires
add_outputs-requires c =
    let k = c.args.c.now in
    let p = program_tree_of k.typed.program in
    let event = event_name p c.args.event in
    let plan = c.args.plan.now in
    let typed = checked-typed k in
    let differ = names-differ k in
    let causal = checked-causal k c.args.event c.requires.is_event in
    let ready : IsReady p event plan = record { plan = c.requires.plan; gives = plans-give p event plan differ causal c.requires.plan; no_look = c.requires.no_look; no_inputs = c.requires.no_inputs; room = c.requires.room } in
    let plain = needed-plain p differ event in
    let more = c.loop-k-test.false in
    let long = c.len-k-end.ensures in
    let all : take c.loop-k.k plan.work ≡ plan.work = take_all c.loop-k.k plan.work (omega (arith, more, long)) in
    let f = by_expression p event (result_bytes p) in
    let g = by_expression p event (weight p) in
    let so_far = subst (λ (ws : List Assign). Drafted p event ws (sum_by f ws) (sum_by g ws) c.loop-k.draft) all c.loop-k.invariant in
    can-put p typed differ event plan ready plain (sum_by f plan.work) (sum_by g plan.work) c.loop-k.draft so_far refl

pub returns : goal.returns
returns c =
    let k = c.args.c.now in
    let p = program_tree_of k.typed.program in
    let event = event_name p c.args.event in
    let plan = c.args.plan.now in
    let typed = checked-typed k in
    let differ = names-differ k in
    let causal = checked-causal k c.args.event c.requires.is_event in
    let ready : IsReady p event plan = record { plan = c.requires.plan; gives = plans-give p event plan differ causal c.requires.plan; no_look = c.requires.no_look; no_inputs = c.requires.no_inputs; room = c.requires.room } in
    let plain = needed-plain p differ event in
    let more = c.loop-k-test.false in
    let long = c.len-k-end.ensures in
    let all : take c.loop-k.k plan.work ≡ plan.work = take_all c.loop-k.k plan.work (omega (arith, more, long)) in
    let last = c.add_outputs.new.draft in
    subst (λ (n : ℕ). Works p event (record { ops = last.ops; copies = last.copies; puts = c.in_ok-puts.puts; cells = n })) (sym c.count.ensures)
    (works p typed differ event causal plan ready plain (λ s y known. all-known p differ event causal plan c.requires.plan s [] y known) c.loop-k.draft last c.loop-k.k all c.loop-k.invariant c.in_ok-puts.puts c.in_ok-puts.ensures)
