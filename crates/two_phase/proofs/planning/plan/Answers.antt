use Rattle.std.proofs.Common.{ap, ◌∙◌}
use Rattle.std.proofs.lemmas.Result.{err_from_is_err_and}
use Rattle.frp_tree.specs.declared.syntax.Program.{Program}
use Rattle.frp_tree.specs.Tree.{program_tree_of}
use Rattle.efrp_types.specs.Numbers.{event_name}
use Rattle.efrp_types.specs.declared.typed.Typed.{Typed}
use Rattle.two_phase.proofs.PlannedFacts.{planned, planned-gives}
use Rattle.two_phase.proofs.planning.plan.Goals as goal

pub returns-in_err-needed-clause-plan : goal.returns-in_err-needed-clause-plan
returns-in_err-needed-clause-plan c = let told = err_from_is_err_and c.from_residual.result c.from_residual.ensures.1 in rw told.1 tt

pub returns-in_err-assign_values-clause-plan : goal.returns-in_err-assign_values-clause-plan
returns-in_err-assign_values-clause-plan c = let told = err_from_is_err_and c.from_residual-in_err-assign_values.result c.from_residual-in_err-assign_values.ensures.1 in rw told.1 tt

pub returns-in_err-assign_states-clause-plan : goal.returns-in_err-assign_states-clause-plan
returns-in_err-assign_states-clause-plan c = let told = err_from_is_err_and c.from_residual-in_err-assign_states.result c.from_residual-in_err-assign_states.ensures.1 in rw told.1 tt

pub returns-in_err-commit-clause-plan : goal.returns-in_err-commit-clause-plan
returns-in_err-commit-clause-plan c = let told = err_from_is_err_and c.from_residual-in_err-commit.result c.from_residual-in_err-commit.ensures.1 in rw told.1 tt

pub returns-clause-plan : goal.returns-clause-plan
returns-clause-plan c =
    let k = c.args.c.now in
    let named = c.event_name-name.ensures ∙ ap (λ (q : Program). event_name (program_tree_of q) c.args.event) (c.program.ensures ∙ ap (λ (t : Typed). t.program) c.typed-typed.ensures) in
    planned k c.args.event c.typed-typed.result.now c.event_name-name.result.now c.order.result.now c.new-work.result c.assign_values.new.work c.assign_states.new.work c.in_ok-commit.commit
    c.typed-typed.ensures named c.order.ensures c.new-work.ensures c.in_ok-assign_values.ensures c.in_ok-assign_states.ensures c.in_ok-commit.ensures

pub returns-clause-gives : goal.returns-clause-gives
returns-clause-gives c =
    let k = c.args.c.now in
    let named = c.event_name-name.ensures ∙ ap (λ (q : Program). event_name (program_tree_of q) c.args.event) (c.program.ensures ∙ ap (λ (t : Typed). t.program) c.typed-typed.ensures) in
    planned-gives k c.args.event c.requires (record { work = c.assign_states.new.work; commit = c.in_ok-commit.commit })
    (planned k c.args.event c.typed-typed.result.now c.event_name-name.result.now c.order.result.now c.new-work.result c.assign_values.new.work c.assign_states.new.work c.in_ok-commit.commit
    c.typed-typed.ensures named c.order.ensures c.new-work.ensures c.in_ok-assign_values.ensures c.in_ok-assign_states.ensures c.in_ok-commit.ensures)
