use Rattle.std.specs.Prelude.{suc, Some, None}
use Rattle.std.proofs.Common.{sym, ap, subst, ◌∙◌, add-one, arith, get_or, take}
use Rattle.std.proofs.Math.Seq.{take-suc}
use Rattle.std.proofs.lemmas.List.{take_all}
use Rattle.frp_tree.specs.Priorities.{HasPriorities}
use Rattle.frp_tree.specs.Tree.{program_tree_of}
use Rattle.frp_tree.specs.declared.syntax.Program.{Program}
use Rattle.efrp_types.specs.declared.typed.Typed.{Typed}
use Rattle.efrp_types.proofs.GoodLaws.{no-fault-is-good}
use Rattle.reaction_model.specs.States.{numbers_of}
use Rattle.preempt_core.specs.declared.replays.Played.{Played}
use Rattle.preempt_core.specs.declared.steps.Step.TheVariants as steps
use Rattle.preempt_core.specs.Replays.{IsPlayed, commit_steps, event_priorities}
use Rattle.preempt_core.specs.Standing.{FewEvents, Standing}
use Rattle.preempt_core.proofs.ReplayFacts.{Stands, begins, can_follow, comes, few_events, first_commits, is_first_refused, is_played, still_stands}
use Rattle.preempt_core.proofs.replays.replay.Goals as goal

pub priorities_of-requires : goal.priorities_of-requires
priorities_of-requires c =
    let typed = c.args.c.now.typed in
    let same = c.program.ensures ∙ ap (λ (t : Typed). t.program) c.typed.ensures in
    subst (λ (q : Program). HasPriorities (program_tree_of q)) (sym same) (no-fault-is-good (program_tree_of typed.program) typed.checked.names).priorities

pub new-core-requires : goal.new-core-requires
new-core-requires c =
    let typed = c.args.c.now.typed in
    let same = c.program.ensures ∙ ap (λ (t : Typed). t.program) c.typed.ensures in
    let priorities = c.as_slice.ensures ∙ c.in_ok-priorities.ensures ∙ ap (λ (q : Program). event_priorities (program_tree_of q)) same in
    subst FewEvents (sym priorities) (few_events (program_tree_of typed.program) typed.formed.written.events (no-fault-is-good (program_tree_of typed.program) typed.checked.names).priorities)

pub loop-n-init : goal.loop-n-init
loop-n-init c =
    let p = program_tree_of c.args.c.now.typed.program in
    let same = c.program.ensures ∙ ap (λ (t : Typed). t.program) c.typed.ensures in
    let priorities = c.as_slice.ensures ∙ c.in_ok-priorities.ensures ∙ ap (λ (q : Program). event_priorities (program_tree_of q)) same in
    let core = c.new-core.ensures.empty in
    let before : Played = record { commits = c.new.result; state = c.in_ok-initial.field-0; ports = c.new-2.result } in
    begins p c.args.samples.now c.new-core.result before c.in_ok-initial.ensures.0 c.in_ok-initial.ensures.1 c.new.ensures c.new-2.ensures
    (c.new-core.ensures.starts (numbers_of before.state.values))
    (ap (λ (s : Standing). s.priorities) core ∙ priorities)

pub returns-in_default : goal.returns-in_default
returns-in_default c =
    let p = program_tree_of c.args.c.now.typed.program in
    let samples = c.args.samples.now in
    let list = c.args.steps.now in
    let n = c.loop-n.n in
    let k = c.loop-n.invariant in
    is_first_refused p samples list n (steps.Arrive 0) c.loop-n.core c.step.new.self c.loop-n.played k c.loop-n-test.true
    (comes p samples (take n list) (get_or list n (steps.Arrive 0)) c.loop-n.core c.step.new.self c.loop-n.played k None (sym c.in_default.is ∙ c.step.ensures.answers) c.step.ensures.leaves)

pub follow-requires-clause-can : goal.follow-requires-clause-can
follow-requires-clause-can c =
    let p = program_tree_of c.args.c.now.typed.program in
    let samples = c.args.samples.now in
    let list = c.args.steps.now in
    let n = c.loop-n.n in
    let k = c.loop-n.invariant in
    let s = get_or list n (steps.Arrive 0) in
    let answers = sym c.in-Some.is ∙ c.step.ensures.answers in
    let more = ap commit_steps (take-suc list n (steps.Arrive 0) c.loop-n-test.true) in
    let most = first_commits (suc n) list in
    let enough = c.requires.enough in
    can_follow p samples (take n list) s c.loop-n.core c.step.new.self c.loop-n.played k c.in-Some.done answers
    (comes p samples (take n list) s c.loop-n.core c.step.new.self c.loop-n.played k (Some c.in-Some.done) answers c.step.ensures.leaves)
    (omega (arith, more, most, enough))

pub loop-n-preserved : goal.loop-n-preserved
loop-n-preserved c =
    let p = program_tree_of c.args.c.now.typed.program in
    let samples = c.args.samples.now in
    let list = c.args.steps.now in
    let n = c.loop-n.n in
    let k = c.loop-n.invariant in
    let s = get_or list n (steps.Arrive 0) in
    let answers = sym c.in-Some.is ∙ c.step.ensures.answers in
    let more = ap commit_steps (take-suc list n (steps.Arrive 0) c.loop-n-test.true) in
    let most = first_commits (suc n) list in
    let enough = c.requires.enough in
    let come = comes p samples (take n list) s c.loop-n.core c.step.new.self c.loop-n.played k (Some c.in-Some.done) answers c.step.ensures.leaves in
    let can = can_follow p samples (take n list) s c.loop-n.core c.step.new.self c.loop-n.played k c.in-Some.done answers come (omega (arith, more, most, enough)) in
    subst (λ l. Stands p samples l c.step.new.self c.follow.new.played) (sym (ap (λ i. take i list) (add-one n) ∙ take-suc list n (steps.Arrive 0) c.loop-n-test.true))
    (still_stands p samples (take n list) s c.loop-n.core c.step.new.self c.loop-n.played c.follow.new.played k c.in-Some.done answers come c.step.ensures.keeps can c.in_ok-follow.ensures)

pub returns : goal.returns
returns c =
    let p = program_tree_of c.args.c.now.typed.program in
    let all = take_all c.loop-n.n c.args.steps.now c.loop-n-test.false in
    subst (λ list. IsPlayed p list c.args.samples.now c.loop-n.played) all (is_played p c.args.samples.now _ c.loop-n.core c.loop-n.played c.loop-n.invariant)
