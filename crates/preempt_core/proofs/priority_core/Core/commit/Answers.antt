use Rattle.std.proofs.Common.{refl, arith, false}
use Rattle.preempt_core.specs.declared.runs.Run.{Run}
use Rattle.preempt_core.proofs.StandingFacts.{in_order_committed, committed_leaves}
use Rattle.preempt_core.proofs.priority_core.Core.commit.Goals as goal

none : Run
none = record { event = 0; void = false; committed = false }

pub invariant_of-self : goal.invariant_of-self
unfolding none
invariant_of-self c =
    let places = c.self.invariant.places in
    let low = c.in_ok-run.ensures.lookup.3.0 in
    rw c.void_all.ensures (in_order_committed c.self.inside.priorities.now c.self.inside.top c.self.inside.runs none _ c.self.invariant (omega arith) refl)

pub returns-clause-leaves : goal.returns-clause-leaves
unfolding none
returns-clause-leaves c =
    let is = c.self.view_is in
    let places = c.self.invariant.places in
    let low = c.in_ok-run.ensures.lookup.3.0 in
    let top = c.in_ok-run.ensures.lookup.3.1 none in
    let open_run = c.if-run.false in
    let clean = c.if-run-2.false in
    rw c.void_all.ensures
    (committed_leaves c.self.inside.priorities.now c.self.inside.latched c.self.inside.top c.self.inside.runs none c.args.self.now c.self.invariant (omega arith) (rw top at open_run) (rw top at clean) is)
