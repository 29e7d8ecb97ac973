use Rattle.std.proofs.Common.{refl, sym}
use Rattle.preempt_core.proofs.StandingFacts.{in_order_taken, taken_leaves}
use Rattle.preempt_core.proofs.priority_core.Core.take.Goals as goal

pub invariant_of-self : goal.invariant_of-self
invariant_of-self c =
    let is = c.self.view_is in
    let top = rw (← is) at c.top_priority.ensures in
    in_order_taken c.self.inside.priorities.now c.self.inside.top c.self.inside.runs _ c.self.invariant c.in_ok-event.ensures.within (rw (← top) c.if-top_priority-self.false)

pub returns-clause-leaves : goal.returns-clause-leaves
returns-clause-leaves c =
    let is = c.self.view_is in
    let top = rw (← is) at c.top_priority.ensures in
    let left = rw (← is) at c.if-is_left.ensures in
    rw (← is)
    (taken_leaves c.self.inside.priorities.now c.self.inside.latched c.self.inside.top c.self.inside.runs _ c.self.invariant c.self.told.1 (sym left) c.in_ok-event.ensures.best c.in_ok-event.ensures.within
    (rw (← top) c.if-top_priority-self.false)
    refl)
