-- What holds of every plan.
use Rattle.std.specs.Prelude.{ℕ, List}
use Rattle.frp_tree.specs.Tree.{ProgramTree}
use Rattle.efrp_meaning.specs.Causal.{IsCausalOn}
use Rattle.efrp_meaning.specs.States.{NamesDiffer}
use Rattle.two_phase.specs.declared.plans.Plan.{Plan}
use Rattle.two_phase.specs.Plans.{IsPlan, PlanGives}

-- On an event on which no definition depends on itself, each plan gives what is meant.
abbrev pub PlansGive : ProgramTree → Type 0
PlansGive p = (event : List ℕ) (plan : Plan) → NamesDiffer p → IsCausalOn p event → IsPlan p event plan → PlanGives p event plan
