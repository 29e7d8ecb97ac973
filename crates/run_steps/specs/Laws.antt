-- What the law of `laws.rt` promises.
use Rattle.std.specs.Prelude.{ℕ}
use Rattle.frp_tree.specs.Tree.{ProgramTree}
use Rattle.map_file.specs.declared.maps.Map.{Map}
use Rattle.timed_core.specs.Timing.{Timing}
use Rattle.firmware_parts.specs.Layout.{Layout}
use Rattle.firmware_parts.specs.Runs.{DoesRun}
use Rattle.scratch_commit.specs.Plans.{Plan}
use Rattle.run_steps.specs.Premises.{IsRunIn}
use Rattle.run_steps.specs.Saved.{SavedBy}

-- Where the items of an event's run stand, and the layout tells of them what is so, the run does what is asked of it.
abbrev pub RunDoes : ProgramTree → Map → Timing → Layout → (marks : ℕ → ℕ) → (starting start : ℕ) → (plans : ℕ → Plan) → ℕ → Type 0
RunDoes p m t l marks starting start plans e =
    IsRunIn p m t l marks starting start (plans e) e → DoesRun p m t l (λ event. SavedBy l (plans event)) starting e
