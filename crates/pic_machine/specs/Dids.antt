-- What a step did, told by tests.
use Rattle.std.specs.Prelude.{ℕ, Bool, true, false, ◌==◌}
use Rattle.pic_machine.specs.declared.steps.Did.{Did}
use Rattle.pic_machine.specs.declared.steps.Did.TheVariants.{Took, Ran, Stopped}

-- A step took an interrupt.
abbrev pub is_taking : Did → Bool
is_taking Took = true
is_taking (Ran address word) = false
is_taking (Stopped address why) = false

-- The instruction at an address ran.
abbrev pub is_run_at : ℕ → Did → Bool
is_run_at address Took = false
is_run_at address (Ran at word) = at == address
is_run_at address (Stopped at why) = false

-- A step stopped the machine.
abbrev pub is_stop : Did → Bool
is_stop Took = false
is_stop (Ran address word) = false
is_stop (Stopped address why) = true
