use Rattle.std.proofs.Common.{◌≡◌, ℕ, [], ◌++◌, drop}
use Rattle.frp_tree.specs.Tree.{program_tree_of}
use Rattle.pic_isa.specs.declared.sources.Source.{Source}
use Rattle.glue_steps.specs.Choices.{test_items}
use Rattle.isr_vector.specs.Taking.{AreSources, tests_of}
use Rattle.isr_vector.proofs.dispatch.add_tests.Given as goal

-- the tests so far and those of the events to come are all
abbrev pub invariant-loop-event : goal.invariant-loop-event
invariant-loop-event l =
    (source : ℕ → Source) → AreSources (program_tree_of l.c.typed.program) source
    → l.code.items ++ test_items (tests_of source (drop l.event-index l.tested)) [] ≡ l.fn.code.items ++ test_items (tests_of source l.tested) []
