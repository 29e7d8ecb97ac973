use Rattle.std.proofs.Common.{◌≡◌}
use Rattle.pic_machine.specs.Boundary.{no_outer}
use Rattle.pic_machine.specs.Run.{after}
use Rattle.pic_machine.specs.State.{chip_of, memory_of}
use Rattle.chip_speed.proofs.run.Given as goal

abbrev pub invariant-loop-step : goal.invariant-loop-step
invariant-loop-step l = record {
  chip : chip_of l.chip ≡ after (memory_of l.fn.chip) (chip_of l.fn.chip) (λ n. no_outer) l._step;
  memory : memory_of l.chip ≡ memory_of l.fn.chip;
}
