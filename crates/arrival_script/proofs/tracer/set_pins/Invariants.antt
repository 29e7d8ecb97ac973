use Rattle.std.proofs.Common.{◌≡◌, length}
use Rattle.pic_machine.specs.State.{chip_of, memory_of}
use Rattle.arrival_script.proofs.PinFacts.{PinsSoFar}
use Rattle.arrival_script.proofs.tracer.set_pins.Given as goal

abbrev pub invariant-loop-rest : goal.invariant-loop-rest
invariant-loop-rest l = record {
  pins : PinsSoFar l.changes l.rest l.boundary (chip_of l.initial.chip) (chip_of l.chip);
  memory : memory_of l.chip ≡ memory_of l.initial.chip;
}

abbrev pub decreases-loop-rest : goal.decreases-loop-rest
decreases-loop-rest l = length l.rest
