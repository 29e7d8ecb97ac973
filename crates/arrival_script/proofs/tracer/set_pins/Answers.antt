use Rattle.std.proofs.Common.{◌<◌, ◌≤◌, length, ◌∙◌, arith}
use Rattle.pic_machine.specs.State.{chip_of}
use Rattle.arrival_script.proofs.PinFacts.{pins-more, pins-all, pins-rest}
use Rattle.arrival_script.proofs.tracer.set_pins.Goals as goal

pub returns-then-first-boundary-clause-chip : goal.returns-then-first-boundary-clause-chip
returns-then-first-boundary-clause-chip c =
    let some : 1 ≤ length c.loop-rest.rest.now = omega arith in
    (pins-rest c.args.changes.now c.loop-rest.rest.now c.args.boundary (chip_of c.args.chip.now) (chip_of c.loop-rest.chip) (record { at = 0; port = 0; byte = 0 }) c.loop-rest.invariant.pins some c.if-first-boundary.true).0

pub loop-rest-preserved : goal.loop-rest-preserved
loop-rest-preserved c =
    let some : 1 ≤ length c.loop-rest.rest.now = omega arith in
    record {
      pins = pins-more c.args.changes.now c.loop-rest.rest.now c.args.boundary (chip_of c.args.chip.now) (chip_of c.loop-rest.chip) (chip_of c.set_pins.new.self) (record { at = 0; port = 0; byte = 0 }) c.loop-rest.invariant.pins some
          c.if-first-boundary.false c.set_pins.ensures.chip;
      memory = c.set_pins.ensures.memory ∙ c.loop-rest.invariant.memory;
    }

pub returns-clause-chip : goal.returns-clause-chip
returns-clause-chip c =
    let none : length c.loop-rest.rest.now < 1 = omega arith in
    (pins-all c.args.changes.now c.loop-rest.rest.now c.args.boundary (chip_of c.args.chip.now) (chip_of c.loop-rest.chip) c.loop-rest.invariant.pins none).0
