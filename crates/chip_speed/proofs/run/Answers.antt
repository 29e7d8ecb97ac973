use Rattle.std.proofs.Common.{◌≡◌, ℕ, ◌==◌, ◌∙◌, sym, ap, add-one, arith, false}
use Rattle.pic_regs.specs.Arrivals.{set_of}
use Rattle.pic_regs.proofs.ArrivalLaws.{set_of-zero}
use Rattle.pic_machine.specs.Boundary.{Outer, no_pins, no_outer, boundary}
use Rattle.pic_machine.specs.Run.{after}
use Rattle.pic_machine.specs.State.{chip_of, memory_of}
use Rattle.chip_speed.proofs.run.Goals as goal

-- The empty set of arrivals as the code gives it.
nothing : record { arrivals = set_of 0x000; pins = no_pins; late = false } ≡ no_outer
nothing = λ i. record no_outer { arrivals = set_of-zero i }

pub loop-step-preserved : goal.loop-step-preserved
loop-step-preserved c = record {
  chip =
      c.step.ensures.chip ∙ (λ i. (boundary (c.loop-step.invariant.memory i) (nothing i) (c.loop-step.invariant.chip i)).after)
      ∙ ap (λ (n : ℕ). after (memory_of c.args.chip.now) (chip_of c.args.chip.now) (λ k. no_outer) n) (sym (add-one c.loop-step._step));
  memory = c.step.ensures.memory ∙ c.loop-step.invariant.memory;
}

pub returns : goal.returns
returns c =
    let all : c.loop-step._step ≡ c.args.steps = omega arith in
    c.loop-step.invariant.chip ∙ ap (λ (n : ℕ). after (memory_of c.args.chip.now) (chip_of c.args.chip.now) (λ k. no_outer) n) all
