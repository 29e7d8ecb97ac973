use Rattle.std.proofs.Common.{ap, refl, ◌∙◌}
use Rattle.pic_machine.specs.Run.{power_on}
use Rattle.arrival_script.proofs.RunFacts.{running-none}
use Rattle.arrival_script.proofs.tracer.Tracer.new.Goals as goal

pub returns : goal.returns
returns c = λ m o.
    running-none m c.args.image.now c.args.script.now _ o c.requires.script (c.power_on.ensures.chip ∙ ap power_on c.start_of.ensures) c.power_on.ensures.memory refl
    c.as_slice.ensures c.as_slice-2.ensures refl c.new.ensures.bytes
