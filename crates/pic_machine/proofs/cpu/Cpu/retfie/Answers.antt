use Rattle.std.proofs.Common.{true, ap, ◌∙◌}
use Rattle.pic_machine.specs.Chip.{popped, with_gie}
use Rattle.pic_machine.specs.State.{cpu_of}
use Rattle.pic_machine.proofs.StateFacts.{leaves-done}
use Rattle.pic_machine.proofs.cpu.Cpu.retfie.Goals as goal

pub returns : goal.returns
returns c =
    leaves-done c.no_effect.result _ _ c.no_effect.ensures
    (ap (λ r. record (cpu_of c.pop.new.self) { regs = r }) c.set_gie.ensures
    ∙ ap (with_gie true) c.pop.ensures ∙ ap (λ d. with_gie true (popped d)) c.advance.ensures)
