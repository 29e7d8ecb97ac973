use Rattle.std.proofs.Common.{ap, ◌∙◌}
use Rattle.pic_regs.specs.Bytes.{bits}
use Rattle.pic_machine.specs.Chip.{popped}
use Rattle.pic_machine.proofs.StateFacts.{leaves-done}
use Rattle.pic_machine.proofs.cpu.Cpu.retlw.Goals as goal

pub returns : goal.returns
returns c =
    leaves-done c.no_effect.result _ _ c.no_effect.ensures
    (c.pop.ensures ∙ ap (λ d. popped (record d { w = bits c.args.k })) c.advance.ensures)
