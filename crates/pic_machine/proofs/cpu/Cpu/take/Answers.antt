use Rattle.std.proofs.Common.{false, ap, ◌∙◌}
use Rattle.pic_machine.specs.Chip.{with_gie}
use Rattle.pic_machine.specs.State.{cpu_of}
use Rattle.pic_machine.proofs.cpu.Cpu.take.Goals as goal

pub returns : goal.returns
returns c =
    ap (λ r. record (cpu_of c.push.new.self) { pc = 0x0004; regs = r; due = false }) c.set_gie.ensures
    ∙ ap (λ d. with_gie false (record d { pc = 0x0004; due = false })) c.push.ensures
