use Rattle.std.proofs.Common.{ap, ◌∙◌}
use Rattle.pic_machine.specs.Exec.{watchdog_cleared}
use Rattle.pic_machine.specs.State.{cpu_of}
use Rattle.pic_machine.proofs.StateFacts.{leaves-done}
use Rattle.pic_machine.proofs.cpu.Cpu.clrwdt.Goals as goal

pub returns : goal.returns
returns c =
    leaves-done c.no_effect.result _ _ c.no_effect.ensures
    (ap (λ r. record (cpu_of c.advance.new.self) { regs = r }) c.clear_watchdog.ensures ∙ ap watchdog_cleared c.advance.ensures)
