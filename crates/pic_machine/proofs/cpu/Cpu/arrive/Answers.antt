use Rattle.std.proofs.Common.{ap}
use Rattle.pic_machine.specs.State.{cpu_of}
use Rattle.pic_machine.proofs.cpu.Cpu.arrive.Goals as goal

pub returns-clause-chip : goal.returns-clause-chip
returns-clause-chip c = ap (λ r. record (cpu_of c.args.self.now) { regs = r }) c.arrive.ensures.registers
