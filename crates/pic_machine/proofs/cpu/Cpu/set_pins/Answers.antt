use Rattle.std.proofs.Common.{ap}
use Rattle.pic_machine.specs.State.{cpu_of}
use Rattle.pic_machine.proofs.cpu.Cpu.set_pins.Goals as goal

pub returns : goal.returns
returns c = ap (λ r. record (cpu_of c.args.self.now) { regs = r }) c.set_pins.ensures
