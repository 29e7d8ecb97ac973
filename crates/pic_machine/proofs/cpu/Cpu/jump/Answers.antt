use Rattle.std.proofs.Common.{◌+◌, ap}
use Rattle.pic_machine.specs.State.{cpu_of}
use Rattle.pic_machine.proofs.cpu.Cpu.jump.Goals as goal

pub returns : goal.returns
returns c = ap (λ n. record (cpu_of c.args.self.now) { pc = n + c.args.k }) c.page.ensures.page
