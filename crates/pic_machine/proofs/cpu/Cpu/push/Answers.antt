use Rattle.std.proofs.Common.{◌+◌, ◌%◌, arith}
use Rattle.pic_machine.specs.State.{cpu_of}
use Rattle.pic_machine.proofs.StateFacts.{stack-set}
use Rattle.pic_machine.proofs.cpu.Cpu.push.Goals as goal

pub returns : goal.returns
returns c =
    let pushed_at = stack-set c.args.self.now.stack c.from.result c.args.self.now.top c.args.self.now.pc (omega arith) c.from.ensures in
    λ j. record (cpu_of c.args.self.now) { stack = pushed_at j; top = (c.args.self.now.top + 1) % 8; depth = c.saturating_add-self.ensures j }
