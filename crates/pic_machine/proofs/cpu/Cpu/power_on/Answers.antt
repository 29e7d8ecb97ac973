use Rattle.pic_machine.specs.Run.{power_on}
use Rattle.pic_machine.proofs.StateFacts.{places-empty}
use Rattle.pic_machine.proofs.cpu.Cpu.power_on.Goals as goal

pub returns : goal.returns
returns c = λ j. record (power_on c.args.start.now) { regs = c.power_on.ensures j; stack = places-empty j }
