use Rattle.std.proofs.Common.{◌+◌, ◌%◌, get_or}
use Rattle.pic_machine.specs.State.{cpu_of}
use Rattle.pic_machine.proofs.cpu.Cpu.pop.Goals as goal

pub returns : goal.returns
returns c = λ j. record (cpu_of c.args.self.now) {
  pc = get_or c.args.self.now.stack (c.from.ensures j) 0;
  top = (c.args.self.now.top + 7) % 8;
  depth = c.saturating_sub-self.ensures j;
}
