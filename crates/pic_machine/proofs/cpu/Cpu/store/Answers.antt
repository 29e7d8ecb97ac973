use Rattle.std.proofs.Common.{◌∙◌}
use Rattle.pic_machine.proofs.cpu.Cpu.store.Goals as goal

pub returns : goal.returns
returns c = c.set_flags.ensures ∙ c.store_byte.ensures
