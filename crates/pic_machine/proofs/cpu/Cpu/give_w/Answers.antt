use Rattle.pic_machine.proofs.StateFacts.{leaves-done}
use Rattle.pic_machine.proofs.cpu.Cpu.give_w.Goals as goal

pub returns : goal.returns
returns c = leaves-done c.no_effect.result _ _ c.no_effect.ensures c.set_flags.ensures
