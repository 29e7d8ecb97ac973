use Rattle.std.proofs.Common.{◌/◌, arith}
use Rattle.pic_regs.proofs.ByteLaws.{num-bits, one_if-odd}
use Rattle.pic_regs.proofs.state.Regs.indirect_address.Goals as goal

pub returns-clause-address : goal.returns-clause-address
returns-clause-address c = omega (arith, num-bits c.args.self.now.fsr, one_if-odd (c.args.self.now.status / 128))
