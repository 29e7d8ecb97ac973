use Rattle.std.proofs.Common.{refl, ap, arith}
use Rattle.pic_regs.specs.Bytes.{bits}
use Rattle.pic_regs.specs.State.{registers_of}
use Rattle.pic_regs.proofs.MemoryFacts.{set_at}
use Rattle.pic_regs.proofs.state.Regs.set_pins.Goals as goal

pub returns : goal.returns
returns c =
    ap (λ m. record (registers_of c.args.self.now) { pins = m })
    (set_at 0x00 c.args.self.now.pins c.from.result c.args.port c.args.byte (bits c.args.byte) (omega arith) c.from.ensures refl)
