use Rattle.std.proofs.Common.{ap, ◌∙◌, arith}
use Rattle.pic_regs.specs.Bytes.{bits}
use Rattle.pic_regs.specs.Map.{over_port}
use Rattle.pic_regs.specs.State.{memory_of, registers_of}
use Rattle.pic_regs.proofs.MemoryFacts.{set_at}
use Rattle.pic_regs.proofs.state.Regs.write_port_latch.Goals as goal

pub returns : goal.returns
returns c =
    ap (λ m. record (registers_of c.args.self.now) { latch = m })
    (set_at 0x00 c.args.self.now.latch c.from-at.result c.args.port c.written_byte.result (over_port c.args.port (memory_of 0x00 c.args.self.now.latch c.args.port) (bits c.args.byte)) (omega arith) c.from-at.ensures
    (c.written_byte.ensures ∙ ap (λ at. over_port c.args.port (memory_of 0x00 c.args.self.now.latch at) (bits c.args.byte)) c.from-at.ensures))
