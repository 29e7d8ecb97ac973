use Rattle.std.proofs.Common.{ap, ◌∙◌, arith}
use Rattle.pic_regs.specs.Bytes.{bits}
use Rattle.pic_regs.specs.Map.{over_tris}
use Rattle.pic_regs.specs.State.{memory_of, registers_of}
use Rattle.pic_regs.proofs.MemoryFacts.{set_at}
use Rattle.pic_regs.proofs.state.Regs.write_tris.Goals as goal

pub returns : goal.returns
returns c =
    ap (λ m. record (registers_of c.args.self.now) { tris = m })
    (set_at 0xFF c.args.self.now.tris c.from.result c.args.port c.written_byte.result (over_tris c.args.port (memory_of 0xFF c.args.self.now.tris c.args.port) (bits c.args.byte)) (omega arith) c.from.ensures
    (c.written_byte.ensures ∙ ap (λ old. over_tris c.args.port old (bits c.args.byte)) c.tris-old.ensures))
