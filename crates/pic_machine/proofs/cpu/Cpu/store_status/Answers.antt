use Rattle.std.proofs.Common.{ap, ◌∙◌}
use Rattle.pic_regs.specs.Bytes.{bits}
use Rattle.pic_regs.specs.Map.{Status}
use Rattle.pic_regs.specs.Registers.{write}
use Rattle.pic_regs.specs.State.{registers_of}
use Rattle.pic_machine.specs.Results.{status_byte}
use Rattle.pic_machine.specs.State.{cpu_of, flags_of}
use Rattle.pic_machine.proofs.cpu.Cpu.store_status.Goals as goal

pub returns : goal.returns
returns c =
    let byte = c.byte_for_status-byte.ensures ∙ ap (status_byte (flags_of c.args.outcome.flags) (bits c.args.outcome.byte)) c.status.ensures in
    ap (λ r. record (cpu_of c.args.self.now) { regs = r })
    (c.write_place.ensures ∙ ap (λ b. write Status b (registers_of c.args.self.now.regs)) byte)
