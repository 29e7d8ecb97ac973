use Rattle.std.proofs.Common.{ap, ◌∙◌, arith}
use Rattle.pic_regs.specs.Map.{existing}
use Rattle.pic_regs.specs.Registers.{read}
use Rattle.pic_regs.specs.Places.{reg_of}
use Rattle.pic_regs.specs.State.{registers_of}
use Rattle.pic_regs.proofs.BitLaws.{num_of}
use Rattle.pic_regs.proofs.state.Regs.read_place.Goals as goal

pub returns-clause-number : goal.returns-clause-number
returns-clause-number c =
    num_of c.existing_byte.result (read (reg_of c.args.place) (registers_of c.args.self.now)) (omega arith)
    (c.existing_byte.ensures ∙ ap (existing (reg_of c.args.place)) c.held_at.ensures)
