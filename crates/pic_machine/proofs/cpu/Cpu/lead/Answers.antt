use Rattle.std.proofs.Common.{◌+◌, ◌*◌, ◌∙◌, arith}
use Rattle.pic_machine.specs.State.{cpu_of}
use Rattle.pic_machine.proofs.ByteArithmeticFacts.{itself}
use Rattle.pic_machine.proofs.cpu.Cpu.lead.Goals as goal

pub returns : goal.returns
returns c =
    let page = c.from.ensures ∙ c.read_place.ensures.number in
    let byte = c.from-2.ensures ∙ itself c.args.byte (omega arith) in
    λ j. record (cpu_of c.args.self.now) { pc = 256 * page j + byte j }
