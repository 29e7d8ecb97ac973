use Rattle.std.proofs.Common.{◌+◌, ap, ◌∙◌, arith}
use Rattle.pic_regs.specs.Bytes.{bits}
use Rattle.pic_machine.proofs.ByteArithmeticFacts.{bits-less}
use Rattle.pic_machine.proofs.results.decrement.Goals as goal

pub returns : goal.returns
returns c = c.low_byte.ensures ∙ ap (λ n. bits (n + 255)) c.from.ensures ∙ bits-less c.args.byte (omega arith)
