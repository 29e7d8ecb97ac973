use Rattle.std.proofs.Common.{◌+◌, ap, ◌∙◌, arith}
use Rattle.pic_regs.specs.Bytes.{bits}
use Rattle.pic_machine.proofs.ByteArithmeticFacts.{bits-more}
use Rattle.pic_machine.proofs.results.increment.Goals as goal

pub returns : goal.returns
returns c = c.low_byte.ensures ∙ ap (λ n. bits (n + 1)) c.from.ensures ∙ bits-more c.args.byte (omega arith)
