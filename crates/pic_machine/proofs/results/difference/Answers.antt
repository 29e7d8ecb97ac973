use Rattle.std.proofs.Common.{◌≡◌, ◌+◌, ◌-◌, ap, ◌∙◌, arith}
use Rattle.pic_regs.specs.Bytes.{bits}
use Rattle.pic_machine.proofs.ByteArithmeticFacts.{difference-bits}
use Rattle.pic_machine.proofs.results.difference.Goals as goal

pub returns : goal.returns
returns c =
    let whole : c.from.result + 256 - c.from-2.result ≡ c.args.x + 256 - c.args.y = omega arith in
    c.with_all_flags.ensures ∙ difference-bits c.args.x c.args.y c.low_byte.result (omega arith) (omega arith) (c.low_byte.ensures ∙ ap bits whole)
