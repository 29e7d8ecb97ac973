use Rattle.std.proofs.Common.{◌≡◌, ◌+◌, ◌%◌, nat_lt, ap, ◌∙◌, arith}
use Rattle.pic_regs.specs.Bytes.{bits, is_zero}
use Rattle.pic_machine.specs.Results.{All}
use Rattle.pic_machine.proofs.ByteArithmeticFacts.{sum-bits}
use Rattle.pic_machine.proofs.results.sum.Goals as goal

pub returns : goal.returns
returns c =
    let whole : c.from.result + c.from-2.result ≡ c.args.x + c.args.y = omega arith in
    c.with_all_flags.ensures
    ∙ ap (λ n. record { byte = bits c.low_byte.result; flags = All (nat_lt 255 n) (nat_lt 15 (c.args.x % 16 + c.args.y % 16)) (is_zero (bits c.low_byte.result)) }) whole
    ∙ sum-bits c.args.x c.args.y c.low_byte.result (omega arith) (omega arith) (c.low_byte.ensures ∙ ap bits whole)
