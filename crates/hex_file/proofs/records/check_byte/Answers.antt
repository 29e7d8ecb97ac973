use Rattle.std.proofs.Common.{rules, ◌≡◌, ◌+◌, ◌%◌, arith}
use Rattle.std.specs.List.{fold}
use Rattle.hex_file.proofs.CheckFacts.{wrapping_sum, check_byte_unique}
use Rattle.hex_file.proofs.records.check_byte.Goals as goal

pub returns : goal.returns
returns c =
    let bytes = c.args.bytes.now in
    let folded : c.fold.result ≡ fold (λ s b. (s + b) % 256) 0 bytes = search rules in
    check_byte_unique bytes _ (omega arith) (omega (arith, wrapping_sum bytes))
