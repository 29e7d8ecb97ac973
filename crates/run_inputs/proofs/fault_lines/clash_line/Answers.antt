use Rattle.std.proofs.Common.{◌<◌, arith}
use Rattle.text_parts.proofs.DigitLaws.{hex4_written}
use Rattle.run_inputs.proofs.fault_lines.clash_line.Goals as goal

pub returns : goal.returns
returns c =
    let small : c.args.address < 65536 = omega arith in
    simp (c.laid_out.ensures, c.in_radix.ensures, hex4_written _ small) at c.format.ensures.ok
