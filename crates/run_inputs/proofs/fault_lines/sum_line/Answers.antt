use Rattle.std.proofs.Common.{◌<◌, arith}
use Rattle.text_parts.proofs.DigitLaws.{hex2_written}
use Rattle.run_inputs.proofs.fault_lines.sum_line.Goals as goal

pub returns : goal.returns
returns c =
    let got : c.args.got < 256 = omega arith in
    let want : c.args.want < 256 = omega arith in
    simp (c.laid_out.ensures, c.laid_out-2.ensures, c.in_radix.ensures, c.in_radix-2.ensures, hex2_written _ got, hex2_written _ want) at c.format.ensures.ok
