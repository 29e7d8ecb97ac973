use Rattle.std.proofs.Common.{◌<◌, arith}
use Rattle.text_parts.proofs.DigitLaws.{hex3_written}
use Rattle.map_file.proofs.writer.write_range.Goals as goal

pub returns : goal.returns
returns c =
    let from : c.args.range.from < 4096 = omega arith in
    let to : c.args.range.to < 4096 = omega arith in
    simp (c.laid_out.ensures, c.laid_out-2.ensures, c.in_radix.ensures, c.in_radix-2.ensures, hex3_written _ from, hex3_written _ to) at c.writeln.ensures.bytes
