use Rattle.std.proofs.Common.{◌<◌, arith}
use Rattle.text_parts.proofs.DigitLaws.{hex4_written}
use Rattle.map_file.proofs.writer.write_sample.Goals as goal

pub returns : goal.returns
returns c =
    let small : c.args.sample.now.at < 65536 = omega arith in
    simp (c.as_str-event.ensures, c.as_str-input.ensures, c.laid_out.ensures, c.in_radix.ensures, hex4_written _ small) at c.writeln.ensures.bytes
