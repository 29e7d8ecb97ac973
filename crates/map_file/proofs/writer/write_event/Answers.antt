use Rattle.std.proofs.Common.{◌<◌, arith}
use Rattle.text_parts.proofs.DigitLaws.{hex4_written}
use Rattle.map_file.proofs.writer.write_event.Goals as goal

pub returns : goal.returns
returns c =
    let opens : c.args.event.now.open < 65536 = omega arith in
    let commits : c.args.event.now.commit < 65536 = omega arith in
    simp (c.as_str-name.ensures, c.name-source.ensures, c.laid_out.ensures, c.laid_out-2.ensures, c.in_radix.ensures, c.in_radix-2.ensures, hex4_written _ opens, hex4_written _ commits) at c.writeln.ensures.bytes
