use Rattle.std.proofs.Common.{refl}
use Rattle.hex_file.specs.Written.{written}
use Rattle.frp_tool.specs.Bigs.{Large}
use Rattle.frp_tool.proofs.bigs.big_texts_of.Goals as goal

pub returns : goal.returns
returns c =
    let n = c.args.number in
    let built = c.args.built.now in
    let is = c.requires in
    let f : Large n = record {
      hex = written built.image;
      map = built.map;
      image = built.image;
      is_firmware = is.firmware;
      is_scheduled = is.scheduled;
      means = is.means;
      reacted = c.large_reacts.ensures n (written built.image) built.image built.map is.firmware is.rules is.means;
    } in
    (f, c.in_ok-write.ensures, c.in_ok-write-2.ensures, c.in_ok-big_text.ensures)
