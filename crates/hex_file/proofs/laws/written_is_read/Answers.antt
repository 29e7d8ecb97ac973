use Rattle.hex_file.proofs.WrittenLaws.{written_means_image}
use Rattle.hex_file.proofs.laws.written_is_read.Goals as goal

pub returns : goal.returns
returns c = written_means_image
