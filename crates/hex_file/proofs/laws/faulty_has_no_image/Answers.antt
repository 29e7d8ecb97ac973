use Rattle.hex_file.proofs.UniqueLaws.{no_image_of_fault}
use Rattle.hex_file.proofs.laws.faulty_has_no_image.Goals as goal

pub returns : goal.returns
returns c = no_image_of_fault
