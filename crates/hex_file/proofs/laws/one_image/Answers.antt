use Rattle.hex_file.proofs.ImageLaws.{image_determined}
use Rattle.hex_file.proofs.laws.one_image.Goals as goal

pub returns : goal.returns
returns c = image_determined
