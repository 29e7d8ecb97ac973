use Rattle.code_items.proofs.PieceLaws.{pieces-apart}
use Rattle.code_items.proofs.laws.pieces_are_apart.Goals as goal

pub returns : goal.returns
returns c = λ paged pieces j k address differ first second. pieces-apart paged pieces j k address differ first second
