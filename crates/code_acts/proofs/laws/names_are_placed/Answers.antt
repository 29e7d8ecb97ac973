use Rattle.code_acts.specs.Codes.{place_of}
use Rattle.code_acts.proofs.PlaceLaws.{all_placed, operands_of}
use Rattle.code_acts.proofs.laws.names_are_placed.Goals as goal

pub returns : goal.returns
returns c = λ uses writes places others. all_placed uses writes (place_of places) (operands_of places) others
