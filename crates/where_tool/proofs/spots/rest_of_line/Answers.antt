use Rattle.std.proofs.Common.{[], ◌∷◌, refl, sym}
use Rattle.std.proofs.lemmas.List.{append-nil}
use Rattle.where_tool.proofs.spots.rest_of_line.Goals as goal

pub returns-in-Some : goal.returns-in-Some
returns-in-Some c = let told = c.in-Some.ensures in record { below = 10 ∷ _; whole = told.1; in_line = told.0; ends = refl }

pub returns-in-None : goal.returns-in-None
returns-in-None c = record { below = []; whole = sym (append-nil c.args.rest.now); in_line = c.in-None.ensures; ends = tt }
