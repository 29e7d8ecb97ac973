use Rattle.std.proofs.Common.{◌∙◌}
use Rattle.efrp_syntax.proofs.PlaceFacts.{noted_many, noted_few}
use Rattle.efrp_syntax.proofs.places.place_of_many.Goals as goal
use Rattle.efrp_syntax.proofs.places.place_of_many.Goals.{in-Some, in-None}

pub returns : goal.returns
returns c = λ kind many.
    let noted = c.in_ok-begun.ensures in
    elim c.match-one_too_many.branch [
      | in-Some w ↦ w.result-is ∙ noted_many c.args.tokens.now c.in_ok-begun.begun w.in-Some.place _ noted (rw c.as_slice.ensures at w.in-Some.ensures) kind many
      | in-None w ↦ absurd (noted_few c.args.tokens.now c.in_ok-begun.begun noted (rw c.as_slice.ensures at w.in-None.ensures) kind many)
    ]
