use Rattle.code_steps.specs.Between.{Others}
use Rattle.code_steps.specs.Ends.{Ended}
use Rattle.code_steps.specs.Laws.{OwnOf}
use Rattle.code_steps.proofs.ComesLaws.{comes_moves}
use Rattle.code_steps.proofs.BetweenLaws.{others_frame, ended_stays}
use Rattle.code_steps.proofs.laws.goes_on_after_others.Goals as goal

pub returns : goal.returns
returns c = λ program piece place bank k x y come between.
    comes_moves program Others (OwnOf piece) (Ended place bank) others_frame.joined (λ a b r end. ended_stays place bank a b r end) k x y between come
