use Rattle.code_story.proofs.WorkLaws.{void_moves}
use Rattle.code_story.proofs.laws.work_goes_on.Goals as goal

pub returns : goal.returns
returns c = λ l e k x y others void. void_moves l e k x y others void
