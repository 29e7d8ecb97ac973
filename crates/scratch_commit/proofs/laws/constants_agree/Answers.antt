use Rattle.scratch_commit.proofs.EnableLaws.{agrees}
use Rattle.scratch_commit.proofs.laws.constants_agree.Goals as goal

pub returns : goal.returns
returns c = λ p low level heard other are is_other below. agrees p low level heard other are is_other below
