use Rattle.scratch_commit.proofs.EnableLaws.{unmasks}
use Rattle.scratch_commit.proofs.laws.unmasks.Goals as goal

pub returns : goal.returns
returns c = λ p low level heard other kind need context r s are is_other below hold. unmasks p low level heard other are is_other below r hold kind need context s
