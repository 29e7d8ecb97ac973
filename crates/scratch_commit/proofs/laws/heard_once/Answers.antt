use Rattle.scratch_commit.proofs.EnableLaws.{heard_once}
use Rattle.scratch_commit.proofs.laws.heard_once.Goals as goal

pub returns : goal.returns
returns c = heard_once
