use Rattle.scratch_commit.proofs.EffectLaws.{deeds-make}
use Rattle.scratch_commit.proofs.laws.deeds_make.Goals as goal

pub returns : goal.returns
returns c = deeds-make
