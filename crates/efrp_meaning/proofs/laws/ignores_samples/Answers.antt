use Rattle.efrp_meaning.proofs.SampleLaws.{ignores-samples}
use Rattle.efrp_meaning.proofs.laws.ignores_samples.Goals as goal

pub returns : goal.returns
returns c = ignores-samples
