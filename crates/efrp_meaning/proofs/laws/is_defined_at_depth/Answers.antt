use Rattle.efrp_meaning.proofs.DefinedLaws.{defined-at-depth}
use Rattle.efrp_meaning.proofs.laws.is_defined_at_depth.Goals as goal

pub returns : goal.returns
returns c = λ p s j event x typed is_state are_samples causal. defined-at-depth p typed s is_state j are_samples event causal x
