use Rattle.efrp_meaning.proofs.TypedValueLaws.{evaluate-typed}
use Rattle.efrp_meaning.proofs.laws.has_typed_values.Goals as goal

pub returns : goal.returns
returns c = λ p names e typed known. evaluate-typed p typed names e known
