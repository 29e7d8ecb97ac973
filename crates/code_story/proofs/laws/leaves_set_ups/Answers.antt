use Rattle.code_story.proofs.KeptFacts.{set_ups_stay}
use Rattle.code_story.proofs.laws.leaves_set_ups.Goals as goal

pub returns : goal.returns
returns c = λ p m l part x y writes is_part later touches set_up. set_ups_stay p m l writes part x y is_part later touches set_up
