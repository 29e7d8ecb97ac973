use Rattle.code_story.proofs.ArrangedFacts.{lies_elsewhere}
use Rattle.code_story.proofs.laws.lies_elsewhere.Goals as goal

pub returns : goal.returns
returns c = λ m l part place places is_part other inside x e found. lies_elsewhere m l places part place is_part other inside x e found
