use Rattle.code_story.proofs.ChipFacts.{requests_exactly}
use Rattle.code_story.proofs.laws.requests_exactly.Goals as goal

pub returns : goal.returns
returns c = λ l level d enables is_level at_level on. requests_exactly l enables level d is_level at_level on
