use Rattle.firmware_words.proofs.WordLaws.{code-can-be-laid}
use Rattle.firmware_words.proofs.laws.code_can_be_laid.Goals as goal

pub returns : goal.returns
returns c = code-can-be-laid
