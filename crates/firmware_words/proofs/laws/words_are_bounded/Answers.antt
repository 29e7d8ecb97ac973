use Rattle.firmware_words.proofs.WordLaws.{words-are-bounded}
use Rattle.firmware_words.proofs.laws.words_are_bounded.Goals as goal

pub returns : goal.returns
returns c = words-are-bounded
