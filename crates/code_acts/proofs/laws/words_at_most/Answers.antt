use Rattle.std.proofs.Common.{None}
use Rattle.code_acts.proofs.CodeLaws.{words_at_most}
use Rattle.code_acts.proofs.laws.words_at_most.Goals as goal

pub returns : goal.returns
returns c = λ place bank acts. words_at_most place None bank acts tt
