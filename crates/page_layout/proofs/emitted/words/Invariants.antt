use Rattle.std.proofs.Common.{◌≡◌, ◌++◌, drop}
use Rattle.page_layout.specs.Emitted.{words_of}
use Rattle.page_layout.proofs.emitted.words.Given as goal

-- the words so far and those of the instructions that are left are all
abbrev pub invariant-loop-at : goal.invariant-loop-at
invariant-loop-at l = l.words ++ words_of l.at (drop l.at l.code) ≡ words_of 0 l.code
