use Rattle.std.proofs.Common.{◌≡◌, take}
use Rattle.hex_file.specs.Words.{words_from}
use Rattle.hex_file.proofs.images.Image.of_words.Given as goal

abbrev pub invariant-loop-address : goal.invariant-loop-address
invariant-loop-address l = l.placed ≡ words_from 0 (take l.address l.words)
