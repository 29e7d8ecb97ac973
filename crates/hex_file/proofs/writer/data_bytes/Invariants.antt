use Rattle.std.proofs.Common.{◌≡◌, take}
use Rattle.std.specs.List.{flat_map}
use Rattle.hex_file.specs.Written.{word_bytes}
use Rattle.hex_file.proofs.writer.data_bytes.Given as goal

abbrev pub invariant-loop-word : goal.invariant-loop-word
invariant-loop-word l = l.bytes.items ≡ flat_map (λ w. word_bytes w.word) (take l.word-index l.words)
