use Rattle.std.proofs.Common.{◌≡◌, ℕ, length, get_or, map, take}
use Rattle.pic_machine.specs.Run.{word_at}
use Rattle.pic_machine.specs.declared.memory.Cell.{Cell}
use Rattle.pic_machine.proofs.memory.Memory.load.Given as goal

abbrev pub invariant-loop-word : goal.invariant-loop-word
invariant-loop-word l = record {
  length : length l.cells ≡ 8192;
  words : (k : ℕ) → get_or (map (λ (cell : Cell). cell.word) l.cells) k 0x3FFF ≡ word_at (take l.word-index l.words) k;
}
