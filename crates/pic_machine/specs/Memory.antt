-- Program memory as the code has it.
use Rattle.std.specs.Prelude.{ℕ, map, get_or}
use Rattle.pic_machine.specs.declared.memory.Cell.{Cell}
use Rattle.pic_machine.specs.declared.memory.Memory.{Memory}

-- The word at an address of the code's program memory, and 3FFFh past its end.
abbrev pub words_of : Memory → ℕ → ℕ
words_of memory address = get_or (map (λ (cell : Cell). cell.word) memory.cells) address 0x3FFF
