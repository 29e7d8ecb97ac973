-- Words of program memory at successive addresses.
use Rattle.std.specs.Prelude.{ℕ, ◌+◌, ◌%◌, List, [], ◌∷◌}
use Rattle.hex_file.specs.declared.images.Word.{Word}

-- The low 14 bits of numbers, as words from an address on.
abbrev pub words_from : ℕ → List ℕ → List Word
words_from address [] = []
words_from address (n ∷ ns) = record { address = address; word = n % 0x4000 } ∷ words_from (address + 1) ns
