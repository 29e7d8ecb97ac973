-- Runs of an image from power-on: the chip after each number of steps, and the log.
use Rattle.std.specs.Prelude.{ℕ, zero, suc, true, false, ◌==◌, List, [], ◌∷◌, get_or}
use Rattle.hex_file.specs.declared.images.Word.{Word}
use Rattle.hex_file.specs.declared.images.Image.{Image}
use Rattle.pic_regs.specs.declared.starts.Start.{Start}
use Rattle.pic_regs.specs.Bytes.{bits}
use Rattle.pic_regs.specs.Start.{registers_on}
use Rattle.pic_machine.specs.Chip.{Chip}
use Rattle.pic_machine.specs.Boundary.{Outer, Step, no_outer, boundary}

-- The word at an address, and 3FFFh at one that no word has.
abbrev pub word_at : List Word → ℕ → ℕ
word_at [] address = 0x3FFF
word_at (w ∷ ws) address = elim (w.address == address) [ true ↦ w.word | false ↦ word_at ws address ]

-- An image's program memory.
abbrev pub program_of : Image → ℕ → ℕ
program_of image = word_at image.words

-- The chip at power-on: the start's W and registers, all else 0.
abbrev pub power_on : Start → Chip
power_on s = record { w = bits s.w; pc = 0; regs = registers_on s; stack = λ place. 0; top = 0; depth = 0; due = false }

-- What comes from outside at each boundary by a list: past its end nothing comes.
abbrev pub outer_of : List Outer → ℕ → Outer
outer_of list n = get_or list n no_outer

-- The chip after n steps.
abbrev pub after : (ℕ → ℕ) → Chip → (ℕ → Outer) → ℕ → Chip
after program c outer zero = c
after program c outer (suc n) = (boundary program (outer n) (after program c outer n)).after

-- A log: its step n, counted from 0.
abbrev pub Log : Type 0
Log = ℕ → Step

-- The log of a program, from a chip on, under what comes from outside.
abbrev pub log : (ℕ → ℕ) → Chip → (ℕ → Outer) → Log
log program c outer n = boundary program (outer n) (after program c outer n)

-- The log of an image's run from power-on, under a list of what comes from outside.
abbrev pub run : Image → Start → List Outer → Log
run image start list = log (program_of image) (power_on start) (outer_of list)
