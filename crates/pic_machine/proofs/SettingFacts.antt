-- Chips for the examples.
use Rattle.std.specs.Prelude.{ℕ, List, [], ◌∷◌, replicate}
use Rattle.pic_regs.specs.Bytes.{num, bits}
use Rattle.pic_regs.specs.Map.{reg_at}
use Rattle.pic_regs.specs.Registers.{read, write}
use Rattle.pic_machine.specs.Chip.{Chip}
use Rattle.pic_machine.specs.Boundary.{Step, no_outer, boundary}
use Rattle.pic_machine.specs.Run.{power_on}

-- Power-on with RAM, W and the flags of STATUS at 0.
abbrev pub fresh : Chip
fresh = power_on (record { ram = replicate 368 0; w = 0; flags = 0 })

abbrev pub with_w : ℕ → Chip → Chip
with_w byte c = record c { w = bits byte }

abbrev pub with_pc : ℕ → Chip → Chip
with_pc address c = record c { pc = address }

abbrev pub with_depth : ℕ → Chip → Chip
with_depth n c = record c { depth = n }

-- A byte written at an address.
abbrev pub with_byte : ℕ → ℕ → Chip → Chip
with_byte address byte c = record c { regs = write (reg_at address) (bits byte) c.regs }

-- STATUS with all eight bits as given.
abbrev pub with_status : ℕ → Chip → Chip
with_status byte c = record c { regs = record c.regs { status = bits byte } }

-- A word run at the program counter, with nothing arriving.
abbrev pub step_of : ℕ → Chip → Step
step_of word c = boundary (λ address. word) no_outer c

abbrev pub run_word : ℕ → Chip → Chip
run_word word c = (step_of word c).after

-- Words run one after the other, wherever the program counter is.
abbrev pub run_words : List ℕ → Chip → Chip
run_words [] c = c
run_words (word ∷ words) c = run_words words (run_word word c)

-- What is seen of a chip.
abbrev pub at : ℕ → Chip → ℕ
at address c = num (read (reg_at address) c.regs)

abbrev pub w_and_status : Chip → ℕ × ℕ
w_and_status c = (num c.w, num c.regs.status)

abbrev pub pc_and_w : Chip → ℕ × ℕ
pc_and_w c = (c.pc, num c.w)

abbrev pub pc_and_depth : Chip → ℕ × ℕ
pc_and_depth c = (c.pc, c.depth)
