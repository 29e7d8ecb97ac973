-- What stands at a place of program memory, the steps that code takes by itself, and what it comes to.
use Rattle.std.specs.Prelude.{◌≡◌, ℕ, zero, suc, ◌+◌, ◌%◌, ◌⊎◌, Option, Some, None}
use Rattle.pic_isa.specs.declared.instructions.Instr.{Instr}
use Rattle.pic_isa.specs.Instructions.{instruction_of}
use Rattle.pic_machine.specs.Chip.{Chip}
use Rattle.pic_machine.specs.Results.{Done}
use Rattle.pic_machine.specs.Exec.{exec}

-- The address after an address, as the program counter goes on: after the last comes the first.
abbrev pub next : ℕ → ℕ
next place = (place + 1) % 8192

-- The word at a place of program memory is this instruction.
abbrev pub Is : (ℕ → ℕ) → ℕ → Instr → Type 0
Is program place i = instruction_of (program place) ≡ Some i

-- What an instruction leaves, where there is one.
abbrev pub own_of : Option Instr → Chip → Option Done
own_of (Some i) c = exec i c
own_of None c = None

-- The step that the code at the program counter takes by itself: the chip that it leaves, the register that it wrote and
-- what it put on a port. None where no instruction can run.
abbrev pub own : (ℕ → ℕ) → Chip → Option Done
own program c = own_of (instruction_of (program c.pc)) c

-- The code comes within k own steps to a chip with Q, from this chip on. Before each own step the chip may be changed in any
-- way that R allows, and each step is one with G.
abbrev pub Comes : (program : ℕ → ℕ) (R : Chip → Chip → Type 0) (G : Chip → Done → Type 0) (Q : Chip → Type 0) → ℕ → Chip → Type 0
Comes program R G Q zero c = Q c
Comes program R G Q (suc k) c = Q c ⊎ ((d : Chip) → R c d → (done : Done) × (own program d ≡ Some done) × G d done × Comes program R G Q k done.chip)
