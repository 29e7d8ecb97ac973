-- The definitions' chip, results and turns that values of the code stand for.
use Rattle.std.specs.Prelude.{ℕ, Option, Some, None, get_or}
use Rattle.pic_regs.specs.Bytes.{bits}
use Rattle.pic_regs.specs.State.{registers_of}
use Rattle.pic_machine.specs.declared.chip.Chip.{Chip as CodeChip}
use Rattle.pic_machine.specs.declared.cpu.Cpu.{Cpu}
use Rattle.pic_machine.specs.declared.effects.Effect.{Effect}
use Rattle.pic_machine.specs.declared.outcomes.Flags.{Flags as CodeFlags}
use Rattle.pic_machine.specs.declared.outcomes.Flags.TheVariants as code
use Rattle.pic_machine.specs.declared.outcomes.Outcome.{Outcome as CodeOutcome}
use Rattle.pic_machine.specs.declared.turns.Turned.{Turned}
use Rattle.pic_machine.specs.Boundary.{Turn}
use Rattle.pic_machine.specs.Chip.{Chip}
use Rattle.pic_machine.specs.Memory.{words_of}
use Rattle.pic_machine.specs.Results.{Flags, Same, Zero, Carry, All, Outcome, Done}

-- The chip that the code's is. Past its eight places the return stack is 0.
abbrev pub cpu_of : Cpu → Chip
cpu_of c = record { w = bits c.w; pc = c.pc; regs = registers_of c.regs; stack = λ place. get_or c.stack place 0; top = c.top; depth = c.depth; due = c.due }

-- What an instruction leaves, by the effect that the code reports and the chip that it leaves.
abbrev pub done_of : Option Effect → Chip → Option Done
done_of None c = None
done_of (Some effect) c = Some (record { chip = c; wrote = effect.wrote; port = effect.port })

-- The flags that the code's are, and the result.
abbrev pub flags_of : CodeFlags → Flags
flags_of code.Same = Same
flags_of (code.Zero zero) = Zero zero
flags_of (code.Carry carry) = Carry carry
flags_of (code.All carry digit_carry zero) = All carry digit_carry zero

abbrev pub outcome_of : CodeOutcome → Outcome
outcome_of outcome = record { byte = bits outcome.byte; flags = flags_of outcome.flags }

-- What a turn is, by what it did and the chip that it leaves.
abbrev pub turn_of : Turned → Chip → Turn
turn_of turned c = record { after = c; did = turned.did; wrote = turned.wrote; port = turned.port }

-- The chip without its program memory, and its program memory: the word at each address, and 3FFFh past the last.
abbrev pub chip_of : CodeChip → Chip
chip_of c = cpu_of c.cpu

abbrev pub memory_of : CodeChip → ℕ → ℕ
memory_of c = words_of c.memory
