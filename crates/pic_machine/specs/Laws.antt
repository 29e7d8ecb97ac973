-- What the laws of `laws.rt` promise of every boundary.
use Rattle.std.specs.Prelude.{◌≡◌, ℕ, suc, Bool, true, false, not, ◌&&◌, ◌||◌, ◌⊎◌, Option, Some, None}
use Rattle.pic_isa.specs.declared.instructions.Instr.{Instr}
use Rattle.pic_isa.specs.declared.instructions.Instr.TheVariants.{Sleep}
use Rattle.pic_isa.specs.Instructions.{instruction_of}
use Rattle.pic_regs.specs.Registers.{requested}
use Rattle.pic_machine.specs.Chip.{Chip}
use Rattle.pic_machine.specs.Dids.{is_taking, is_stop}
use Rattle.pic_machine.specs.Boundary.{Outer, Step, may_take, boundary}
use Rattle.pic_machine.specs.Run.{Log, log}

-- No instruction can run: the word is none, or it is SLEEP.
abbrev pub cannot_run : Option Instr → Bool
cannot_run (Some Sleep) = true
cannot_run (Some _) = false
cannot_run None = true

-- A step stops exactly where no interrupt is due or requested and no instruction can run.
abbrev pub StopsExactly : (ℕ → ℕ) → Outer → Chip → Type 0
StopsExactly program outer c =
    let step : Step = boundary program outer c in
    is_stop step.did ≡ (not (step.arrived.due || requested step.arrived.regs) && cannot_run (instruction_of (program c.pc)))

-- A step takes an interrupt only where one may be taken.
abbrev pub TakesWhereItMay : (ℕ → ℕ) → Outer → Chip → Type 0
TakesWhereItMay program outer c = let step : Step = boundary program outer c in is_taking step.did ≡ true → may_take step.arrived ≡ true

-- A requested interrupt is taken at this step or the next.
abbrev pub TakesInTime : (ℕ → ℕ) → Chip → (ℕ → Outer) → ℕ → Type 0
TakesInTime program c outer n =
    let steps : Log = log program c outer in
    requested (steps n).arrived.regs ≡ true → (is_taking (steps n).did ≡ true) ⊎ (is_taking (steps (suc n)).did ≡ true)
