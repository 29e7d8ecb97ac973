-- What the laws of `laws.rt` promise of every program.
use Rattle.std.specs.Prelude.{◌≡◌, ℕ, ◌<◌, ◌≤◌, Bool, true, false, Some}
use Rattle.code_steps.specs.declared.banks.Bank.{Bank}
use Rattle.code_steps.specs.declared.banks.Bank.TheVariants.{Known}
use Rattle.pic_isa.specs.declared.instructions.Instr.TheVariants.{Btfsc, Btfss}
use Rattle.pic_regs.specs.Map.{Reg, Intcon, Pir1, Pir2, Plain}
use Rattle.pic_regs.specs.Registers.{requested}
use Rattle.pic_machine.specs.Chip.{Chip}
use Rattle.pic_machine.specs.Results.{Done}
use Rattle.pic_machine.specs.Boundary.{Outer, Step, boundary}
use Rattle.pic_machine.specs.Run.{Log, log, after}
use Rattle.code_steps.specs.Steps.{own, Comes}
use Rattle.code_steps.specs.Between.{Others, Keeps, Alone}
use Rattle.code_steps.specs.Ends.{Own, Holds, Ended}
use Rattle.code_steps.specs.Jumps.{IsTest, clear_in, set_in}

-- A piece of code from one address to another, whose steps write what a test picks.
pub record Piece : Type 0 where
  pub may : ℕ → Bool
  pub start : ℕ
  pub stop : ℕ

abbrev pub OwnOf : Piece → Chip → Done → Type 0
OwnOf piece = Own (λ address. piece.may address ≡ true) piece.start piece.stop

-- Code that others' runs may interrupt comes to its end as well from where such a run has returned.
abbrev pub GoesOn : (ℕ → ℕ) → Piece → ℕ → Bank → ℕ → Chip → Chip → Type 0
GoesOn program piece place bank k c d =
    Comes program Others (OwnOf piece) (Ended place bank) k c → Others c d → Comes program Others (OwnOf piece) (Ended place bank) k d

-- A plain byte that the code may not write, and that nothing that comes between changes, is at the end as it was.
abbrev pub LeavesByte : (ℕ → ℕ) → Piece → ℕ → Bank → ℕ → ℕ → Chip → Type 0
LeavesByte program piece place bank address k c =
    piece.may address ≡ false → Comes program (Keeps (λ a. a ≡ address)) (OwnOf piece) (Ended place bank) k c
    → Comes program (Keeps (λ a. a ≡ address)) (OwnOf piece) (λ e. Ended place bank e × (e.regs.plain address ≡ c.regs.plain address)) k c

-- Nothing is due or requested at a step.
abbrev pub IsQuiet : Step → Type 0
IsQuiet step = (step.arrived.due ≡ false) × (requested step.arrived.regs ≡ false)

-- A quiet step is the own step of the chip with what came from outside.
abbrev pub IsOwnStep : (ℕ → ℕ) → Outer → Chip → Done → Type 0
IsOwnStep program outer c done =
    let step : Step = boundary program outer c in
    IsQuiet step → own program step.arrived ≡ Some done → (step.after ≡ done.chip) × (step.wrote ≡ done.wrote) × (step.port ≡ done.port)

-- A step where an interrupt is requested, none due, and the taking late, is that own step too, and then one is due.
abbrev pub IsOwnStepLate : (ℕ → ℕ) → Outer → Chip → Done → Type 0
IsOwnStepLate program outer c done =
    let step : Step = boundary program outer c in
    c.due ≡ false → requested step.arrived.regs ≡ true → outer.late ≡ true → own program step.arrived ≡ Some done
    → (step.after ≡ record done.chip { due = true }) × (step.wrote ≡ done.wrote) × (step.port ≡ done.port)

-- A run comes to the end of code within as many steps as the code takes, where all of them are quiet.
abbrev pub RunsAlone : (ℕ → ℕ) → Piece → ℕ → Bank → ℕ → Chip → (ℕ → Outer) → Type 0
RunsAlone program piece place bank k c outer =
    let steps : Log = log program c outer in
    Comes program Alone (OwnOf piece) (Ended place bank) k c → ((n : ℕ) → n < k → IsQuiet (steps n))
    → (n : ℕ) × (n ≤ k) × Ended place bank (after program c outer n)

-- BTFSC and BTFSS with these seven bits of an address test the bits of a register.
abbrev pub TestsBits : ℕ → Reg → Chip → Type 0
TestsBits f reg c = (b : ℕ) → IsTest (Btfsc f b) (clear_in reg b) c × IsTest (Btfss f b) (set_in reg b) c

-- Those of INTCON and of the bytes from 70h on do in any bank, those of PIR1 and PIR2 in bank 0.
pub record TestsFlags (c : Chip) : Type 0 where
  pub intcon : TestsBits 0x0B Intcon c
  pub common : (f : ℕ) → 0x70 ≤ f → f < 0x80 → TestsBits f (Plain f) c
  pub pir1 : Holds (Known 0) c → TestsBits 0x0C Pir1 c
  pub pir2 : Holds (Known 0) c → TestsBits 0x0D Pir2 c
