-- Jumps to any page of program memory, and what skip instructions test.
use Rattle.std.specs.Prelude.{◌≡◌, ℕ, ◌/◌, ◌%◌, ◌==◌, not, Bool, true, false, ◌⊎◌}
use Rattle.pic_isa.specs.declared.instructions.Instr.{Instr}
use Rattle.pic_isa.specs.declared.instructions.Instr.TheVariants.{Bcf, Bsf}
use Rattle.pic_regs.specs.Bytes.{Byte, bit}
use Rattle.pic_regs.specs.Map.{Reg}
use Rattle.pic_regs.specs.Registers.{read}
use Rattle.pic_machine.specs.Chip.{Chip, advanced, skipping}
use Rattle.pic_machine.specs.Results.{leaves}
use Rattle.pic_machine.specs.Exec.{exec}
use Rattle.code_steps.specs.Steps.{next}
use Rattle.code_steps.specs.Between.{placed_at}

-- The page of an address below 8,192, of four with 2,048 words each, as two bits: PCLATH has them as bits 4 and 3.
abbrev pub high_page : ℕ → Bool
high_page address = address / 4096 == 1

abbrev pub low_page : ℕ → Bool
low_page address = address / 2048 % 2 == 1

-- The instruction that makes a bit of PCLATH what is given.
abbrev pub setting : ℕ → Bool → Instr
setting b true = Bsf 0x0A b
setting b false = Bcf 0x0A b

-- PCLATH with the page of an address.
abbrev pub with_page : ℕ → Byte → Byte
with_page address pclath = record pclath { b4 = high_page address; b3 = low_page address }

-- The chip once it has jumped to an address: it is there, with the address's page in PCLATH.
abbrev pub arrives : ℕ → Chip → Chip
arrives address c = placed_at address (with_page address c.regs.pclath) c

-- A jump reaches an address: with page settings any address, without them one whose page is in PCLATH.
abbrev pub Reaches : (paged : Bool) → ℕ → Chip → Type 0
Reaches true address c = Unit {0}
Reaches false address c = (c.regs.pclath.b4 ≡ high_page address) × (c.regs.pclath.b3 ≡ low_page address)

-- An instruction skips the next one exactly where a test of the chip holds, and does nothing else.
abbrev pub IsTest : Instr → (Chip → Bool) → Chip → Type 0
IsTest i test c = exec i c ≡ leaves (skipping (test c) (advanced c))

-- A bit of a register is clear, and is set: what BTFSC and BTFSS test.
abbrev pub clear_in : Reg → ℕ → Chip → Bool
clear_in reg b c = not (bit b (read reg c.regs))

abbrev pub set_in : Reg → ℕ → Chip → Bool
set_in reg b c = bit b (read reg c.regs)

-- What a skip instruction at a place and a jump to `target` behind it come to, from the chip `c` there: on the chip `d` on
-- which the test was made it held, and the jump was skipped; or it didn't hold, and the jump was made.
pub record Tested (R : Chip → Chip → Type 0) (test : Chip → Bool) (target : ℕ) (c e : Chip) : Type 0 where
  pub on : Chip
  pub between : R c on
  pub way : ((test on ≡ true) × R (placed_at (next (next c.pc)) on.regs.pclath on) e) ⊎ ((test on ≡ false) × R (arrives target on) e)
