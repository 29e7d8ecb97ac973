-- What code does to the chip by its own steps, what is known of the bank, and where it ends.
use Rattle.std.specs.Prelude.{◌≡◌, ℕ, ◌<◌, ◌≤◌, ◌/◌, ◌%◌, ◌==◌, ◌⊎◌, None, IfSome}
use Rattle.code_steps.specs.declared.banks.Bank.{Bank}
use Rattle.code_steps.specs.declared.banks.Bank.TheVariants.{Known, Unknown}
use Rattle.pic_machine.specs.Chip.{Chip}
use Rattle.pic_machine.specs.Results.{Done}

-- An address lies from `start` on and before `stop`.
abbrev pub Between : ℕ → ℕ → ℕ → Type 0
Between start stop place = (start ≤ place) × (place < stop)

-- The chip with the program counter, W, PCLATH and plain bytes of another, and of STATUS its bits 6, 5, 2, 1 and 0: RP1, RP0,
-- Z, DC and C.
abbrev pub with_work_of : Chip → Chip → Chip
with_work_of e d = record d {
  w = e.w;
  pc = e.pc;
  regs = record d.regs {
    status = record e.regs.status { b7 = d.regs.status.b7; b4 = d.regs.status.b4; b3 = d.regs.status.b3 };
    pclath = e.regs.pclath;
    plain = e.regs.plain;
  };
}

-- A step that code takes from one address to another, the second excluded. It changes the program counter, W, bank bits, Z,
-- DC and C, and else only registers at the addresses that it may write: plain bytes, and PCLATH where 00Ah is one of them.
-- It puts nothing on a port.
pub record Own (may : ℕ → Type 0) (start stop : ℕ) (d : Chip) (done : Done) : Type 0 where
  pub from : start ≤ d.pc
  pub below : d.pc < stop
  pub kept : done.chip ≡ with_work_of done.chip d
  pub pclath : (done.chip.regs.pclath ≡ d.regs.pclath) ⊎ may 0x00A
  pub plain : (address : ℕ) → (done.chip.regs.plain address ≡ d.regs.plain address) ⊎ may address
  pub wrote : IfSome done.wrote (λ address. (address ≡ 0x003) ⊎ may address)
  pub port : done.port ≡ None

-- RP1 and RP0 are the bits of a known bank.
abbrev pub Holds : Bank → Chip → Type 0
Holds Unknown c = Unit {0}
Holds (Known k) c = (c.regs.status.b6 ≡ (k / 2 == 1)) × (c.regs.status.b5 ≡ (k % 2 == 1))

-- The code has come to a place, in this bank.
abbrev pub Ended : ℕ → Bank → Chip → Type 0
Ended place bank c = (c.pc ≡ place) × Holds bank c
