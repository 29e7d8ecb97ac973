-- Where the parts of firmware's code lie, what they may write, and what is to be read off the bytes in memory.
use Rattle.std.specs.Prelude.{◌≡◌, ℕ, Bool, true, false, List}
use Rattle.pic_isa.specs.declared.sources.Source.{Source}
use Rattle.pic_regs.specs.Bytes.{Byte, zeros}
use Rattle.pic_regs.specs.Map.{Pclath, existing}
use Rattle.pic_machine.specs.declared.steps.PortWrite.{PortWrite}
use Rattle.pic_machine.specs.Chip.{Chip}
use Rattle.priority_masks.specs.declared.tables.Enables.{Enables}
use Rattle.code_steps.specs.declared.banks.Bank.{Bank}
use Rattle.code_steps.specs.declared.banks.Bank.TheVariants.{Known}
use Rattle.code_steps.specs.Ends.{Holds}
use Rattle.glue_steps.specs.Laws.{Glue}

-- The parts of the code. Boot and the taking are common; the others are of the run of an event, by its number: up to the clearing
-- of its flag; from there, or from the lock of void work, up to the step that turns interrupts on; the work with its lock; from
-- the lock to the open; the open alone; from there to the commit; the commit alone; from there to the return.
pub data Part : Type 0 where
  Boot : Part
  Taking : Part
  Start : ℕ → Part
  Begin : ℕ → Part
  Work : ℕ → Part
  Lock : ℕ → Part
  Open : ℕ → Part
  Copying : ℕ → Part
  Commit : ℕ → Part
  Exit : ℕ → Part

-- The code of firmware, and what it is made for. Events are numbers, in declaration order; a level counts from 1, and numbers of no
-- event have level 0.
pub record Layout : Type 0 where
  -- Its words; whether it has page settings; and whether a taking saves the bank bits and PCLATH of what it interrupts.
  pub program : ℕ → ℕ
  pub paged : Bool
  pub saves_status : Bool
  pub saves_pclath : Bool
  -- Of an event: its level and its source; whether interrupts stay off in its run; whether its work ends in a lock that tests whether
  -- another run has committed; and whether its commit tells the runs beneath.
  pub level : ℕ → ℕ
  pub source : ℕ → Source
  pub is_short : ℕ → Bool
  pub is_locked : ℕ → Bool
  pub is_telling : ℕ → Bool
  -- The enables at a level.
  pub enables : ℕ → Enables
  -- Places: the ready address, the step of the boot that turns interrupts on, and of an event: where its run starts, the clearing of
  -- its flag, the step that turns interrupts on, its work, its lock, its open and its commit.
  pub ready : ℕ
  pub boot_end : ℕ
  pub entry : ℕ → ℕ
  pub clear : ℕ → ℕ
  pub on : ℕ → ℕ
  pub work : ℕ → ℕ
  pub lock : ℕ → ℕ
  pub opens : ℕ → ℕ
  pub commits : ℕ → ℕ
  -- What is known of the bank at the open of an event's run, which is that at its lock, and behind its commit.
  pub bank : ℕ → Bank
  pub exit_bank : ℕ → Bank
  -- The places of a part, and the registers that it may write, by their lowest addresses.
  pub inside : Part → ℕ → Bool
  pub may : Part → ℕ → Bool
  -- The plain bytes in which the run of an event saves something.
  pub frame : ℕ → ℕ → Bool
  -- By the plain bytes: the state; what the copies of an event's window make of it; and what the window puts on ports.
  pub states : (ℕ → Byte) → List ℕ
  pub next_of : ℕ → (ℕ → Byte) → List ℕ
  pub puts_of : ℕ → (ℕ → Byte) → List PortWrite

-- A part as a piece of glue.
abbrev pub piece : Layout → Part → Glue
piece l part = record { inside = l.inside part; may = l.may part }

-- The byte at 73h whose bit 0 is set where a run has committed since the run beneath it last began.
abbrev pub is_told : Chip → Bool
is_told c = (c.regs.plain 0x073).b0

-- What holds of PCLATH throughout: its bits 7 to 5, which don't exist, are 0, so that it comes back whole. In code without page
-- settings it is 0, so that each jump reaches its mark.
pub record Easy (l : Layout) (c : Chip) : Type 0 where
  pub whole : existing Pclath c.regs.pclath ≡ c.regs.pclath
  pub page : l.paged ≡ false → c.regs.pclath ≡ zeros

-- What holds wherever an interrupt may be taken: what a taking doesn't save is 0.
pub record Usual (l : Layout) (c : Chip) : Type 0 where
  pub easy : Easy l c
  pub bank : l.saves_status ≡ false → Holds (Known 0) c
  pub page : l.saves_pclath ≡ false → c.regs.pclath ≡ zeros
