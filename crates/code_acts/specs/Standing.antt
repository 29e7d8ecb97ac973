-- Where code stands, where the named bytes lie, what the chip shows of them, and what code of acts comes to.
use Rattle.std.specs.Prelude.{◌≡◌, ℕ, ◌+◌, ◌%◌, ◌<◌, ◌≤◌, Bool, true, false, List, [], ◌∷◌, length}
use Rattle.pic_isa.specs.declared.instructions.Instr.{Instr}
use Rattle.pic_regs.specs.Map.{Plain, reg_at}
use Rattle.pic_machine.specs.Chip.{Chip}
use Rattle.pic_machine.specs.Results.{Done}
use Rattle.code_steps.specs.declared.banks.Bank.{Bank}
use Rattle.code_steps.specs.Steps.{next, Is, Comes}
use Rattle.code_steps.specs.Between.{Others, Keeps}
use Rattle.code_steps.specs.Ends.{Own, Holds, Ended}
use Rattle.code_acts.specs.Acts.{State}

-- Instructions stand in program memory from a place on, each at the next address.
abbrev pub StandFrom : (program : ℕ → ℕ) → ℕ → List Instr → Type 0
StandFrom program p [] = Unit {0}
StandFrom program p (i ∷ more) = Is program p i × StandFrom program (next p) more

-- The named bytes lie where they can: operand bytes at 74h to 7Fh; each that is used is a plain byte of the chip; and a written
-- one is no other that is used.
pub record Placed (uses writes : ℕ → Bool) (place : ℕ → ℕ) : Type 0 where
  pub operands : (n : ℕ) → n < 12 → place n ≡ 0x74 + n
  pub below : (n : ℕ) → uses n ≡ true → place n < 512
  pub plain : (n : ℕ) → uses n ≡ true → reg_at (place n) ≡ Plain (place n)
  pub apart : (n m : ℕ) → writes n ≡ true → uses m ≡ true → place n ≡ place m → n ≡ m

-- The addresses of the names that a test picks.
abbrev pub PlacesOf : (names : ℕ → Bool) → (place : ℕ → ℕ) → ℕ → Type 0
PlacesOf names place address = (n : ℕ) × (names n ≡ true) × (address ≡ place n)

-- What the chip shows of the machine: W, C, Z and the named bytes, with no skip pending.
abbrev pub view : (place : ℕ → ℕ) → Chip → State
view place c = record { w = c.w; carry = c.regs.status.b0; zero = c.regs.status.b2; skip = false; mem = λ n. c.regs.plain (place n) }

-- Two states are alike: W, C, Z and each byte that is used.
pub record Like (uses : ℕ → Bool) (s t : State) : Type 0 where
  pub w : s.w ≡ t.w
  pub carry : s.carry ≡ t.carry
  pub zero : s.zero ≡ t.zero
  pub mem : (n : ℕ) → uses n ≡ true → s.mem n ≡ t.mem n

-- The chip is about to run instructions that stand from its program counter on, the last one at most at 1FFFh, in this bank.
pub record AtStart (program : ℕ → ℕ) (bank : Bank) (instrs : List Instr) (c : Chip) : Type 0 where
  pub pc : c.pc < 8192
  pub room : c.pc + length instrs ≤ 8192
  pub stand : StandFrom program c.pc instrs
  pub holds : Holds bank c

-- Its own steps lie within these instructions, and write nothing but W, STATUS and the bytes of the names that may be written.
abbrev pub OwnIn : (writes : ℕ → Bool) → (place : ℕ → ℕ) → List Instr → Chip → Chip → Done → Type 0
OwnIn writes place instrs c = Own (PlacesOf writes place) c.pc (c.pc + length instrs)

-- From wherever the chip is about to run these instructions, it comes within as many own steps as they are to the place behind
-- them, in the bank `to`, however whole runs of others come between.
abbrev pub EndsAnywhere : (writes : ℕ → Bool) → (place : ℕ → ℕ) → (bank to : Bank) → List Instr → Type 0
EndsAnywhere writes place bank to instrs =
    (program : ℕ → ℕ) (c : Chip) → AtStart program bank instrs c
    → Comes program Others (OwnIn writes place instrs c) (Ended ((c.pc + length instrs) % 8192) to) (length instrs) c

-- Where the chip's W, STATUS and used bytes change by its own steps alone, it comes there with `Post` of how it was and how it is.
abbrev pub Leaves : (uses writes : ℕ → Bool) → (place : ℕ → ℕ) → (bank to : Bank) → List Instr → (Post : Chip → Chip → Type 0) → Type 0
Leaves uses writes place bank to instrs Post =
    (program : ℕ → ℕ) (c : Chip) → AtStart program bank instrs c
    → Comes program (Keeps (PlacesOf uses place)) (OwnIn writes place instrs c) (λ e. Ended ((c.pc + length instrs) % 8192) to e × Post c e)
    (length instrs) c
