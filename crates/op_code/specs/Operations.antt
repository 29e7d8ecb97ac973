-- What code does an operation: where it ends, what it may write, what it leaves, and how long it is.
use Rattle.std.specs.Prelude.{◌≡◌, ℕ, ◌+◌, ◌/◌, ◌%◌, ◌<◌, ◌≤◌, ◌==◌, ◌⊎◌, Bool, true, false, if◌then◌else◌, Some, List, [], ◌∷◌, ◌++◌, map, length}
use Rattle.std.specs.List.{AllByRecursion, flat_map, list_any, sum_by}
use Rattle.pic_isa.specs.declared.instructions.Instr.{Instr}
use Rattle.pic_isa.specs.declared.instructions.Instr.TheVariants.{Bcf, Bsf, Btfsc, Btfss}
use Rattle.pic_isa.specs.Instructions.{FieldsFit}
use Rattle.pic_regs.specs.Bytes.{num}
use Rattle.pic_machine.specs.Chip.{Chip}
use Rattle.pic_machine.specs.Exec.{field}
use Rattle.byte_ops.specs.declared.operations.Op.{Op}
use Rattle.byte_ops.specs.Meaning.{Means, read_by, written_by}
use Rattle.byte_ops.specs.Weights.{weight_of}
use Rattle.bank_alloc.specs.declared.needs.Needs.{Needs}
use Rattle.bank_alloc.specs.Needs.{bytes_of}
use Rattle.bank_alloc.specs.Addresses.{address_of}
use Rattle.code_steps.specs.declared.banks.Bank.{Bank}
use Rattle.code_steps.specs.declared.banks.Bank.TheVariants.{Known}
use Rattle.code_steps.specs.Steps.{Comes}
use Rattle.code_steps.specs.Between.{Others, Keeps}
use Rattle.code_steps.specs.Ends.{Own, Ended}
use Rattle.code_items.specs.declared.items.Item.{Item}
use Rattle.code_items.specs.declared.items.Item.TheVariants.{Ins}
use Rattle.code_items.specs.Items.{ends_skipping}
use Rattle.code_items.specs.Lines.{Stands}
use Rattle.code_steps.specs.Ends.{Holds}
use Rattle.code_acts.specs.Laws.{sets_bank, SkipsNoSetting}
use Rattle.op_code.specs.Templates.{words_of}

-- The cells that an operation reads or writes.
abbrev pub cells_of_op : Op → List ℕ
cells_of_op op = read_by op ++ written_by op

-- The cell is one of these.
abbrev pub is_one_of : List ℕ → ℕ → Bool
is_one_of cells cell = list_any (λ other. other == cell) cells

-- The address is that of an operand byte, 74h to 7Fh; or that of a placed cell that a test picks.
abbrev pub IsOperandByte : ℕ → Type 0
IsOperandByte address = (0x74 ≤ address) × (address < 0x80)

abbrev pub IsOfCell : Needs → (picked : ℕ → Bool) → ℕ → Type 0
IsOfCell need picked address = (cell : ℕ) × (cell < bytes_of need) × (picked cell ≡ true) × (address ≡ address_of need cell)

abbrev pub IsOperandOrCell : Needs → (picked : ℕ → Bool) → ℕ → Type 0
IsOperandOrCell need picked address = IsOperandByte address ⊎ IsOfCell need picked address

-- The chip is about to run items that stand from its program counter to the place `q`, the last one at most at 1FFFh, in this
-- bank.
pub record AtItems (paged : Bool) (program marks : ℕ → ℕ) (q : ℕ) (bank : Bank) (items : List Item) (c : Chip) : Type 0 where
  pub pc : c.pc < 8192
  pub room : c.pc + length items ≤ 8192
  pub stand : Stands paged program marks c.pc items q
  pub holds : Holds bank c

-- Where others may do R between its steps: wherever the items stand, in every program, with and without page settings, for every
-- address of marks and from every chip, the code comes within as many own steps as it has items to the place behind it. There
-- the bank is `to`, PCLATH is as it was, and `Post` holds of how the chip was and how it is. Its own steps write only W, STATUS
-- and the bytes at these addresses.
abbrev pub ComesTo : (R : Chip → Chip → Type 0) → (may : ℕ → Type 0) → (bank to : Bank) → List Item → (Post : Chip → Chip → Type 0) → Type 0
ComesTo R may bank to items Post =
    (paged : Bool) (program marks : ℕ → ℕ) (q : ℕ) (c : Chip) → AtItems paged program marks q bank items c
    → Comes program R (Own may c.pc (c.pc + length items))
    (λ e. Ended ((c.pc + length items) % 8192) to e × (e.regs.pclath ≡ c.regs.pclath) × Post c e)
    (length items) c

-- What each cell that a test picks holds, by its address; 0 in place of the others.
abbrev pub bytes_in : Needs → (picked : ℕ → Bool) → Chip → ℕ → ℕ
bytes_in need picked c cell = if picked cell then num (c.regs.plain (address_of need cell)) else 0

-- The cells that a test picks are placed, and these are among them.
pub record Encloses (need : Needs) (cells : List ℕ) (picked : ℕ → Bool) : Type 0 where
  pub placed : (cell : ℕ) → picked cell ≡ true → cell < bytes_of need
  pub own : AllByRecursion (λ cell. picked cell ≡ true) cells

-- All of these cells lie in a bank.
abbrev pub LieIn : Needs → ℕ → List ℕ → Type 0
LieIn need k cells = AllByRecursion (λ cell. address_of need cell / 128 ≡ k) cells

-- Begun in the bank in which all of these cells lie, the instructions have no bank setting, and the bank stays.
abbrev pub StaysIn : List ℕ → Needs → (bank to : Bank) → List Instr → Type 0
StaysIn cells need bank to instrs =
    (k : ℕ) → bank ≡ Known k → LieIn need k cells → AllByRecursion (λ i. sets_bank i ≡ false) instrs × (to ≡ Known k)

-- An instruction clears, sets or tests a bit.
abbrev pub is_of_bit : Instr → Bool
is_of_bit (Bcf f b) = true
is_of_bit (Bsf f b) = true
is_of_bit (Btfsc f b) = true
is_of_bit (Btfss f b) = true
is_of_bit _ = false

-- It doesn't name INDF, and STATUS only where it clears, sets or tests a bit.
pub record NamesBitsOfStatus (i : Instr) : Type 0 where
  pub indf : field i ≡ Some 0x00 → ⊥
  pub status : field i ≡ Some 0x03 → is_of_bit i ≡ true

-- Items are these instructions, whose fields are in range; none names PCLATH or INDF, and STATUS is named for its bits alone; the last
-- is no skip instruction, and no bank setting stands directly behind one.
pub record AreInstrs (items : List Item) (instrs : List Instr) : Type 0 where
  pub all : items ≡ map Ins instrs
  pub fit : AllByRecursion (λ i. FieldsFit i × (field i ≡ Some 0x0A → ⊥)) instrs
  pub status : AllByRecursion NamesBitsOfStatus instrs
  pub last : ends_skipping false items ≡ false
  pub settings : SkipsNoSetting false instrs

-- Items, begun in this bank and ended in that one, do with placed cells what is meant. Anywhere they come to their end, under whole
-- runs of others too, and they write only W, STATUS, operand bytes and the cells `written`. Where nothing else changes W, STATUS,
-- operand bytes and placed cells that a test picks, `cells` among them, they leave in these what is meant. They are at most so
-- many, which is within a weight; and where all of `cells` lie in the known bank they set none.
pub record Does (cells written : List ℕ) (Meant : (before after : ℕ → ℕ) → Type 0) (most weight : ℕ) (need : Needs) (bank to : Bank) (items : List Item) : Type 0 where
  pub ends : ComesTo Others (IsOperandOrCell need (is_one_of written)) bank to items (λ c e. Unit)
  pub leaves : (picked : ℕ → Bool) → Encloses need cells picked
      → ComesTo (Keeps (IsOperandOrCell need picked)) (IsOperandOrCell need (is_one_of written)) bank to items
      (λ c e. Meant (bytes_in need picked c) (bytes_in need picked e))
  pub words : (length items ≤ most) × (most ≤ weight)
  pub instrs : List Instr
  pub are : AreInstrs items instrs
  pub stays : StaysIn cells need bank to instrs

-- Items do an operation. Since it keeps what it doesn't write, so do they.
abbrev pub DoesOp : Op → Needs → (bank to : Bank) → List Item → Type 0
DoesOp op = Does (cells_of_op op) (written_by op) (Means op) (words_of op) (weight_of op)

-- What operations mean one after the other.
abbrev pub MeansInOrder : List Op → (before after : ℕ → ℕ) → Type 0
MeansInOrder [] before after = (cell : ℕ) → after cell ≡ before cell
MeansInOrder (op ∷ ops) before after = (middle : ℕ → ℕ) × Means op before middle × MeansInOrder ops middle after

-- Items do operations one after the other.
abbrev pub DoesInOrder : List Op → Needs → (bank to : Bank) → List Item → Type 0
DoesInOrder ops = Does (flat_map cells_of_op ops) (flat_map written_by ops) (MeansInOrder ops) (sum_by words_of ops) (sum_by weight_of ops)
