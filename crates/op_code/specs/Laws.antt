-- What an operation and its cells have to be, and what the laws of `laws.rt` promise.
use Rattle.std.specs.Prelude.{◌≡◌, ℕ, ◌<◌, false, Some, List, [], ◌∷◌, ◌++◌}
use Rattle.std.specs.List.{AllByRecursion}
use Rattle.byte_ops.specs.declared.operations.Op.{Op}
use Rattle.byte_ops.specs.Cells.{AreIn, AreNot, Differ}
use Rattle.byte_ops.specs.Kinds.{IsOp}
use Rattle.byte_ops.specs.Meaning.{read_by, written_by}
use Rattle.pic_isa.specs.declared.instructions.Instr.{Instr}
use Rattle.pic_machine.specs.Chip.{Chip}
use Rattle.pic_machine.specs.Results.{Done}
use Rattle.pic_machine.specs.Exec.{exec}
use Rattle.bank_alloc.specs.declared.needs.Needs.{Needs}
use Rattle.code_steps.specs.declared.banks.Bank.{Bank}
use Rattle.code_steps.specs.declared.banks.Bank.TheVariants.{Unknown}
use Rattle.code_items.specs.declared.items.Item.{Item}
use Rattle.code_acts.specs.Laws.{sets_bank}
use Rattle.op_templates.specs.Laws.{HasByte}
use Rattle.op_code.specs.declared.named.Named.{Named}
use Rattle.op_code.specs.Operations.{DoesInOrder, DoesOp, NamesBitsOfStatus, cells_of_op}

-- An operation of its kind on some of so many cells: its constant is a byte; what it writes is none of what it reads, and differs.
pub record IsOpOn (count : ℕ) (op : Op) : Type 0 where
  pub kind : IsOp op
  pub byte : HasByte op
  pub placed : AreIn count (cells_of_op op)
  pub apart : AllByRecursion (λ cell. AreNot cell (read_by op)) (written_by op)
  pub differ : Differ (written_by op)

-- The cells of names are among so many.
abbrev pub ArePlaced : ℕ → Named → Type 0
ArePlaced count named =
    (named.to < count) × (named.to_high < count) × (named.a < count) × (named.a_high < count) × (named.b < count) × (named.b_high < count) × (named.c < count)

-- Items do an operation, begun in a bank that isn't known.
abbrev pub DoesAnywhere : Op → Needs → List Item → Type 0
DoesAnywhere op need items = (to : Bank) × DoesOp op need Unknown to items

-- No items do no operations. Items that do an operation, before others that go on in its bank, do it and what they do.
abbrev pub NoneDoes : Needs → Bank → Type 0
NoneDoes need bank = DoesInOrder [] need bank bank []

abbrev pub OneMoreDoes : Op → List Op → Needs → (bank mid to : Bank) → (xs ys : List Item) → Type 0
OneMoreDoes op ops need bank mid to xs ys = DoesOp op need bank mid xs → DoesInOrder ops need mid to ys → DoesInOrder (op ∷ ops) need bank to (xs ++ ys)

-- Items that do some operations, before others that go on in their bank, do them and what those do.
abbrev pub PartsDo : (ops more : List Op) → Needs → (bank mid to : Bank) → (xs ys : List Item) → Type 0
PartsDo ops more need bank mid to xs ys = DoesInOrder ops need bank mid xs → DoesInOrder more need mid to ys → DoesInOrder (ops ++ more) need bank to (xs ++ ys)

-- RP1 and RP0 are as before.
pub record SameBank (before after : Chip) : Type 0 where
  pub rp1 : after.regs.status.b6 ≡ before.regs.status.b6
  pub rp0 : after.regs.status.b5 ≡ before.regs.status.b5

-- An instruction that names bits of STATUS alone, and sets no bank bit, leaves them so.
abbrev pub KeepsBank : Instr → Chip → Done → Type 0
KeepsBank i c done = NamesBitsOfStatus i → sets_bank i ≡ false → exec i c ≡ Some done → SameBank c done.chip
