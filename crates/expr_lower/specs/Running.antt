-- Operations in order: which cells they give out, that each can be run, and what they leave in the cells.
use Rattle.std.specs.Prelude.{◌≡◌, ℕ, ◌+◌, ◌<◌, List, [], ◌∷◌, length}
use Rattle.std.specs.List.{AllByRecursion}
use Rattle.byte_ops.specs.declared.operations.Op.{Op}
use Rattle.byte_ops.specs.Cells.{AreIn, AreNot, Differ}
use Rattle.byte_ops.specs.Kinds.{IsOp}
use Rattle.byte_ops.specs.Meaning.{Means, read_by, written_by}

-- These cells are numbered from this number on, without a gap.
abbrev pub AreNext : ℕ → List ℕ → Type 0
AreNext first [] = Unit {0}
AreNext first (cell ∷ more) = (cell ≡ first) × AreNext (first + 1) more

-- Operations that write the cells from the first number up to the second, each once and in this order: an operation reads
-- cells before those that it writes, and writes the next ones alone.
abbrev pub GiveOut : ℕ → List Op → ℕ → Type 0
GiveOut first [] next = first ≡ next
GiveOut first (op ∷ ops) next = AreIn first (read_by op) × AreNext first (written_by op) × GiveOut (first + length (written_by op)) ops next

-- What running an operation asks, where there are so many cells.
pub record CanRun (count : ℕ) (op : Op) : Type 0 where
  pub kind : IsOp op
  pub written_in : AreIn count (written_by op)
  pub read_in : AreIn count (read_by op)
  pub apart : AllByRecursion (λ cell. AreNot cell (read_by op)) (written_by op)
  pub differ : Differ (written_by op)

-- Each cell holds a byte.
abbrev pub HoldBytes : (ℕ → ℕ) → Type 0
HoldBytes cells = (cell : ℕ) → cells cell < 256

-- From cells before the operations to cells after them: each operation leads as it means, to bytes.
abbrev pub DoAll : List Op → (ℕ → ℕ) → (ℕ → ℕ) → Type 0
DoAll [] start finish = (cell : ℕ) → finish cell ≡ start cell
DoAll (op ∷ ops) start finish = (next : ℕ → ℕ) × Means op start next × HoldBytes next × DoAll ops next finish
