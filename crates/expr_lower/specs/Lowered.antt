-- What an expression is lowered to.
use Rattle.std.specs.Prelude.{◌≡◌, ℕ, ◌+◌, ◌*◌, ◌<◌, ◌≤◌, false, nat_lt, List, [], ◌∷◌, sum_by, count_by, Option, Some}
use Rattle.std.specs.List.{AllByRecursion}
use Rattle.frp_tree.specs.declared.syntax.Ty.{Ty}
use Rattle.frp_tree.specs.Tree.{Tree, Const, Name, Unary, Binary, Shift, If, Convert, Look, ProgramTree}
use Rattle.efrp_meaning.specs.Types.{type_of_name}
use Rattle.efrp_meaning.specs.Needs.{IsNamedIn}
use Rattle.efrp_meaning.specs.Meaning.{evaluate}
use Rattle.efrp_meaning.specs.Values.{modulus}
use Rattle.efrp_meaning.specs.Bounds.{result_bytes, weight}
use Rattle.byte_ops.specs.declared.operations.Pair.{Pair}
use Rattle.byte_ops.specs.Cells.{AreIn, cells_of, held}
use Rattle.byte_ops.specs.Weights.{weight_of}
use Rattle.expr_lower.specs.declared.cells.Cells.{Cells}
use Rattle.expr_lower.specs.declared.lowering.Lowered.{Lowered}
use Rattle.expr_lower.specs.Places.{cells_of_name, is_wide}
use Rattle.expr_lower.specs.Running.{CanRun, DoAll, GiveOut, HoldBytes}

-- Nothing is looked up in a table.
abbrev pub HasNoLook : Tree → Type 0
HasNoLook (Const literal) = Unit {0}
HasNoLook (Name x) = Unit {0}
HasNoLook (Unary op a) = HasNoLook a
HasNoLook (Binary op a b) = HasNoLook a × HasNoLook b
HasNoLook (Shift side a amount) = HasNoLook a
HasNoLook (If c a b) = HasNoLook c × HasNoLook a × HasNoLook b
HasNoLook (Convert to a) = HasNoLook a
HasNoLook (Look table index) = ⊥

-- Each name in the expression has cells.
abbrev pub NamesHaveCells : ProgramTree → Cells → Tree → Type 0
NamesHaveCells p cells e = (y : List ℕ) → IsNamedIn y e → (pair : Pair) × (cells_of_name p cells y ≡ Some pair)

-- There is a value, it is one of this type, and these cells hold it.
abbrev pub IsHeld : Ty → Option ℕ → Pair → (ℕ → ℕ) → Type 0
IsHeld t o pair cells = (n : ℕ) × (o ≡ Some n) × (n < modulus t) × (held (is_wide t) pair cells ≡ n)

-- The cells of each name in the expression hold its value, which is one of its type.
abbrev pub NamesHold : ProgramTree → Cells → (List ℕ → Option ℕ) → (ℕ → ℕ) → Tree → Type 0
NamesHold p cells names start e =
    (y : List ℕ) → IsNamedIn y e → (t : Ty) (pair : Pair) → type_of_name p y ≡ Some t → cells_of_name p cells y ≡ Some pair → IsHeld t (names y) pair start

-- How many of these cells are among the first so many.
abbrev pub old_among : ℕ → List ℕ → ℕ
old_among count cells = count_by (λ cell. nat_lt cell count) cells

-- An expression of type t is lowered, from cells before to cells after: no place changes; the operations write just the cells
-- that are given out, each can be run, and the result's cells are given out; whatever the names stand for, after the operations
-- the result's cells hold the value of the expression, and the cells from before are as they were; the cells and the operations
-- are within the expression's bounds, where a result that lies in cells from before counts as one of its bytes and as a copy.
pub record Lowers (p : ProgramTree) (before after : Cells) (e : Tree) (t : Ty) (lowered : Lowered) : Type 0 where
  pub places : after.places.items ≡ before.places.items
  pub order : GiveOut before.next lowered.ops after.next
  pub runs : AllByRecursion (CanRun after.next) lowered.ops
  pub result_in : AreIn after.next (lowered.result.low ∷ lowered.result.high ∷ [])
  pub narrow : is_wide t ≡ false → lowered.result.high ≡ lowered.result.low
  pub value : (names : List ℕ → Option ℕ) (start finish : ℕ → ℕ) → HoldBytes start → NamesHold p before names start e → DoAll lowered.ops start finish → IsHeld t (evaluate p names e) lowered.result finish
  pub kept : (start finish : ℕ → ℕ) → DoAll lowered.ops start finish → (cell : ℕ) → cell < before.next → finish cell ≡ start cell
  pub count : after.next + old_among before.next (cells_of (is_wide t) lowered.result) ≤ before.next + result_bytes p e
  pub weight : sum_by weight_of lowered.ops + 6 * old_among before.next (cells_of (is_wide t) lowered.result) ≤ weight p e
