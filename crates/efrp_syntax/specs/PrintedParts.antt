-- What the parts of the printer leave to be written.
use Rattle.std.specs.Prelude.{◌≡◌, ◌<◌, ℕ, List, ◌++◌, Option, None, Some}
use Rattle.std.specs.Borrow.{Bor}
use Rattle.frp_tree.specs.declared.levels.Level.{Level}
use Rattle.frp_tree.specs.declared.syntax.Expr.{Expr}
use Rattle.frp_tree.specs.Tree.{Tree, tree_of}
use Rattle.frp_tree.specs.Limits.{nodes}
use Rattle.frp_tree.specs.Printed.{bare, shown, spaced}

-- What remains to be written of an expression before a text: its left operand, where a level stands, or nothing.
abbrev pub IsLastPart : Tree → List ℕ → List ℕ → Option (Level × Bor Expr) → Type 0
IsLastPart e old new None = new ≡ spaced (bare e) ++ old
IsLastPart e old new (Some left) = (spaced (shown left.0 (tree_of left.1.now)) ++ new ≡ spaced (bare e) ++ old) × (nodes (tree_of left.1.now) < nodes e)
