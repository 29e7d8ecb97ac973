-- The cells that stand for the definitions of a program.
use Rattle.std.specs.Prelude.{◌≡◌, ℕ, ◌<◌, ◌≤◌, Bool, true, false, List, map, slice_get, Option, Some, None, option_and_then}
use Rattle.std.specs.List.{AllByRecursion}
use Rattle.frp_tree.specs.declared.syntax.Ty.{Ty}
use Rattle.frp_tree.specs.declared.syntax.Ty.TheVariants as ty
use Rattle.frp_tree.specs.Tree.{DeclTree, ProgramTree}
use Rattle.efrp_types.specs.Numbers.{decl_number}
use Rattle.byte_ops.specs.declared.operations.Pair.{Pair}
use Rattle.expr_lower.specs.declared.places.Place.{Place}
use Rattle.expr_lower.specs.declared.cells.Cells.{Cells}

-- Values of this type take two cells.
abbrev pub is_wide : Ty → Bool
is_wide ty.Bool = false
is_wide ty.U8 = false
is_wide ty.U16 = true

-- The cells of a definition: those that its value is bound to, and where there are none those of its state.
abbrev pub first_of : Option Pair → Option Pair → Option Pair
first_of (Some bound) state = Some bound
first_of None state = state

abbrev pub cells_of_place : Place → Option Pair
cells_of_place place = first_of place.bound place.state

-- The cells of a name in a program.
abbrev pub cells_of_name : ProgramTree → Cells → List ℕ → Option Pair
cells_of_name p cells x = option_and_then (λ n. option_and_then cells_of_place (slice_get cells.places.items n)) (decl_number p x)

-- Where there are cells, they are among the first so many, and where the type isn't a u16 `high` is written as `low`.
abbrev pub FitIn : ℕ → Ty → Option Pair → Type 0
FitIn next t None = Unit {0}
FitIn next t (Some pair) = (pair.low < next) × (pair.high < next) × (is_wide t ≡ false → pair.high ≡ pair.low)

pub record IsPlaced (next : ℕ) (place : Place) : Type 0 where
  pub state : FitIn next place.ty place.state
  pub bound : FitIn next place.ty place.bound

-- The cells are numbered for this program: there is a place for each definition, with its type, all cells in it are given out,
-- and no more are than have numbers.
pub record AreCellsOf (p : ProgramTree) (cells : Cells) : Type 0 where
  pub types : map (λ (place : Place). place.ty) cells.places.items ≡ map (λ (d : DeclTree). d.ty) p.decls
  pub placed : AllByRecursion (IsPlaced cells.next) cells.places.items
  pub few : cells.next ≤ 65536
