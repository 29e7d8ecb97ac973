-- How the cells of a program are numbered at first, and what a binding changes.
use Rattle.std.specs.Prelude.{◌≡◌, ◌≢◌, ℕ, ◌+◌, List, [], ◌∷◌, slice_get, Option, Some, None}
use Rattle.frp_tree.specs.declared.syntax.Ty.{Ty}
use Rattle.frp_tree.specs.Tree.{BehaviourTree, Plain, Input, Table, Reactive, DeclTree, ProgramTree}
use Rattle.efrp_meaning.specs.Bounds.{bytes_in, state_bytes}
use Rattle.byte_ops.specs.declared.operations.Pair.{Pair}
use Rattle.expr_lower.specs.declared.places.Place.{Place}
use Rattle.expr_lower.specs.declared.cells.Cells.{Cells}
use Rattle.expr_lower.specs.Nodes.{new_pair}
use Rattle.expr_lower.specs.Places.{AreCellsOf, FitIn, is_wide}

-- The state cells of a definition, where these are given out next: a reactive one alone has some, low byte first.
abbrev pub state_cells : ℕ → Ty → BehaviourTree → Option Pair
state_cells next t (Plain e) = None
state_cells next t (Input port) = None
state_cells next t (Table entries) = None
state_cells next t (Reactive init clauses) = Some (new_pair (is_wide t) next)

-- The places of definitions that aren't bound, where the bytes of their states are numbered from this number on.
abbrev pub state_places : ℕ → List DeclTree → List Place
state_places next [] = []
state_places next (d ∷ ds) =
    record { ty = d.ty; state = state_cells next d.ty d.behaviour; bound = None } ∷ state_places (next + bytes_in d.ty d.behaviour) ds

-- The state cells of a program are numbered from 0 in declaration order, nothing is bound, and no other cell is given out.
pub record AreStates (p : ProgramTree) (cells : Cells) : Type 0 where
  pub places : cells.places.items ≡ state_places 0 p.decls
  pub next : cells.next ≡ state_bytes p
  pub ours : AreCellsOf p cells

-- The definition of this number is there, it isn't bound, and these cells are given out and of its width.
pub record CanBind (cells : Cells) (n : ℕ) (at : Pair) : Type 0 where
  pub place : Place
  pub is_there : slice_get cells.places.items n ≡ Some place
  pub free : place.bound ≡ None
  pub fits : FitIn cells.next place.ty (Some at)

-- The value of the definition of this number is bound to these cells, and nothing else changes.
pub record Binds (n : ℕ) (at : Pair) (before after : Cells) : Type 0 where
  pub next : after.next ≡ before.next
  pub own : (place : Place) → slice_get before.places.items n ≡ Some place → slice_get after.places.items n ≡ Some (record place { bound = Some at })
  pub others : (m : ℕ) → m ≢ n → slice_get after.places.items m ≡ slice_get before.places.items m
