-- What is drafted of an event's work. Functions inside the crate speak of it alone.
use Rattle.std.specs.Prelude.{◌≡◌, ℕ, ◌+◌, ◌≤◌, ◌==◌, nat_lt, Bool, true, false, List, [], ◌∷◌, ◌++◌, map, take, sum_by, slice_get, is_some, Option, Some, None}
use Rattle.std.specs.List.{AllByRecursion, list_any}
use Rattle.frp_tree.specs.declared.syntax.Ty.{Ty}
use Rattle.frp_tree.specs.Tree.{Tree, DeclTree, OutputTree, ProgramTree}
use Rattle.pic_isa.specs.Names.{port_at}
use Rattle.efrp_meaning.specs.Bounds.{result_bytes, scratch_bytes, state_bytes, weight}
use Rattle.efrp_meaning.specs.Decls.{inputs_of}
use Rattle.efrp_meaning.specs.Meaning.{State, evaluate}
use Rattle.efrp_meaning.specs.Types.{type_of, type_of_name}
use Rattle.efrp_meaning.specs.States.{IsState}
use Rattle.byte_ops.specs.declared.operations.Op.{Op}
use Rattle.byte_ops.specs.declared.operations.Op.TheVariants as op
use Rattle.byte_ops.specs.declared.operations.Pair.{Pair}
use Rattle.byte_ops.specs.Cells.{AreIn, Differ, cells_of, held}
use Rattle.byte_ops.specs.Weights.{weight_of}
use Rattle.expr_lower.specs.declared.places.Place.{Place}
use Rattle.expr_lower.specs.declared.cells.Cells.{Cells}
use Rattle.expr_lower.specs.Lowered.{HasNoLook, IsHeld, Lowers, NamesHaveCells, NamesHold}
use Rattle.expr_lower.specs.Numbered.{AreStates}
use Rattle.expr_lower.specs.Places.{AreCellsOf, cells_of_name, is_wide}
use Rattle.expr_lower.specs.Running.{CanRun, DoAll, GiveOut, HoldBytes}
use Rattle.two_phase.specs.declared.plans.Assign.{Assign}
use Rattle.two_phase.specs.declared.plans.Plan.{Plan}
use Rattle.two_phase.specs.Plans.{IsPlan, PlanGives, assigned_expression, assigns, meant, names_after}
use Rattle.event_ops.specs.declared.drafts.Draft.{Draft}
use Rattle.event_ops.specs.declared.results.Copied.{Copied}
use Rattle.event_ops.specs.declared.results.Put.{Put}
use Rattle.event_ops.specs.Works.{HasNoLooks, HoldState, IsCopy, IsPut, copied, state_of}

-- What the code asks of an event's plan and of the program.
pub record IsReady (p : ProgramTree) (event : List ℕ) (its : Plan) : Type 0 where
  pub plan : IsPlan p event its
  pub gives : PlanGives p event its
  pub no_look : HasNoLooks p
  pub no_inputs : inputs_of p ≡ []
  pub room : state_bytes p + scratch_bytes p event ≤ 65536

-- Nothing is drafted, and the cells are those of the states.
pub record IsNew (p : ProgramTree) (draft : Draft) : Type 0 where
  pub ops : draft.ops ≡ []
  pub copies : draft.copies ≡ []
  pub cells : AreStates p draft.cells
  pub states : draft.states ≡ state_bytes p

-- The expression can be lowered.
pub record CanAdd (p : ProgramTree) (draft : Draft) (e : Tree) : Type 0 where
  pub typed : (t : Ty) × (type_of p e ≡ Some t)
  pub no_look : HasNoLook e
  pub cells : AreCellsOf p draft.cells
  pub named : NamesHaveCells p draft.cells e
  pub old : draft.states ≤ draft.cells.next
  pub room : draft.cells.next + result_bytes p e ≤ 65536

-- Operations are drafted behind others, with nothing else changed but which cell is given out next.
pub record GoesOn (before after : Draft) (added : List Op) : Type 0 where
  pub ops : after.ops ≡ before.ops ++ added
  pub places : after.cells.places.items ≡ before.cells.places.items
  pub copies : after.copies ≡ before.copies
  pub states : after.states ≡ before.states

-- The lowering of an expression is drafted.
pub record Adds (p : ProgramTree) (before after : Draft) (e : Tree) (t : Ty) (at : Pair) : Type 0 where
  pub ops : List Op
  pub lowers : Lowers p before.cells after.cells e t (record { ops = ops; result = at })
  pub goes_on : GoesOn before after ops

-- A cell of a state is copied to a new one: the operations, where the byte is then, and which cell is given out next.
pub record Moved : Type 0 where
  pub ops : List Op
  pub at : ℕ
  pub next : ℕ

abbrev pub moved_if : Bool → ℕ → ℕ → Moved
moved_if true next cell = record { ops = op.Copy next cell ∷ []; at = next; next = next + 1 }
moved_if false next cell = record { ops = []; at = cell; next = next }

abbrev pub moved : ℕ → ℕ → ℕ → Moved
moved states next cell = moved_if (nat_lt cell states) next cell

pub record MovedPair : Type 0 where
  pub ops : List Op
  pub at : Pair
  pub next : ℕ

abbrev pub moved_pair : Bool → ℕ → ℕ → Pair → MovedPair
moved_pair false states next pair = let low = moved states next pair.low in record { ops = low.ops; at = record { low = low.at; high = low.at }; next = low.next }
moved_pair true states next pair =
    let low = moved states next pair.low in
    let high = moved states low.next pair.high in
    record { ops = low.ops ++ high.ops; at = record { low = low.at; high = high.at }; next = high.next }

pub record Moves (before after : Draft) (m : Moved) (to : ℕ) : Type 0 where
  pub goes_on : GoesOn before after m.ops
  pub next : after.cells.next ≡ m.next
  pub at : to ≡ m.at

pub record MovesPair (before after : Draft) (m : MovedPair) (to : Pair) : Type 0 where
  pub goes_on : GoesOn before after m.ops
  pub next : after.cells.next ≡ m.next
  pub at : to ≡ m.at

-- Operations are drafted that write the cells that are given out next, of which there are at most so many more, and have at
-- most this weight.
pub record Grows (before after : Draft) (ops : List Op) (bytes most : ℕ) : Type 0 where
  pub goes_on : GoesOn before after ops
  pub order : GiveOut before.cells.next ops after.cells.next
  pub runs : AllByRecursion (CanRun after.cells.next) ops
  pub count : after.cells.next ≤ before.cells.next + bytes
  pub weight : sum_by weight_of ops ≤ most

-- They leave the value of an expression of type t in these cells.
pub record Values (p : ProgramTree) (before after : Draft) (e : Tree) (t : Ty) (at : Pair) : Type 0 where
  pub ops : List Op
  pub grows : Grows before after ops (result_bytes p e) (weight p e)
  pub result_in : AreIn after.cells.next (at.low ∷ at.high ∷ [])
  pub narrow : is_wide t ≡ false → at.high ≡ at.low
  pub value : (names : List ℕ → Option ℕ) (start finish : ℕ → ℕ) → HoldBytes start → NamesHold p before.cells names start e → DoAll ops start finish → IsHeld t (evaluate p names e) at finish

-- And none of these is a cell of a state.
pub record Lasting (p : ProgramTree) (before after : Draft) (e : Tree) (t : Ty) (at : Pair) : Type 0 where
  pub values : Values p before after e t at
  pub low : before.states ≤ at.low
  pub high : before.states ≤ at.high

-- The cells of each name of a program hold its value.
abbrev pub HoldNames : ProgramTree → Cells → (List ℕ → Option ℕ) → (ℕ → ℕ) → Type 0
HoldNames p cells names finish = (y : List ℕ) (t : Ty) (pair : Pair) → type_of_name p y ≡ Some t → cells_of_name p cells y ≡ Some pair → IsHeld t (names y) pair finish

-- The expressions of outputs can be lowered.
pub record CanPut (p : ProgramTree) (draft : Draft) (outputs : List OutputTree) : Type 0 where
  pub no_look : AllByRecursion (λ (o : OutputTree). HasNoLook o.expr) outputs
  pub cells : AreCellsOf p draft.cells
  pub named : AllByRecursion (λ (o : OutputTree). NamesHaveCells p draft.cells o.expr) outputs
  pub old : draft.states ≤ draft.cells.next
  pub room : draft.cells.next + sum_by (λ (o : OutputTree). result_bytes p o.expr) outputs ≤ 65536

-- Operations are drafted that leave the values of outputs in cells that are none of a state, and these are put on their ports.
pub record Shows (p : ProgramTree) (before after : Draft) (outputs : List OutputTree) (shown : List Put) : Type 0 where
  pub ops : List Op
  pub grows : Grows before after ops (sum_by (λ (o : OutputTree). result_bytes p o.expr) outputs) (sum_by (λ (o : OutputTree). weight p o.expr) outputs)
  pub puts : AllByRecursion (IsPut before.states after.cells.next) shown
  pub ports : map (λ (q : Put). Some q.port) shown ≡ map (λ (o : OutputTree). port_at o.port) outputs
  pub values : (names : List ℕ → Option ℕ) (start finish : ℕ → ℕ) → HoldBytes start → HoldNames p before.cells names start → DoAll ops start finish
      → map (λ (q : Put). Some (finish q.from)) shown ≡ map (λ (o : OutputTree). evaluate p names o.expr) outputs

-- What is copied of a new state to its cells, where there are some.
abbrev pub pair_copies : Bool → Pair → Pair → List Copied
pair_copies false from to = record { from = from.low; to = to.low } ∷ []
pair_copies true from to = record { from = from.low; to = to.low } ∷ record { from = from.high; to = to.high } ∷ []

abbrev pub state_copies : Bool → Pair → Option Pair → List Copied
state_copies wide from None = []
state_copies wide from (Some to) = pair_copies wide from to

-- A cell is copied to this one, and a definition has been assigned.
abbrev pub is_to : List Copied → ℕ → Bool
is_to copies cell = list_any (λ (c : Copied). c.to == cell) copies

abbrev pub is_set : ℕ → List Assign → Bool
is_set n front = list_any (λ (a : Assign). a.decl == n) front

-- The place of a definition behind these assignments: it is bound where a value is assigned.
pub record IsPlaceOf (p : ProgramTree) (front : List Assign) (n : ℕ) (d : DeclTree) (place : Place) : Type 0 where
  pub ty : place.ty ≡ d.ty
  pub state : place.state ≡ state_of p n d
  pub bound : is_some place.bound ≡ list_any (assigns n false) front

-- What a number is for an assignment: that of its expression.
abbrev pub by_expression : ProgramTree → List ℕ → (Tree → ℕ) → Assign → ℕ
by_expression p event f a =
    elim (slice_get p.decls a.decl) [ Some d ↦ elim (assigned_expression event d.behaviour) [ Some e ↦ f e | None ↦ 0 ] | None ↦ 0 ]

-- What is drafted behind these assignments, from every state: the cells of each name hold what it stands for, and the new states
-- that are assigned are those that are meant once the cells are copied.
pub record Leaves (p : ProgramTree) (event : List ℕ) (front : List Assign) (draft : Draft) (s : State) (finish : ℕ → ℕ) : Type 0 where
  pub names : HoldNames p draft.cells (names_after p s [] event front) finish
  pub news : (n : ℕ) (d : DeclTree) (pair : Pair) (next : Bool) → slice_get p.decls n ≡ Some d → state_of p n d ≡ Some pair → list_any (assigns n next) front ≡ true
      → meant p s [] event d next ≡ Some (held (is_wide d.ty) pair (copied draft.copies finish))

pub record Drafted (p : ProgramTree) (event : List ℕ) (front : List Assign) (bytes most : ℕ) (draft : Draft) : Type 0 where
  pub ours : AreCellsOf p draft.cells
  pub states : draft.states ≡ state_bytes p
  pub order : GiveOut (state_bytes p) draft.ops draft.cells.next
  pub runs : AllByRecursion (CanRun draft.cells.next) draft.ops
  pub places : (n : ℕ) (d : DeclTree) → slice_get p.decls n ≡ Some d → (place : Place) × (slice_get draft.cells.places.items n ≡ Some place) × IsPlaceOf p front n d place
  pub copies : AllByRecursion (IsCopy (state_bytes p) draft.cells.next) draft.copies
  pub once : Differ (map (λ (c : Copied). c.to) draft.copies)
  pub marks : (n : ℕ) (d : DeclTree) (pair : Pair) → slice_get p.decls n ≡ Some d → state_of p n d ≡ Some pair → AllByRecursion (λ cell. is_to draft.copies cell ≡ is_set n front) (cells_of (is_wide d.ty) pair)
  pub leaves : (s : State) (start finish : ℕ → ℕ) → IsState p s → HoldBytes start → HoldState p s start → DoAll draft.ops start finish → Leaves p event front draft s finish
  pub count : draft.cells.next ≤ state_bytes p + bytes
  pub weight : sum_by weight_of draft.ops ≤ most

-- The first so many assignments of a plan are drafted.
abbrev pub IsDraftedTo : ProgramTree → List ℕ → Plan → ℕ → Draft → Type 0
IsDraftedTo p event plan k draft =
    Drafted p event (take k plan.work) (sum_by (by_expression p event (result_bytes p)) (take k plan.work)) (sum_by (by_expression p event (weight p)) (take k plan.work)) draft
