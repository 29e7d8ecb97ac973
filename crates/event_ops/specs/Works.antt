-- What an event does with bytes: the cells of states, what is copied to them, and what the reaction is that comes of it.
use Rattle.std.specs.Prelude.{◌≡◌, ℕ, ◌+◌, ◌<◌, ◌≤◌, ◌==◌, List, [], ◌∷◌, map, take, sum_by, slice_get, Option, Some, if◌then◌else◌}
use Rattle.std.specs.List.{AllByRecursion}
use Rattle.frp_tree.specs.Tree.{ClauseTree, BehaviourTree, Plain, Input, Table, Reactive, DeclTree, OutputTree, ProgramTree}
use Rattle.pic_isa.specs.Names.{port_at}
use Rattle.efrp_meaning.specs.Bounds.{bytes_in, body, scratch_bytes, state_bytes}
use Rattle.efrp_meaning.specs.Meaning.{State, Reaction, old_state, react}
use Rattle.efrp_meaning.specs.States.{IsState}
use Rattle.byte_ops.specs.declared.operations.Pair.{Pair}
use Rattle.byte_ops.specs.Cells.{Differ, held}
use Rattle.byte_ops.specs.Weights.{weight_of}
use Rattle.expr_lower.specs.Lowered.{HasNoLook}
use Rattle.expr_lower.specs.Numbered.{state_cells}
use Rattle.expr_lower.specs.Places.{is_wide}
use Rattle.expr_lower.specs.Running.{CanRun, DoAll, GiveOut, HoldBytes}
use Rattle.event_ops.specs.declared.results.Copied.{Copied}
use Rattle.event_ops.specs.declared.results.Put.{Put}
use Rattle.event_ops.specs.declared.results.EventOps.{EventOps}

-- No expression of a definition looks anything up in a table, and none of a program.
abbrev pub LookNowhere : BehaviourTree → Type 0
LookNowhere (Plain e) = HasNoLook e
LookNowhere (Input port) = Unit {0}
LookNowhere (Table entries) = Unit {0}
LookNowhere (Reactive init clauses) = AllByRecursion (λ (c : ClauseTree). HasNoLook c.expr) clauses

pub record HasNoLooks (p : ProgramTree) : Type 0 where
  pub decls : AllByRecursion (λ (d : DeclTree). LookNowhere d.behaviour) p.decls
  pub outputs : AllByRecursion (λ (o : OutputTree). HasNoLook o.expr) p.outputs

-- The cells of the state of the definition with this number: they are numbered behind those of the definitions before it, low
-- byte first. One that isn't reactive has none.
abbrev pub state_of : ProgramTree → ℕ → DeclTree → Option Pair
state_of p n d = state_cells (sum_by (λ (c : DeclTree). bytes_in c.ty c.behaviour) (take n p.decls)) d.ty d.behaviour

-- The states' cells hold this state.
abbrev pub HoldState : ProgramTree → State → (ℕ → ℕ) → Type 0
HoldState p s cells =
    (n : ℕ) (d : DeclTree) (pair : Pair) → slice_get p.decls n ≡ Some d → state_of p n d ≡ Some pair → old_state p s d.name ≡ Some (held (is_wide d.ty) pair cells)

-- What is copied goes from one of the first so many cells that is none of a state to one that is.
pub record IsCopy (states cells : ℕ) (c : Copied) : Type 0 where
  pub to : c.to < states
  pub old : states ≤ c.from
  pub given : c.from < cells

-- What each cell holds when these are copied, all at once.
abbrev pub copied : List Copied → (ℕ → ℕ) → ℕ → ℕ
copied [] cells cell = cells cell
copied (c ∷ cs) cells cell = if c.to == cell then cells c.from else copied cs cells cell

-- What is put on a port lies in one of the first so many cells that is none of a state.
pub record IsPut (states cells : ℕ) (q : Put) : Type 0 where
  pub old : states ≤ q.from
  pub given : q.from < cells
  pub port : q.port ≤ 4

-- What is left when the work is done is the reaction to the event: its state once the cells are copied, and its port values in
-- the cells that are put.
pub record Reacts (p : ProgramTree) (s : State) (event : List ℕ) (w : EventOps) (finish : ℕ → ℕ) : Type 0 where
  pub reaction : Reaction
  pub is : react p s [] event ≡ Some reaction
  pub is_state : IsState p reaction.state
  pub states : HoldState p reaction.state (copied w.copies finish)
  pub ports : map (λ (q : Put). finish q.from) w.puts ≡ reaction.ports

-- What an event of a program without inputs does with bytes. The operations write just the cells behind those of the states,
-- each once and before it is read, and each can be run. To each of the states' cells one is copied at most. The ports are those
-- of the outputs, in their order. From every state the work leads to the reaction. The operations are within the weight of what
-- the event needs, and the cells within its bytes.
pub record Works (p : ProgramTree) (event : List ℕ) (w : EventOps) : Type 0 where
  pub order : GiveOut (state_bytes p) w.ops w.cells
  pub runs : AllByRecursion (CanRun w.cells) w.ops
  pub copies : AllByRecursion (IsCopy (state_bytes p) w.cells) w.copies
  pub once : Differ (map (λ (c : Copied). c.to) w.copies)
  pub puts : AllByRecursion (IsPut (state_bytes p) w.cells) w.puts
  pub ports : map (λ (q : Put). Some q.port) w.puts ≡ map (λ (o : OutputTree). port_at o.port) p.outputs
  pub gives : (s : State) (start finish : ℕ → ℕ) → IsState p s → HoldBytes start → HoldState p s start → DoAll w.ops start finish → Reacts p s event w finish
  pub weight : sum_by weight_of w.ops ≤ body p event
  pub room : w.cells ≤ state_bytes p + scratch_bytes p event
