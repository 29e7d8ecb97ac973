-- What a walk over parts of a program answers.
use Rattle.std.specs.Prelude.{◌≡◌, ℕ, ◌+◌, ◌≤◌, List, Option, Some, None, Result, Ok, Err, ⊤}
use Rattle.std.specs.List.{AllByRecursion}
use Rattle.frp_tree.specs.declared.limits.TheConstants.{MOST_NODES}
use Rattle.frp_tree.specs.Limits.{nodes}
use Rattle.frp_tree.specs.Tree.{Tree, ClauseTree, BehaviourTree, Plain, Input, Table, Reactive, ProgramTree}
use Rattle.efrp_meaning.specs.Types.{type_of}
use Rattle.where_tool.specs.declared.parts.Halted.{Halted}
use Rattle.where_tool.specs.declared.parts.Halted.TheVariants as halted
use Rattle.where_tool.specs.declared.parts.Part.{Part}
use Rattle.where_tool.specs.declared.type_walk.Typing.{Typing}
use Rattle.where_tool.specs.Visits.{Visit, first_part, root}

-- A walk halts for this: it met the first part that has a fault, which is this one; or memory ran out.
abbrev pub Halts : Option Part → Halted → Type 0
Halts first (halted.Met part) = first ≡ Some part
Halts first halted.Memory = Unit {0}

-- It went over these visits and met no fault, and answers a good value; or it halts.
abbrev pub Walks : {A : Type 0} → List Visit → (A → Type 0) → Result A Halted → Type 0
Walks visits Good (Ok x) = (first_part visits ≡ None) × Good x
Walks visits Good (Err why) = Halts (first_part visits) why

-- The same of a walk that answers nothing more.
abbrev pub Goes : List Visit → Result (Unit {0}) Halted → Type 0
Goes visits answer = Walks visits (λ (done : Unit {0}). Unit {0}) answer

-- The number behind the last node of an expression whose first node has the number n.
abbrev pub IsBehind : ℕ → Tree → ℕ → Type 0
IsBehind n e next = next ≡ n + nodes e

-- The type of an expression whose first node has the number n, the number of its own node, and that behind its last one.
pub record IsTyping (p : ProgramTree) (n : ℕ) (e : Tree) (t : Typing) : Type 0 where
  pub ty : type_of p e ≡ Some t.ty
  pub own : t.own ≡ n + root e
  pub next : IsBehind n e t.next

-- From this number on the nodes of an expression are no more than those of a program may be.
abbrev pub AreFew : ℕ → Tree → Type 0
AreFew n e = n + nodes e ≤ MOST_NODES

abbrev pub HaveFew : BehaviourTree → Type 0
HaveFew (Plain e) = AreFew 0 e
HaveFew (Input port) = ⊤
HaveFew (Table entries) = ⊤
HaveFew (Reactive init clauses) = AllByRecursion (λ (c : ClauseTree). AreFew 0 c.expr) clauses
