-- A program as a tree, apart from where it lies in memory.
use Rattle.std.specs.Prelude.{ℕ, Bool, List, map}
use Rattle.frp_tree.specs.declared.syntax.Ty.{Ty}
use Rattle.frp_tree.specs.declared.syntax.Lit.{Lit}
use Rattle.frp_tree.specs.declared.syntax.UnOp.{UnOp}
use Rattle.frp_tree.specs.declared.syntax.BinOp.{BinOp}
use Rattle.frp_tree.specs.declared.syntax.Side.{Side}
use Rattle.frp_tree.specs.declared.syntax.Expr.{Expr}
use Rattle.frp_tree.specs.declared.syntax.Expr.TheVariants as expr
use Rattle.frp_tree.specs.declared.syntax.Event.{Event}
use Rattle.frp_tree.specs.declared.syntax.Setup.{Setup}
use Rattle.frp_tree.specs.declared.syntax.Clause.{Clause}
use Rattle.frp_tree.specs.declared.syntax.Behaviour.{Behaviour}
use Rattle.frp_tree.specs.declared.syntax.Behaviour.TheVariants as behaviour
use Rattle.frp_tree.specs.declared.syntax.Decl.{Decl}
use Rattle.frp_tree.specs.declared.syntax.Output.{Output}
use Rattle.frp_tree.specs.declared.syntax.Program.{Program}

-- An expression. `Look` has a table's name and the index.
pub data Tree : Type 0 where
  Const : Lit → Tree
  Name : List ℕ → Tree
  Unary : UnOp → Tree → Tree
  Binary : BinOp → Tree → Tree → Tree
  Shift : Side → Tree → ℕ → Tree
  If : Tree → Tree → Tree → Tree
  Convert : Ty → Tree → Tree
  Look : List ℕ → Tree → Tree

-- A clause `event => expr;`, or `event => expr later;`.
pub record ClauseTree : Type 0 where
  pub event : List ℕ
  pub expr : Tree
  pub later : Bool

-- A definition is an expression; or an input, which has a port's name; or a table, which has its entries; or it is reactive,
-- and has its first value and its clauses.
pub data BehaviourTree : Type 0 where
  Plain : Tree → BehaviourTree
  Input : List ℕ → BehaviourTree
  Table : List Lit → BehaviourTree
  Reactive : Lit → List ClauseTree → BehaviourTree

pub record DeclTree : Type 0 where
  pub name : List ℕ
  pub ty : Ty
  pub behaviour : BehaviourTree

pub record OutputTree : Type 0 where
  pub port : List ℕ
  pub expr : Tree

pub record ProgramTree : Type 0 where
  pub events : List Event
  pub setups : List Setup
  pub decls : List DeclTree
  pub outputs : List OutputTree

-- The tree of an expression in memory.
abbrev pub tree_of : Expr → Tree
tree_of (expr.Const literal) = Const literal
tree_of (expr.Name name) = Name name
tree_of (expr.Unary' op p a) = Unary op (tree_of a)
tree_of (expr.Binary' op p a q b) = Binary op (tree_of a) (tree_of b)
tree_of (expr.Shift' side p a amount) = Shift side (tree_of a) amount
tree_of (expr.If' p c q a r b) = If (tree_of c) (tree_of a) (tree_of b)
tree_of (expr.Convert' ty p a) = Convert ty (tree_of a)
tree_of (expr.Look' table p index) = Look table (tree_of index)

abbrev pub clause_of : Clause → ClauseTree
clause_of c = record { event = c.event; expr = tree_of c.expr; later = c.later }

abbrev pub behaviour_of : Behaviour → BehaviourTree
behaviour_of (behaviour.Plain e) = Plain (tree_of e)
behaviour_of (behaviour.Input port) = Input port
behaviour_of (behaviour.Table entries) = Table entries
behaviour_of (behaviour.Reactive init clauses) = Reactive init (map clause_of clauses)

abbrev pub decl_of : Decl → DeclTree
decl_of d = record { name = d.name; ty = d.ty; behaviour = behaviour_of d.behaviour }

abbrev pub output_of : Output → OutputTree
output_of o = record { port = o.port; expr = tree_of o.expr }

abbrev pub program_tree_of : Program → ProgramTree
program_tree_of p = record { events = p.events; setups = p.setups; decls = map decl_of p.decls; outputs = map output_of p.outputs }
