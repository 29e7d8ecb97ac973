-- How much of each kind a program may have; and what every program that a text spells keeps, whatever its names and types:
-- these limits, and no conversion to bool.
use Rattle.std.specs.Prelude.{◌≡◌, ℕ, ◌+◌, ◌≤◌, Bool, true, false, ◌&&◌, length, sum_by}
use Rattle.std.specs.List.{AllByRecursion, list_all}
use Rattle.frp_tree.specs.declared.kinds.Kind.{Kind}
use Rattle.frp_tree.specs.declared.kinds.Kind.TheVariants.{Events, Setups, Definitions, Outputs, Nodes, Entries}
use Rattle.frp_tree.specs.declared.limits.TheConstants.{MOST_EVENTS, MOST_SETUPS, MOST_DEFINITIONS, MOST_OUTPUTS, MOST_NODES, MOST_ENTRIES_OF_A_TABLE, MOST_ENTRIES}
use Rattle.frp_tree.specs.declared.syntax.Ty.{Ty}
use Rattle.frp_tree.specs.declared.syntax.Ty.TheVariants as ty
use Rattle.frp_tree.specs.Tree.{Tree, Const, Name, Unary, Binary, Shift, If, Convert, Look, BehaviourTree, Plain, Input, Table, Reactive, DeclTree, ProgramTree}

-- How many of a kind a program may have; the nodes are those of all expressions, the entries those of all tables.
abbrev pub most : Kind → ℕ
most Events = MOST_EVENTS
most Setups = MOST_SETUPS
most Definitions = MOST_DEFINITIONS
most Outputs = MOST_OUTPUTS
most Nodes = MOST_NODES
most Entries = MOST_ENTRIES

-- The nodes of an expression: each literal, name, operator, `if`, conversion and look-up.
abbrev pub nodes : Tree → ℕ
nodes (Const literal) = 1
nodes (Name name) = 1
nodes (Unary op a) = 1 + nodes a
nodes (Binary op a b) = 1 + (nodes a + nodes b)
nodes (Shift side a amount) = 1 + nodes a
nodes (If c a b) = 1 + (nodes c + (nodes a + nodes b))
nodes (Convert to a) = 1 + nodes a
nodes (Look table index) = 1 + nodes index

abbrev pub nodes_in : BehaviourTree → ℕ
nodes_in (Plain e) = nodes e
nodes_in (Input port) = 0
nodes_in (Table entries) = 0
nodes_in (Reactive init clauses) = sum_by (λ c. nodes c.expr) clauses

abbrev pub nodes_of : ProgramTree → ℕ
nodes_of p = sum_by (λ d. nodes_in d.behaviour) p.decls + sum_by (λ o. nodes o.expr) p.outputs

-- The entries of a table.
abbrev pub entries_in : BehaviourTree → ℕ
entries_in (Plain e) = 0
entries_in (Input port) = 0
entries_in (Table entries) = length entries
entries_in (Reactive init clauses) = 0

-- Conversions are to a u8 or a u16. There is no word for one to bool.
abbrev pub is_number_type : Ty → Bool
is_number_type ty.Bool = false
is_number_type ty.U8 = true
is_number_type ty.U16 = true

abbrev pub converts_to_numbers : Tree → Bool
converts_to_numbers (Const literal) = true
converts_to_numbers (Name name) = true
converts_to_numbers (Unary op a) = converts_to_numbers a
converts_to_numbers (Binary op a b) = converts_to_numbers a && converts_to_numbers b
converts_to_numbers (Shift side a amount) = converts_to_numbers a
converts_to_numbers (If c a b) = converts_to_numbers c && (converts_to_numbers a && converts_to_numbers b)
converts_to_numbers (Convert to a) = is_number_type to && converts_to_numbers a
converts_to_numbers (Look table index) = converts_to_numbers index

abbrev pub converts_in : BehaviourTree → Bool
converts_in (Plain e) = converts_to_numbers e
converts_in (Input port) = true
converts_in (Table entries) = true
converts_in (Reactive init clauses) = list_all (λ c. converts_to_numbers c.expr) clauses

-- What a call that takes a tree from outside may ask of it.
pub record CanBeWritten (p : ProgramTree) : Type 0 where
  pub events : length p.events ≤ MOST_EVENTS
  pub setups : length p.setups ≤ MOST_SETUPS
  pub decls : length p.decls ≤ MOST_DEFINITIONS
  pub outputs : length p.outputs ≤ MOST_OUTPUTS
  pub nodes : nodes_of p ≤ MOST_NODES
  pub table_entries : AllByRecursion (λ (d : DeclTree). entries_in d.behaviour ≤ MOST_ENTRIES_OF_A_TABLE) p.decls
  pub entries : sum_by (λ d. entries_in d.behaviour) p.decls ≤ MOST_ENTRIES
  pub decl_conversions : list_all (λ d. converts_in d.behaviour) p.decls ≡ true
  pub output_conversions : list_all (λ o. converts_to_numbers o.expr) p.outputs ≡ true
