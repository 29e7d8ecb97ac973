-- Definitions by name, and by what they are.
use Rattle.std.specs.Prelude.{ℕ, Bool, true, false, List, [], ◌∷◌, filter, Option, Some, None, option_and_then, if◌then◌else◌}
use Rattle.std.specs.Str.{bytes_eq}
use Rattle.frp_tree.specs.declared.syntax.Lit.{Lit}
use Rattle.frp_tree.specs.Tree.{BehaviourTree, Plain, Input, Table, Reactive, DeclTree, ProgramTree}

-- The first definition of this name.
abbrev pub decl_named : List DeclTree → List ℕ → Option DeclTree
decl_named [] name = None
decl_named (d ∷ ds) name = if bytes_eq name d.name then Some d else decl_named ds name

-- It is an expression.
abbrev pub is_plain : BehaviourTree → Bool
is_plain (Plain e) = true
is_plain (Input port) = false
is_plain (Table entries) = false
is_plain (Reactive init clauses) = false

abbrev pub is_input : BehaviourTree → Bool
is_input (Plain e) = false
is_input (Input port) = true
is_input (Table entries) = false
is_input (Reactive init clauses) = false

abbrev pub is_table : BehaviourTree → Bool
is_table (Plain e) = false
is_table (Input port) = false
is_table (Table entries) = true
is_table (Reactive init clauses) = false

-- It has a state.
abbrev pub is_reactive : BehaviourTree → Bool
is_reactive (Plain e) = false
is_reactive (Input port) = false
is_reactive (Table entries) = false
is_reactive (Reactive init clauses) = true

-- The reactive definitions and the inputs of a program, in declaration order.
abbrev pub reactive_decls : ProgramTree → List DeclTree
reactive_decls p = filter (λ d. is_reactive d.behaviour) p.decls

abbrev pub inputs_of : ProgramTree → List DeclTree
inputs_of p = filter (λ d. is_input d.behaviour) p.decls

-- The entries of a table, and those of the table of this name.
abbrev pub entries_of : BehaviourTree → Option (List Lit)
entries_of (Plain e) = None
entries_of (Input port) = None
entries_of (Table entries) = Some entries
entries_of (Reactive init clauses) = None

abbrev pub table_named : ProgramTree → List ℕ → Option (List Lit)
table_named p name = option_and_then (λ d. entries_of d.behaviour) (decl_named p.decls name)
