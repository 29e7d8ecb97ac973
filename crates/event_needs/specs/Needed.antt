-- Which definitions an event needs, for each of a program's, in declaration order.
use Rattle.std.specs.Prelude.{ℕ, Bool, List, map, Option, None}
use Rattle.std.specs.List.{list_any}
use Rattle.std.specs.Str.{bytes_eq}
use Rattle.frp_tree.specs.Tree.{ClauseTree, BehaviourTree, Plain, Input, Table, Reactive, DeclTree, ProgramTree}
use Rattle.efrp_meaning.specs.Needs.{clause_for, is_named_in, needed, needed_plain}

-- A definition is one of the non-reactive ones whose own expressions an event needs beside those of clauses and outputs.
abbrev pub is_needed : ProgramTree → List ℕ → DeclTree → Bool
is_needed p event d = list_any (λ k. bytes_eq d.name k.name) (needed_plain p event)

-- Whether it is, for each definition.
abbrev pub needed_on : ProgramTree → List ℕ → List Bool
needed_on p event = map (is_needed p event) p.decls

-- For each definition, whether it is named in an expression that an event needs.
abbrev pub named_on : ProgramTree → List ℕ → List Bool
named_on p event = map (λ d. is_named_in d.name (needed p event)) p.decls

-- The clause of a definition for an event, where it reacts to it.
abbrev pub reacting_clause : List ℕ → BehaviourTree → Option ClauseTree
reacting_clause event (Plain e) = None
reacting_clause event (Input port) = None
reacting_clause event (Table entries) = None
reacting_clause event (Reactive init clauses) = clause_for event clauses
