-- Marks on the definitions that are named in expressions. Functions inside the crate speak of them alone.
use Rattle.std.specs.Prelude.{◌≡◌, ℕ, Bool, true, false, List, [], length, set, get_or, slice_get, Some, None}
use Rattle.std.specs.List.{flat_map}
use Rattle.frp_tree.specs.Tree.{Tree, BehaviourTree, Plain, Input, Table, Reactive, DeclTree, ProgramTree}
use Rattle.efrp_meaning.specs.Needs.{is_named_in, names_in, reacting_expression}
use Rattle.efrp_types.specs.Numbers.{decl_number}

-- A mark more: that at the number of the definition of this name.
abbrev pub with_name : ProgramTree → List Bool → List ℕ → List Bool
with_name p marked x = elim (decl_number p x) [ Some n ↦ set marked n true | None ↦ marked ]

-- The expressions of the clauses for an event.
abbrev pub clause_expressions : List ℕ → List DeclTree → List Tree
clause_expressions event decls = flat_map (λ d. reacting_expression event d.behaviour) decls

-- Marked are the definitions that are named in one of these expressions.
pub record AreNamed (p : ProgramTree) (trees : List Tree) (marked : List Bool) : Type 0 where
  pub len : length marked ≡ length p.decls
  pub marks : (n : ℕ) (d : DeclTree) → slice_get p.decls n ≡ Some d → get_or marked n false ≡ is_named_in d.name trees

-- The names in the own expression of a non-reactive definition.
abbrev pub own_names : BehaviourTree → List (List ℕ)
own_names (Plain e) = names_in e
own_names (Input port) = []
own_names (Table entries) = []
own_names (Reactive init clauses) = []
