-- What one definition costs on an event. Functions inside the crate speak of it alone.
use Rattle.std.specs.Prelude.{ℕ, Bool, List, Option, Some, None, if◌then◌else◌}
use Rattle.frp_tree.specs.Tree.{Tree, ClauseTree, BehaviourTree, Plain, Input, Table, Reactive, DeclTree, ProgramTree}
use Rattle.efrp_meaning.specs.Needs.{clause_for, is_named_in, needed}

-- The number of an expression, where there is one.
abbrev pub of_clause : (Tree → ℕ) → Option ClauseTree → ℕ
of_clause f None = 0
of_clause f (Some c) = f c.expr

-- The numbers of what the event needs of a definition: of its clause for it; and, where it is named in what the event needs, of
-- its own expression, or of an input.
abbrev pub own_cost : (Tree → ℕ) → ℕ → List ℕ → Bool → BehaviourTree → ℕ
own_cost f input event named (Plain e) = if named then f e else 0
own_cost f input event named (Input port) = if named then input else 0
own_cost f input event named (Table entries) = 0
own_cost f input event named (Reactive init clauses) = of_clause f (clause_for event clauses)

abbrev pub decl_cost : ProgramTree → (Tree → ℕ) → ℕ → List ℕ → DeclTree → ℕ
decl_cost p f input event d = own_cost f input event (is_named_in d.name (needed p event)) d.behaviour
