-- What an event needs: expressions, definitions and inputs.
use Rattle.std.specs.Prelude.{◌≡◌, ℕ, Bool, true, ◌&&◌, nat_lt, List, [], ◌∷◌, ◌++◌, zero, suc, map, filter, find, length, Option, Some, None}
use Rattle.std.specs.List.{flat_map, list_any}
use Rattle.std.specs.Str.{bytes_eq}
use Rattle.frp_tree.specs.Tree.{Tree, Const, Name, Unary, Binary, Shift, If, Convert, Look, ClauseTree, BehaviourTree, Plain, Input, Table, Reactive, DeclTree, ProgramTree}
use Rattle.efrp_meaning.specs.Decls.{is_plain, inputs_of}

-- The names that stand in an expression, in the order of the text. That of a table that is looked up in isn't one of them.
abbrev pub names_in : Tree → List (List ℕ)
names_in (Const literal) = []
names_in (Name name) = name ∷ []
names_in (Unary op a) = names_in a
names_in (Binary op a b) = names_in a ++ names_in b
names_in (Shift side a amount) = names_in a
names_in (If c a b) = names_in c ++ (names_in a ++ names_in b)
names_in (Convert to a) = names_in a
names_in (Look table index) = names_in index

-- The name stands in the expression.
abbrev pub IsNamedIn : List ℕ → Tree → Type 0
IsNamedIn name e = list_any (bytes_eq name) (names_in e) ≡ true

-- The name stands in one of the expressions.
abbrev pub is_named_in : List ℕ → List Tree → Bool
is_named_in name trees = list_any (λ tree. list_any (bytes_eq name) (names_in tree)) trees

-- The clause for an event: the first one.
abbrev pub clause_for : List ℕ → List ClauseTree → Option ClauseTree
clause_for event clauses = find (λ c. bytes_eq event c.event) clauses

-- The expression of a definition's clause for an event, where there is one.
abbrev pub expression_of : Option ClauseTree → List Tree
expression_of None = []
expression_of (Some c) = c.expr ∷ []

abbrev pub reacting_expression : List ℕ → BehaviourTree → List Tree
reacting_expression event (Plain e) = []
reacting_expression event (Input port) = []
reacting_expression event (Table entries) = []
reacting_expression event (Reactive init clauses) = expression_of (clause_for event clauses)

-- The expression of a non-reactive definition.
abbrev pub plain_expression : BehaviourTree → List Tree
plain_expression (Plain e) = e ∷ []
plain_expression (Input port) = []
plain_expression (Table entries) = []
plain_expression (Reactive init clauses) = []

-- The definitions that react to an event: those with a clause for it.
abbrev pub reacting : ProgramTree → List ℕ → List DeclTree
reacting p event = filter (λ d. nat_lt 0 (length (reacting_expression event d.behaviour))) p.decls

-- What an event needs at first: the expression of each clause for it, and that of each output.
abbrev pub first_needed : ProgramTree → List ℕ → List Tree
first_needed p event = flat_map (λ d. reacting_expression event d.behaviour) p.decls ++ map (λ o. o.expr) p.outputs

-- The non-reactive definitions that are named in one of the expressions.
abbrev pub plain_named_in : ProgramTree → List Tree → List DeclTree
plain_named_in p trees = filter (λ d. is_plain d.behaviour && is_named_in d.name trees) p.decls

-- The expressions of definitions.
abbrev pub expressions_of : List DeclTree → List Tree
expressions_of decls = flat_map (λ d. plain_expression d.behaviour) decls

-- The non-reactive definitions that the expressions lead to in at most this many turns.
abbrev pub plain_reached : ℕ → ProgramTree → List Tree → List DeclTree
plain_reached zero p trees = []
plain_reached (suc turns) p trees = plain_named_in p (trees ++ expressions_of (plain_reached turns p trees))

-- The non-reactive definitions that an event needs: those that the expressions at first lead to. As many turns as there are
-- definitions reach them all.
abbrev pub needed_plain : ProgramTree → List ℕ → List DeclTree
needed_plain p event = plain_reached (length p.decls) p (first_needed p event)

-- The expressions that an event needs: those at first, and that of each non-reactive definition that is named in one of them,
-- each once.
abbrev pub needed : ProgramTree → List ℕ → List Tree
needed p event = first_needed p event ++ expressions_of (needed_plain p event)

-- The names of the inputs that an event needs, in declaration order: those that are named in an expression that it needs.
abbrev pub inputs_needed : ProgramTree → List ℕ → List (List ℕ)
inputs_needed p event = map (λ d. d.name) (filter (λ d. is_named_in d.name (needed p event)) (inputs_of p))
