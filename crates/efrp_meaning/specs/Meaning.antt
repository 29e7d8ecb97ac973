-- Values on an event, reactions and serial runs.
use Rattle.std.specs.Prelude.{ℕ, zero, suc, if◌then◌else◌, List, [], ◌∷◌, ◌++◌, length, map, fold, flat_map, Option, Some, None, option_map, option_and_then}
use Rattle.std.specs.Str.{bytes_eq}
use Rattle.frp_tree.specs.Tree.{Tree, Const, Name, Unary, Binary, Shift, If, Convert, Look, ClauseTree, BehaviourTree, Plain, Input, Table, Reactive, DeclTree, ProgramTree}
use Rattle.efrp_meaning.specs.Decls.{decl_named, reactive_decls, inputs_of, table_named}
use Rattle.efrp_meaning.specs.Types.{type_of}
use Rattle.efrp_meaning.specs.Needs.{clause_for}
use Rattle.efrp_meaning.specs.Values.{modulus, literal_number, unary_value, binary_value, shift_value, if_value, convert_value, number_at}

-- What is undefined is None. A function of two or three values is undefined where one of them is.
abbrev pub map_two : {A B C : Type 0} → (A → B → C) → Option A → Option B → Option C
map_two f (Some a) (Some b) = Some (f a b)
map_two f _ _ = None

abbrev pub map_three : {A B C D : Type 0} → (A → B → C → D) → Option A → Option B → Option C → Option D
map_three f (Some a) (Some b) (Some c) = Some (f a b c)
map_three f _ _ _ = None

-- The list of the values, where all are defined.
abbrev pub all_defined : List (Option ℕ) → Option (List ℕ)
all_defined [] = Some []
all_defined (o ∷ os) = map_two (λ n ns. n ∷ ns) o (all_defined os)

-- A state has a value for each reactive definition, in declaration order.
abbrev pub State : Type 0
State = List ℕ

-- Samples have a byte for each input, in declaration order: what its port reads.
abbrev pub Samples : Type 0
Samples = List ℕ

-- The value in a list that stands at the place of the definition of this name.
abbrev pub value_at : List DeclTree → List ℕ → List ℕ → Option ℕ
value_at (d ∷ ds) (n ∷ ns) x = if bytes_eq x d.name then Some n else value_at ds ns x
value_at _ _ x = None

-- The old state of the reactive definition x.
abbrev pub old_state : ProgramTree → State → List ℕ → Option ℕ
old_state p s x = value_at (reactive_decls p) s x

-- What the input x reads.
abbrev pub sample_of : ProgramTree → Samples → List ℕ → Option ℕ
sample_of p j x = value_at (inputs_of p) j x

-- What a definition does on an event: it always is an expression, it is sampled, it is a table and has no value, it becomes an
-- expression now, or later, or it stays as it is.
pub data Rule : Type 0 where
  Always : Tree → Rule
  Sampled : Rule
  Tabled : Rule
  Now : Tree → Rule
  Later : Tree → Rule
  Stays : Rule

-- By the clause for the event, where there is one.
abbrev pub clause_rule : Option ClauseTree → Rule
clause_rule None = Stays
clause_rule (Some c) = if c.later then Later c.expr else Now c.expr

-- A non-reactive definition always is its expression. A reactive one goes by its clause for the event.
abbrev pub rule_on : List ℕ → BehaviourTree → Rule
rule_on event (Plain e) = Always e
rule_on event (Input port) = Sampled
rule_on event (Table entries) = Tabled
rule_on event (Reactive init clauses) = clause_rule (clause_for event clauses)

-- How many values the type of an expression has.
abbrev pub modulus_of : ProgramTree → Tree → Option ℕ
modulus_of p e = option_map modulus (type_of p e)

-- The number of the entry with this number of the table of this name, or of its last entry.
abbrev pub look_value : ProgramTree → List ℕ → ℕ → Option ℕ
look_value p table i = option_and_then (λ entries. number_at entries i) (table_named p table)

-- The value of an expression by those of its names. It is undefined where that of an operand is.
abbrev pub evaluate : ProgramTree → (List ℕ → Option ℕ) → Tree → Option ℕ
evaluate p names (Const literal) = literal_number literal
evaluate p names (Name x) = names x
evaluate p names (Unary op a) = map_two (unary_value op) (modulus_of p a) (evaluate p names a)
evaluate p names (Binary op a b) = map_three (binary_value op) (modulus_of p a) (evaluate p names a) (evaluate p names b)
evaluate p names (Shift side a amount) = map_two (shift_value side amount) (modulus_of p a) (evaluate p names a)
evaluate p names (If c a b) = map_three if_value (evaluate p names c) (evaluate p names a) (evaluate p names b)
evaluate p names (Convert to a) = option_map (convert_value to) (evaluate p names a)
evaluate p names (Look table index) = option_and_then (look_value p table) (evaluate p names index)

-- What a name stands for in an expression: the own name of a definition for its old state, and every other name for
-- its definition's value on the event.
abbrev pub stands_for : ProgramTree → State → (List ℕ → Option ℕ) → Option (List ℕ) → List ℕ → Option ℕ
stands_for p s values None x = values x
stands_for p s values (Some own) x = (if bytes_eq own x then old_state p s else values) x

-- The value of the definition x by its rule, where `values` has those of the others.
abbrev pub value_by : ProgramTree → State → Samples → (List ℕ → Option ℕ) → List ℕ → Rule → Option ℕ
value_by p s j values x (Always e) = evaluate p (stands_for p s values None) e
value_by p s j values x Sampled = sample_of p j x
value_by p s j values x Tabled = None
value_by p s j values x (Now e) = evaluate p (stands_for p s values (Some x)) e
value_by p s j values x (Later e) = old_state p s x
value_by p s j values x Stays = old_state p s x

-- The value of the definition x on an event from a state with these samples, found at most k definitions deep.
abbrev pub value_on : ProgramTree → State → Samples → List ℕ → List ℕ → ℕ → Option ℕ
value_on p s j event x zero = None
value_on p s j event x (suc k) =
    option_and_then (λ d. value_by p s j (λ y. value_on p s j event y k) x (rule_on event d.behaviour)) (decl_named p.decls x)

-- The value of an expression on an event from a state with these samples, its names' values being found at most k
-- definitions deep.
abbrev pub expression_on : ProgramTree → State → Samples → List ℕ → Tree → Option (List ℕ) → ℕ → Option ℕ
expression_on p s j event e own k = evaluate p (stands_for p s (λ y. value_on p s j event y k) own) e

-- Where no definition depends on itself, as many as there are is deep enough for each.
abbrev pub depth : ProgramTree → ℕ
depth p = length p.decls

-- The new state of the definition x by its rule. One that isn't reactive has none.
abbrev pub new_state_by : ProgramTree → State → Samples → List ℕ → List ℕ → Rule → List (Option ℕ)
new_state_by p s j event x (Always e) = []
new_state_by p s j event x Sampled = []
new_state_by p s j event x Tabled = []
new_state_by p s j event x (Now e) = value_on p s j event x (depth p) ∷ []
new_state_by p s j event x (Later e) = expression_on p s j event e (Some x) (depth p) ∷ []
new_state_by p s j event x Stays = old_state p s x ∷ []

-- The new state of the program, where each of its values is defined.
abbrev pub new_state : ProgramTree → State → Samples → List ℕ → Option State
new_state p s j event = all_defined (flat_map (λ d. new_state_by p s j event d.name (rule_on event d.behaviour)) p.decls)

-- The values of the outputs, in order.
abbrev pub port_values : ProgramTree → State → Samples → List ℕ → Option (List ℕ)
port_values p s j event = all_defined (map (λ o. expression_on p s j event o.expr None (depth p)) p.outputs)

-- The reaction to an event from a state with these samples: the new state and the port values. It is undefined where one of
-- these is.
pub record Reaction : Type 0 where
  pub state : State
  pub ports : List ℕ

abbrev pub react : ProgramTree → State → Samples → List ℕ → Option Reaction
react p s j event = map_two (λ new values. record { state = new; ports = values }) (new_state p s j event) (port_values p s j event)

abbrev pub first_state_of : BehaviourTree → List (Option ℕ)
first_state_of (Plain e) = []
first_state_of (Input port) = []
first_state_of (Table entries) = []
first_state_of (Reactive init clauses) = literal_number init ∷ []

-- Each reactive definition begins with its `init` constant.
abbrev pub initial_state : ProgramTree → Option State
initial_state p = all_defined (flat_map (λ d. first_state_of d.behaviour) p.decls)

-- An event that occurs, and what the inputs read then.
pub record Occurrence : Type 0 where
  pub event : List ℕ
  pub samples : Samples

-- A run of reactions one after the other: the last state, and the port values of each reaction, in order.
pub record SerialRun : Type 0 where
  pub state : State
  pub ports : List (List ℕ)

abbrev pub add_reaction : SerialRun → Reaction → SerialRun
add_reaction run r = record { state = r.state; ports = run.ports ++ r.ports ∷ [] }

-- A run, and then the reaction to one more event.
abbrev pub and_then_on : ProgramTree → Option SerialRun → Occurrence → Option SerialRun
and_then_on p run next = option_and_then (λ r. option_map (add_reaction r) (react p r.state next.samples next.event)) run

-- The serial run of these events with their samples: it begins in the initial state, and each reaction goes on from the state
-- before. It is undefined where one reaction is.
abbrev pub serial : ProgramTree → List Occurrence → Option SerialRun
serial p events = fold (and_then_on p) (option_map (λ s. record { state = s; ports = [] }) (initial_state p)) events

abbrev pub state_after : ProgramTree → List Occurrence → Option State
state_after p events = option_map (λ run. run.state) (serial p events)

abbrev pub ports_after : ProgramTree → List Occurrence → Option (List (List ℕ))
ports_after p events = option_map (λ run. run.ports) (serial p events)
