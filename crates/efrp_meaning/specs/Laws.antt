-- What is true of the definitions, for every program.
use Rattle.std.specs.Prelude.{◌≡◌, ◌≢◌, ℕ, true, Bool, List, [], ◌++◌, filter, Option, Some}
use Rattle.std.specs.List.{AllByRecursion, list_all, list_any}
use Rattle.std.specs.Str.{bytes_eq}
use Rattle.frp_tree.specs.Tree.{Tree, DeclTree, ProgramTree}
use Rattle.efrp_meaning.specs.Decls.{decl_named, inputs_of}
use Rattle.efrp_meaning.specs.Types.{type_of_name, type_of, IsTyped}
use Rattle.efrp_meaning.specs.Needs.{IsNamedIn, first_needed, expressions_of, plain_named_in, needed_plain, needed}
use Rattle.efrp_meaning.specs.Meaning.{State, Samples, Occurrence, SerialRun, Reaction, rule_on, evaluate, value_by, value_on, depth, port_values, react, initial_state, serial}
use Rattle.efrp_meaning.specs.Causal.{DependsOn, DependsThrough, IsCausalOn, IsCausal, IsOrderOn}
use Rattle.efrp_meaning.specs.States.{HasValue, IsState, AreSamples, ArePortValues, IsOccurrence, NamesDiffer}

-- An expression that has a type has a value of it, where the names in it have values of theirs.
abbrev pub HasTypedValues : ProgramTree → Type 0
HasTypedValues p =
    (names : List ℕ → Option ℕ) (e : Tree) → IsTyped p → ((x : List ℕ) → IsNamedIn x e → HasValue (type_of_name p x) (names x))
    → HasValue (type_of p e) (evaluate p names e)

-- Where no definition depends on itself, each has a value of its type at the depth of as many as there are.
abbrev pub IsDefinedAtDepth : ProgramTree → Type 0
IsDefinedAtDepth p =
    (s : State) (j : Samples) (event x : List ℕ) → IsTyped p → IsState p s → AreSamples p j → IsCausalOn p event
    → HasValue (type_of_name p x) (value_on p s j event x (depth p))

-- The values solve the equations: each is what its definition's rule gives over the others, at whatever depth it is defined.
abbrev pub Solves : ProgramTree → Type 0
Solves p =
    (s : State) (j : Samples) (event x : List ℕ) (k n : ℕ) (d : DeclTree) → decl_named p.decls x ≡ Some d → value_on p s j event x k ≡ Some n
    → value_by p s j (λ y. value_on p s j event y k) x (rule_on event d.behaviour) ≡ Some n

-- Where each name of a list depends on one of the list, one of them depends on itself.
abbrev pub LeadsRound : ProgramTree → Type 0
LeadsRound p =
    (event : List ℕ) (names : List (List ℕ)) → names ≢ []
    → ((x : List ℕ) → list_any (bytes_eq x) names ≡ true → (y : List ℕ) × (list_any (bytes_eq y) names ≡ true) × DependsOn p event x y)
    → (x : List ℕ) × (others : List (List ℕ)) × DependsThrough p event x others x

-- Where the definitions have an order on an event, none depends on itself.
abbrev pub OrderedIsCausal : ProgramTree → Type 0
OrderedIsCausal p = (event : List ℕ) (order : List (List ℕ)) → IsOrderOn p event order → IsCausalOn p event

-- And where none depends on itself, they have one.
abbrev pub CausalIsOrdered : ProgramTree → Type 0
CausalIsOrdered p = (event : List ℕ) → IsTyped p → IsCausalOn p event → (order : List (List ℕ)) × IsOrderOn p event order

-- The port values of an event are defined, a byte for each output.
abbrev pub HasPortValues : ProgramTree → Type 0
HasPortValues p =
    (s : State) (j : Samples) (event : List ℕ) → IsTyped p → IsState p s → AreSamples p j → IsCausalOn p event
    → (values : List ℕ) × (port_values p s j event ≡ Some values) × ArePortValues p values

-- The initial state is one.
abbrev pub BeginsInAState : ProgramTree → Type 0
BeginsInAState p = IsTyped p → (s : State) × (initial_state p ≡ Some s) × IsState p s

-- From a state each event's reaction is defined; it leads to a state and has a byte for each output.
abbrev pub ReactsToAState : ProgramTree → Type 0
ReactsToAState p =
    (s : State) (j : Samples) (event : List ℕ) → IsTyped p → NamesDiffer p → IsState p s → AreSamples p j → IsCausalOn p event
    → (r : Reaction) × (react p s j event ≡ Some r) × IsState p r.state × ArePortValues p r.ports

-- So each serial run of the program's events is defined, and ends in a state.
abbrev pub RunsToAState : ProgramTree → Type 0
RunsToAState p =
    (events : List Occurrence) → IsTyped p → NamesDiffer p → IsCausal p → AllByRecursion (IsOccurrence p) events
    → (run : SerialRun) × (serial p events ≡ Some run) × IsState p run.state

-- The non-reactive definitions that an event needs are closed: those that are named in what it needs are these.
abbrev pub NeedsAreClosed : ProgramTree → Type 0
NeedsAreClosed p = (event : List ℕ) → plain_named_in p (needed p event) ≡ needed_plain p event

-- And they are the least such: all others that are closed have them.
abbrev pub NeedsAreLeast : ProgramTree → Type 0
NeedsAreLeast p =
    (event : List ℕ) (kept : DeclTree → Bool) → list_all kept (plain_named_in p (first_needed p event ++ expressions_of (filter kept p.decls))) ≡ true
    → list_all kept (needed_plain p event) ≡ true

-- A program without inputs reacts alike to all samples.
abbrev pub IgnoresSamples : ProgramTree → Type 0
IgnoresSamples p = (s : State) (j j' : Samples) (event : List ℕ) → inputs_of p ≡ [] → react p s j event ≡ react p s j' event
