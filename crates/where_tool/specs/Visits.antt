-- The walk of the checks over a program: its parts in the order in which they are looked at, each with the faults that it has
-- there. What a fault is, the checks say; here stands at which part it is met.
use Rattle.std.specs.Prelude.{ℕ, ◌+◌, Bool, true, false, List, [], ◌∷◌, ◌++◌, Option, Some, None, if◌then◌else◌}
use Rattle.frp_tree.specs.declared.syntax.Ty.{Ty}
use Rattle.frp_tree.specs.declared.syntax.Ty.TheVariants.{U8}
use Rattle.frp_tree.specs.declared.syntax.Ty.TheVariants as ty
use Rattle.frp_tree.specs.declared.syntax.Lit.{Lit}
use Rattle.frp_tree.specs.declared.syntax.Event.{Event}
use Rattle.frp_tree.specs.declared.syntax.Setup.{Setup}
use Rattle.frp_tree.specs.Limits.{nodes}
use Rattle.frp_tree.specs.Tree.{Tree, Const, Name, Unary, Binary, Shift, If, Convert, Look, ClauseTree, BehaviourTree, Plain, Input, Table, Reactive, DeclTree, OutputTree, ProgramTree}
use Rattle.efrp_meaning.specs.Types.{type_of}
use Rattle.efrp_types.specs.declared.faults.CheckFault.{CheckFault}
use Rattle.efrp_types.specs.NameFaults.{event_faults, setup_faults, decl_faults, output_faults, name_fault, index_fault, clause_event_faults}
use Rattle.efrp_types.specs.TypeFaults.{unlike, unary_faults, binary_faults, shift_faults, convert_faults, node_of_one, node_of_two, node_of_three, faults_in, literal_faults, setup_byte_faults}
use Rattle.where_tool.specs.declared.parts.Host.{Host}
use Rattle.where_tool.specs.declared.parts.Host.TheVariants as host
use Rattle.where_tool.specs.declared.parts.Part.{Part}
use Rattle.where_tool.specs.declared.parts.Part.TheVariants as part

-- A part that the walk comes to, and its faults.
pub record Visit : Type 0 where
  pub part : Part
  pub faults : List CheckFault

abbrev pub visit : Part → List CheckFault → List Visit
visit part faults = record { part = part; faults = faults } ∷ []

-- Of each item in a row, given its number and those before it.
abbrev pub each_visited : {A : Type 0} → (ℕ → List A → A → List Visit) → ℕ → List A → List A → List Visit
each_visited visits n before [] = []
each_visited visits n before (x ∷ xs) = visits n before x ++ each_visited visits (n + 1) (before ++ x ∷ []) xs

-- The first walk over names: events, setups, definitions, outputs.
abbrev pub event_visits : ℕ → List Event → Event → List Visit
event_visits n before e = visit (part.Event n) (event_faults before e)

abbrev pub setup_visits : ℕ → List Setup → Setup → List Visit
setup_visits n before s = visit (part.Setup n) (setup_faults s)

abbrev pub decl_visits : List Event → ℕ → List DeclTree → DeclTree → List Visit
decl_visits events n before d = visit (part.Decl n) (decl_faults events before d)

abbrev pub output_visits : ℕ → List OutputTree → OutputTree → List Visit
output_visits n before o = visit (part.Output n) (output_faults before o)

abbrev pub item_visits : ProgramTree → List Visit
item_visits p =
    each_visited event_visits 0 [] p.events
    ++ (each_visited setup_visits 0 [] p.setups ++ (each_visited (decl_visits p.events) 0 [] p.decls ++ each_visited output_visits 0 [] p.outputs))

-- The names of an expression whose first node has this number. The nodes of an expression are numbered in the order of the
-- text: an operator with two operands stands between them, and a shift behind its operand.
abbrev pub use_visits : ProgramTree → Host → ℕ → Tree → List Visit
use_visits p h n (Const literal) = []
use_visits p h n (Name x) = visit (part.Node h n) (name_fault p x)
use_visits p h n (Unary op a) = use_visits p h (n + 1) a
use_visits p h n (Binary op a b) = use_visits p h n a ++ use_visits p h (n + nodes a + 1) b
use_visits p h n (Shift side a amount) = use_visits p h n a
use_visits p h n (If c a b) = use_visits p h (n + 1) c ++ (use_visits p h (n + 1 + nodes c) a ++ use_visits p h (n + 1 + nodes c + nodes a) b)
use_visits p h n (Convert to a) = use_visits p h (n + 1) a
use_visits p h n (Look table index) = visit (part.Node h n) (index_fault p table) ++ use_visits p h (n + 1) index

-- The second walk over names: of each clause its event and then its expression; the expressions of definitions, and of outputs.
abbrev pub clause_visits : ProgramTree → List ℕ → ℕ → ℕ → List ClauseTree → ClauseTree → List Visit
clause_visits p owner decl n before c = visit (part.Clause decl n) (clause_event_faults p owner before c) ++ use_visits p (host.Clause decl n) 0 c.expr

abbrev pub behaviour_visits : ProgramTree → List ℕ → ℕ → BehaviourTree → List Visit
behaviour_visits p owner decl (Plain e) = use_visits p (host.Decl decl) 0 e
behaviour_visits p owner decl (Input port) = []
behaviour_visits p owner decl (Table entries) = []
behaviour_visits p owner decl (Reactive init clauses) = each_visited (clause_visits p owner decl) 0 [] clauses

abbrev pub expression_visits : ProgramTree → List Visit
expression_visits p =
    each_visited (λ n before (d : DeclTree). behaviour_visits p d.name n d.behaviour) 0 [] p.decls
    ++ each_visited (λ n before (o : OutputTree). use_visits p (host.Output n) 0 o.expr) 0 [] p.outputs

abbrev pub name_visits : ProgramTree → List Visit
name_visits p = item_visits p ++ expression_visits p

-- The types of an expression of this owner whose first node has this number: the operands from left to right, then the node.
abbrev pub type_visits : ProgramTree → List ℕ → Host → ℕ → Tree → List Visit
type_visits p owner h n (Const literal) = visit (part.Node h n) (faults_in p owner (Const literal))
type_visits p owner h n (Name x) = []
type_visits p owner h n (Unary op a) = type_visits p owner h (n + 1) a ++ visit (part.Node h n) (node_of_one (unary_faults owner op) (type_of p a))
type_visits p owner h n (Binary op a b) =
    type_visits p owner h n a
    ++ (type_visits p owner h (n + nodes a + 1) b ++ visit (part.Node h (n + nodes a)) (node_of_two (binary_faults owner op) (type_of p a) (type_of p b)))
type_visits p owner h n (Shift side a amount) = type_visits p owner h n a ++ visit (part.Node h (n + nodes a)) (node_of_one (shift_faults owner amount) (type_of p a))
type_visits p owner h n (If c a b) =
    type_visits p owner h (n + 1) c
    ++ (type_visits p owner h (n + 1 + nodes c) a
    ++ (type_visits p owner h (n + 1 + nodes c + nodes a) b
    ++ visit (part.Node h n) (node_of_three (λ tc ta tb. unlike owner ty.Bool tc ++ unlike owner ta tb) (type_of p c) (type_of p a) (type_of p b))))
type_visits p owner h n (Convert to a) = type_visits p owner h (n + 1) a ++ visit (part.Node h n) (node_of_one (convert_faults owner to) (type_of p a))
type_visits p owner h n (Look table index) = type_visits p owner h (n + 1) index ++ visit (part.Node h n) (node_of_one (unlike owner U8) (type_of p index))

-- The number of an expression's own node, where its first one has 0.
abbrev pub root : Tree → ℕ
root (Binary op a b) = nodes a
root (Shift side a amount) = nodes a
root _ = 0

-- An expression of which this type is wanted: its own node is looked at once more.
abbrev pub typed_visits : ProgramTree → List ℕ → Host → Ty → Tree → List Visit
typed_visits p owner h wanted e = type_visits p owner h 0 e ++ visit (part.Node h (root e)) (node_of_one (unlike owner wanted) (type_of p e))

-- The walk over types: setups, definitions, outputs.
abbrev pub setup_byte_visits : ℕ → List Setup → Setup → List Visit
setup_byte_visits n before s = visit (part.Setup n) (setup_byte_faults s)

abbrev pub entry_visits : ProgramTree → List ℕ → Ty → ℕ → ℕ → List Lit → Lit → List Visit
entry_visits p owner t decl n before l = visit (part.Entry decl n) (literal_faults p owner t l)

abbrev pub typed_clause_visits : ProgramTree → List ℕ → Ty → ℕ → ℕ → List ClauseTree → ClauseTree → List Visit
typed_clause_visits p owner t decl n before c = typed_visits p owner (host.Clause decl n) t c.expr

abbrev pub behaviour_type_visits : ProgramTree → List ℕ → Ty → ℕ → BehaviourTree → List Visit
behaviour_type_visits p owner t decl (Plain e) = typed_visits p owner (host.Decl decl) t e
behaviour_type_visits p owner t decl (Input port) = visit (part.Decl decl) (unlike owner t U8)
behaviour_type_visits p owner t decl (Table entries) = each_visited (entry_visits p owner t decl) 0 [] entries
behaviour_type_visits p owner t decl (Reactive init clauses) = visit (part.Decl decl) (literal_faults p owner t init) ++ each_visited (typed_clause_visits p owner t decl) 0 [] clauses

abbrev pub types_visits : ProgramTree → List Visit
types_visits p =
    each_visited setup_byte_visits 0 [] p.setups
    ++ (each_visited (λ n before (d : DeclTree). behaviour_type_visits p d.name d.ty n d.behaviour) 0 [] p.decls
    ++ each_visited (λ n before (o : OutputTree). typed_visits p o.port (host.Output n) U8 o.expr) 0 [] p.outputs)

-- All of it: names, and then types.
abbrev pub check_visits : ProgramTree → List Visit
check_visits p = name_visits p ++ types_visits p

-- The first part that has a fault.
abbrev pub has_fault : List CheckFault → Bool
has_fault [] = false
has_fault (fault ∷ faults) = true

unfoldable pub first_part : List Visit → Option Part
first_part [] = None
first_part (v ∷ vs) = if has_fault v.faults then Some v.part else first_part vs
