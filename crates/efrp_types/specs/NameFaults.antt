-- The faults of a program's names, in the order in which they are met: a walk over all items, and a second one over the
-- expressions.
use Rattle.std.specs.Prelude.{ℕ, Bool, true, false, ◌&&◌, ◌||◌, not, nat_le, List, [], ◌∷◌, ◌++◌, Option, Some, None}
use Rattle.std.specs.List.{flat_map, list_any}
use Rattle.std.specs.Str.{bytes_eq}
use Rattle.frp_tree.specs.declared.syntax.Event.{Event}
use Rattle.frp_tree.specs.declared.syntax.Setup.{Setup}
use Rattle.frp_tree.specs.Tree.{Tree, Const, Name, Unary, Binary, Shift, If, Convert, Look, ClauseTree, BehaviourTree, Plain, Input, Table, Reactive, DeclTree, OutputTree, ProgramTree}
use Rattle.efrp_meaning.specs.Decls.{decl_named, is_table}
use Rattle.pic_isa.specs.Sources.{sources, source_name}
use Rattle.pic_isa.specs.Names.{register_at, port_at}
use Rattle.efrp_types.specs.declared.faults.CheckFault.{CheckFault}
use Rattle.efrp_types.specs.declared.faults.CheckFault.TheVariants.{Twice, UnknownSource, SourceTwice, BadPriority, BadRegister, OutputTwice, UnknownEvent, ClauseTwice, UnknownName, TableUse}

-- A fault, where a test holds.
abbrev pub fault_if : Bool → CheckFault → List CheckFault
fault_if true fault = fault ∷ []
fault_if false fault = []

-- The faults of each item in a row, given those before it.
abbrev pub each_after : {A : Type 0} → (List A → A → List CheckFault) → List A → List A → List CheckFault
each_after faults before [] = []
each_after faults before (x ∷ xs) = faults before x ++ each_after faults (before ++ x ∷ []) xs

abbrev pub is_none : Option ℕ → Bool
is_none None = true
is_none (Some n) = false

abbrev pub is_source : List ℕ → Bool
is_source name = list_any (λ source. bytes_eq name (source_name source)) sources

abbrev pub is_event : List Event → List ℕ → Bool
is_event events name = list_any (λ (e : Event). bytes_eq name e.name) events

abbrev pub is_decl : List DeclTree → List ℕ → Bool
is_decl decls name = list_any (λ (d : DeclTree). bytes_eq name d.name) decls

-- The first walk: an event, a setup, a definition, an output. Events and definitions share one space of names.
abbrev pub event_faults : List Event → Event → List CheckFault
event_faults before e =
    fault_if (is_event before e.name) (Twice e.name)
    ++ (fault_if (not (is_source e.source)) (UnknownSource e.source)
    ++ (fault_if (list_any (λ (b : Event). bytes_eq e.source b.source) before) (SourceTwice e.source)
    ++ fault_if (not (nat_le 1 e.priority && nat_le e.priority 11)) (BadPriority e.name e.priority)))

abbrev pub setup_faults : Setup → List CheckFault
setup_faults s = fault_if (is_none (register_at s.register)) (BadRegister s.register)

abbrev pub port_faults : List ℕ → List CheckFault
port_faults port = fault_if (is_none (port_at port)) (BadRegister port)

abbrev pub input_faults : BehaviourTree → List CheckFault
input_faults (Plain e) = []
input_faults (Input port) = port_faults port
input_faults (Table entries) = []
input_faults (Reactive init clauses) = []

abbrev pub decl_faults : List Event → List DeclTree → DeclTree → List CheckFault
decl_faults events before d = fault_if (is_event events d.name || is_decl before d.name) (Twice d.name) ++ input_faults d.behaviour

abbrev pub output_faults : List OutputTree → OutputTree → List CheckFault
output_faults before o = port_faults o.port ++ fault_if (list_any (λ (b : OutputTree). bytes_eq o.port b.port) before) (OutputTwice o.port)

abbrev pub item_faults : ProgramTree → List CheckFault
item_faults p =
    each_after event_faults [] p.events
    ++ (flat_map setup_faults p.setups ++ (each_after (decl_faults p.events) [] p.decls ++ each_after output_faults [] p.outputs))

-- A name that stands by itself, and one that is indexed: it is no definition's; or it is a table's, or isn't.
abbrev pub name_fault : ProgramTree → List ℕ → List CheckFault
name_fault p x = elim (decl_named p.decls x) [ Some d ↦ fault_if (is_table d.behaviour) (TableUse x) | None ↦ UnknownName x ∷ [] ]

abbrev pub index_fault : ProgramTree → List ℕ → List CheckFault
index_fault p x = elim (decl_named p.decls x) [ Some d ↦ fault_if (not (is_table d.behaviour)) (TableUse x) | None ↦ UnknownName x ∷ [] ]

-- The names of an expression, in the order of the text.
abbrev pub use_faults : ProgramTree → Tree → List CheckFault
use_faults p (Const literal) = []
use_faults p (Name x) = name_fault p x
use_faults p (Unary op a) = use_faults p a
use_faults p (Binary op a b) = use_faults p a ++ use_faults p b
use_faults p (Shift side a amount) = use_faults p a
use_faults p (If c a b) = use_faults p c ++ (use_faults p a ++ use_faults p b)
use_faults p (Convert to a) = use_faults p a
use_faults p (Look table index) = index_fault p table ++ use_faults p index

-- The second walk: a clause, with those before it, of a definition of this name, of which its event comes first; a definition.
abbrev pub clause_event_faults : ProgramTree → List ℕ → List ClauseTree → ClauseTree → List CheckFault
clause_event_faults p owner before c =
    fault_if (not (is_event p.events c.event)) (UnknownEvent c.event)
    ++ fault_if (list_any (λ (b : ClauseTree). bytes_eq c.event b.event) before) (ClauseTwice owner c.event)

abbrev pub clause_faults : ProgramTree → List ℕ → List ClauseTree → ClauseTree → List CheckFault
clause_faults p owner before c = clause_event_faults p owner before c ++ use_faults p c.expr

abbrev pub behaviour_faults : ProgramTree → List ℕ → BehaviourTree → List CheckFault
behaviour_faults p owner (Plain e) = use_faults p e
behaviour_faults p owner (Input port) = []
behaviour_faults p owner (Table entries) = []
behaviour_faults p owner (Reactive init clauses) = each_after (clause_faults p owner) [] clauses

abbrev pub expression_faults : ProgramTree → List CheckFault
expression_faults p = flat_map (λ (d : DeclTree). behaviour_faults p d.name d.behaviour) p.decls ++ flat_map (λ (o : OutputTree). use_faults p o.expr) p.outputs

-- All faults of names. The check tells the first.
abbrev pub name_faults : ProgramTree → List CheckFault
name_faults p = item_faults p ++ expression_faults p
