-- The faults of small programs, computed: each list is whole, and the check tells its first.
use Rattle.std.specs.Prelude.{◌≡◌, ℕ, true, List, [], ◌∷◌, codes, refl}
use Rattle.frp_tree.specs.declared.syntax.Ty.TheVariants.{U8, U16, Bool}
use Rattle.frp_tree.specs.declared.syntax.Lit.TheVariants as lit
use Rattle.frp_tree.specs.declared.syntax.BinOp.TheVariants.{And, Add}
use Rattle.frp_tree.specs.declared.syntax.Side.TheVariants.{Left}
use Rattle.frp_tree.specs.declared.syntax.Event.{Event}
use Rattle.frp_tree.specs.Tree.{Tree, Const, Name, Binary, Shift, If, Look, Input, DeclTree, OutputTree, ProgramTree}
use Rattle.efrp_meaning.proofs.Examples.Programs.{event, setup, clause, reactive, plain, input, table, output, small, wide, counter, cycle}
use Rattle.efrp_types.specs.declared.faults.CheckFault.TheVariants.{Twice, UnknownSource, SourceTwice, BadPriority, BadRegister, OutputTwice, UnknownEvent, ClauseTwice, UnknownName, TableUse, LiteralRange, BadShift, TypeOf}
use Rattle.efrp_types.specs.NameFaults.{name_faults}
use Rattle.efrp_types.specs.TypeFaults.{type_faults}
use Rattle.efrp_types.specs.Passes.{IsChecked}

abbrev of_events : List Event → ProgramTree
of_events its_events = record { events = its_events; setups = []; decls = []; outputs = [] }

abbrev of_decls : List DeclTree → ProgramTree
of_decls its_decls = record { events = []; setups = []; decls = its_decls; outputs = [] }

abbrev of_outputs : List DeclTree → List OutputTree → ProgramTree
of_outputs its_decls its_outputs = record { events = []; setups = []; decls = its_decls; outputs = its_outputs }

abbrev n : List ℕ
n = codes "n"

abbrev m : List ℕ
m = codes "m"

abbrev a : List ℕ
a = codes "A"

abbrev truth : Tree
truth = Binary And (Const (lit.Truth true)) (Const (lit.Truth true))

-- A counter has no fault; nor has an empty program, or one with a cycle.
pub counter_is_checked : IsChecked counter
counter_is_checked = record { names = refl; types = refl }

pub nothing_is_checked : IsChecked (of_decls [])
nothing_is_checked = record { names = refl; types = refl }

pub cycle_is_checked : IsChecked cycle
cycle_is_checked = record { names = refl; types = refl }

-- Events: a priority above 11, and 0; no source; one source twice; one name twice.
pub priority_12 : name_faults (of_events (event a (codes "INT") 12 ∷ [])) ≡ BadPriority a 12 ∷ []
priority_12 = refl

pub priority_0 : name_faults (of_events (event a (codes "INT") 0 ∷ [])) ≡ BadPriority a 0 ∷ []
priority_0 = refl

pub no_source : name_faults (of_events (event a (codes "RB") 1 ∷ [])) ≡ UnknownSource (codes "RB") ∷ []
no_source = refl

pub source_twice : name_faults (of_events (event a (codes "INT") 1 ∷ event (codes "B") (codes "INT") 2 ∷ [])) ≡ SourceTwice (codes "INT") ∷ []
source_twice = refl

-- A source that there isn't, given twice, is unknown first; and an event's four faults stand in this order.
pub four_faults : name_faults (of_events (event a (codes "RB") 1 ∷ event a (codes "RB") 12 ∷ []))
    ≡ UnknownSource (codes "RB") ∷ Twice a ∷ UnknownSource (codes "RB") ∷ SourceTwice (codes "RB") ∷ BadPriority a 12 ∷ []
four_faults = refl

-- A setup of no register, and an input and an output of no port.
pub no_register : name_faults (record counter { setups = setup (codes "PCL") 0 ∷ [] }) ≡ BadRegister (codes "PCL") ∷ []
no_register = refl

pub no_input_port : name_faults (of_decls (input n (codes "TRISB") ∷ [])) ≡ BadRegister (codes "TRISB") ∷ []
no_input_port = refl

pub no_output_port : name_faults (of_outputs [] (output (codes "TRISB") (small 1) ∷ [])) ≡ BadRegister (codes "TRISB") ∷ []
no_output_port = refl

pub port_twice : name_faults (of_outputs [] (output (codes "PORTB") (small 1) ∷ output (codes "PORTB") (small 2) ∷ [])) ≡ OutputTwice (codes "PORTB") ∷ []
port_twice = refl

-- A definition of an event's name; a clause for no event, and two for one.
pub name_of_event : name_faults (record counter { decls = plain (codes "Tick") U8 (small 1) ∷ []; outputs = [] }) ≡ Twice (codes "Tick") ∷ []
name_of_event = refl

pub no_event : name_faults (of_decls (reactive n U8 (lit.Plain 0) (clause a (small 1) ∷ []) ∷ [])) ≡ UnknownEvent a ∷ []
no_event = refl

pub clause_twice : name_faults (record (of_decls (reactive n U8 (lit.Plain 0) (clause a (small 1) ∷ clause a (small 2) ∷ []) ∷ [])) { events = event a (codes "INT") 1 ∷ [] })
    ≡ ClauseTwice n a ∷ []
clause_twice = refl

-- A name that no definition has, an event's name among them; a table's name without an index, and one that isn't a table's with it.
pub no_definition : name_faults (of_decls (plain n U8 (Name m) ∷ [])) ≡ UnknownName m ∷ []
no_definition = refl

pub event_is_no_definition : name_faults (record counter { outputs = output (codes "PORTB") (Name (codes "Tick")) ∷ [] }) ≡ UnknownName (codes "Tick") ∷ []
event_is_no_definition = refl

abbrev one_table : DeclTree
one_table = table m U8 (lit.Plain 3 ∷ [])

pub table_without_index : name_faults (of_decls (one_table ∷ plain n U8 (Name m) ∷ [])) ≡ TableUse m ∷ []
table_without_index = refl

pub index_without_table : name_faults (of_decls (plain m U8 (small 1) ∷ plain n U8 (Look m (small 0)) ∷ [])) ≡ TableUse m ∷ []
index_without_table = refl

pub table_with_index : IsChecked (of_decls (one_table ∷ plain n U8 (Look m (small 0)) ∷ []))
table_with_index = record { names = refl; types = refl }

-- All items come before all expressions: the second definition's name is met before the name in the first one.
pub items_first : name_faults (of_decls (plain n U8 (Name m) ∷ plain n U8 (small 1) ∷ [])) ≡ Twice n ∷ UnknownName m ∷ []
items_first = refl

-- Types: a u16 where a u8 is wanted; a number above 255; an input of type u16.
pub wide_in_u8 : type_faults (of_decls (plain n U8 (wide 1) ∷ [])) ≡ TypeOf n U8 U16 ∷ []
wide_in_u8 = refl

pub above_255 : type_faults (of_decls (plain n U8 (small 256) ∷ [])) ≡ LiteralRange n ∷ []
above_255 = refl

pub input_of_u16 : type_faults (of_decls (record { name = n; ty = U16; behaviour = Input (codes "PORTB") } ∷ [])) ≡ TypeOf n U16 U8 ∷ []
input_of_u16 = refl

-- A first value of 256 is met as a number before its type is.
pub first_value_of_256 : type_faults (of_decls (reactive n U16 (lit.Plain 256) [] ∷ [])) ≡ LiteralRange n ∷ []
first_value_of_256 = refl

pub first_value_of_255 : type_faults (of_decls (reactive n U16 (lit.Plain 255) [] ∷ [])) ≡ TypeOf n U16 U8 ∷ []
first_value_of_255 = refl

pub setup_of_256 : type_faults (record counter { setups = setup (codes "TRISB") 256 ∷ [] }) ≡ LiteralRange (codes "TRISB") ∷ []
setup_of_256 = refl

-- Operands come before the node: 300 on the right of `&&` is met before the u8 on its left is no bool.
pub right_operand_first : type_faults (of_decls (plain n Bool (Binary And (small 1) (small 300)) ∷ [])) ≡ LiteralRange n ∷ []
right_operand_first = refl

pub left_is_no_bool : type_faults (of_decls (plain n Bool (Binary And (small 1) (wide 2)) ∷ [])) ≡ TypeOf n Bool U8 ∷ TypeOf n Bool U16 ∷ []
left_is_no_bool = refl

-- And 300 as the last part of an `if` before its condition.
pub last_part_first : type_faults (of_decls (plain n U8 (If (small 1) (small 2) (small 300)) ∷ [])) ≡ LiteralRange n ∷ []
last_part_first = refl

pub condition_first : type_faults (of_decls (plain n U8 (If (small 1) (small 2) (wide 3)) ∷ [])) ≡ TypeOf n Bool U8 ∷ TypeOf n U8 U16 ∷ []
condition_first = refl

-- A left operand that is no number, and operands that aren't alike: the left one's type is wanted.
pub sum_of_bools : type_faults (of_decls (plain n Bool (Binary Add truth truth) ∷ [])) ≡ TypeOf n U8 Bool ∷ []
sum_of_bools = refl

pub sum_unlike : type_faults (of_decls (plain n U16 (Binary Add (wide 1) (small 1)) ∷ [])) ≡ TypeOf n U16 U8 ∷ []
sum_unlike = refl

-- A shift by 8 of a u8, and of a u16; by 16 of a u16.
pub shift_of_u8 : type_faults (of_decls (plain n U8 (Shift Left (small 1) 8) ∷ [])) ≡ BadShift n ∷ []
shift_of_u8 = refl

pub shift_by_8 : type_faults (of_decls (plain n U16 (Shift Left (wide 1) 8) ∷ [])) ≡ []
shift_by_8 = refl

pub shift_by_16 : type_faults (of_decls (plain n U16 (Shift Left (wide 1) 16) ∷ [])) ≡ BadShift n ∷ []
shift_by_16 = refl

-- An output is a u8, and its fault has the port's name; an index is a u8.
pub output_of_u16 : type_faults (of_outputs [] (output (codes "PORTB") (wide 1) ∷ [])) ≡ TypeOf (codes "PORTB") U8 U16 ∷ []
output_of_u16 = refl

pub index_of_u16 : type_faults (of_decls (one_table ∷ plain n U8 (Look m (wide 0)) ∷ [])) ≡ TypeOf n U8 U16 ∷ []
index_of_u16 = refl

-- Two faults: those of definitions stand before those of outputs, and those of setups before both.
pub in_order : type_faults (record {
  events = [];
  setups = setup (codes "TRISB") 256 ∷ [];
  decls = plain n U8 (small 256) ∷ [];
  outputs = output (codes "PORTB") (wide 1) ∷ [];
}) ≡ LiteralRange (codes "TRISB") ∷ LiteralRange n ∷ TypeOf (codes "PORTB") U8 U16 ∷ []
in_order = refl
