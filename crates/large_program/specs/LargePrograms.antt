-- The large program of a number: eleven events, twelve definitions that the number's draws say, and one output.
use Rattle.std.specs.Prelude.{ℕ, ◌+◌, ◌-◌, ◌*◌, ◌%◌, ◌==◌, nat_le, if◌then◌else◌, List, [], ◌∷◌, ◌++◌, map, codes}
use Rattle.std.specs.Fmt.{decimal}
use Rattle.std.specs.List.{range_with_len}
use Rattle.pic_isa.specs.declared.sources.Source.{Source}
use Rattle.pic_isa.specs.Sources.{sources, source_name, source_number}
use Rattle.frp_tree.specs.declared.syntax.Ty.{Ty}
use Rattle.frp_tree.specs.declared.syntax.Ty.TheVariants as ty
use Rattle.frp_tree.specs.declared.syntax.Lit.{Lit}
use Rattle.frp_tree.specs.declared.syntax.Lit.TheVariants as lit
use Rattle.frp_tree.specs.declared.syntax.BinOp.TheVariants.{Add, BitXor, Lt, Sub}
use Rattle.frp_tree.specs.declared.syntax.Event.{Event}
use Rattle.frp_tree.specs.Tree.{Tree, Const, Name, Binary, If, ClauseTree, Reactive, DeclTree, OutputTree, ProgramTree}
use Rattle.large_program.specs.Draws.{after_draws, draw}

-- The names of events and definitions, by their numbers.
abbrev pub event_name : ℕ → List ℕ
event_name i = codes "E" ++ decimal i

abbrev pub definition_name : ℕ → List ℕ
definition_name i = codes "v" ++ decimal i

-- Event i is on the source with number i.
abbrev pub event_on : Source → Event
event_on source = record { name = event_name (source_number source); source = source_name source; priority = 1 + source_number source % 8 }

-- Definition i is a u8 where i is even, and else a u16. A literal of its type:
abbrev pub type_of : ℕ → Ty
type_of i = if i % 2 == 0 then ty.U8 else ty.U16

abbrev pub literal_for : ℕ → ℕ → Lit
literal_for i n = if i % 2 == 0 then lit.Plain n else lit.Wide n

-- The definition that definition i may take a value of: the one two before, of the same type, or itself.
abbrev pub partner : ℕ → ℕ
partner i = if nat_le 2 i then i - 2 else i

-- What definition i becomes, by one of the four forms and by a number below 200.
abbrev pub expression : ℕ → ℕ → ℕ → Tree
expression i form k =
    let own = Name (definition_name i) in
    let other = Name (definition_name (partner i)) in
    let number = Const (literal_for i k) in
    if form == 0 then Binary Add own number
    else if form == 1 then Binary BitXor own other
    else if form == 2 then Binary Sub own number
    else If (Binary Lt own number) other number

-- The clause of definition i for an event, whose form, number and `later` are the next three draws.
abbrev pub clause : ℕ → ℕ → ℕ → ClauseTree
clause i event s = record {
  event = event_name event;
  expr = expression i (draw s 1 4) (draw s 2 200);
  later = draw s 3 2 == 1;
}

-- The two events of a definition, which differ, are the next two draws.
abbrev pub first_event : ℕ → ℕ
first_event s = draw s 1 11

abbrev pub second_event : ℕ → ℕ
second_event s = (first_event s + 1 + draw s 2 10) % 11

-- Definition i, by the next eight draws: those of its events, of its first clause and of its second. It starts as i.
abbrev pub definition : ℕ → ℕ → DeclTree
definition i s = record {
  name = definition_name i;
  ty = type_of i;
  behaviour = Reactive (literal_for i i) (clause i (first_event s) (after_draws 2 s) ∷ clause i (second_event s) (after_draws 5 s) ∷ []);
}

-- The definitions of a number, each by its eight draws.
abbrev pub nth_definition : ℕ → ℕ → DeclTree
nth_definition n i = definition i (after_draws (8 * i) n)

abbrev pub definitions_below : ℕ → ℕ → List DeclTree
definitions_below n count = map (nth_definition n) (range_with_len 0 count)

-- PORTB shows the first definition.
abbrev pub port_shown : OutputTree
port_shown = record { port = codes "PORTB"; expr = Name (definition_name 0) }

-- The large program of a number.
abbrev pub large_program : ℕ → ProgramTree
large_program n = record { events = map event_on sources; setups = []; decls = definitions_below n 12; outputs = port_shown ∷ [] }
