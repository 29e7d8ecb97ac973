-- Lines that end in a name, and those of the faults of a source.
use Rattle.std.specs.Prelude.{ℕ, List, [], ◌++◌, codes}
use Rattle.std.specs.Fmt.{decimal}
use Rattle.frp_tree.specs.declared.kinds.Kind.{Kind}
use Rattle.frp_tree.specs.declared.kinds.Kind.TheVariants as kind
use Rattle.frp_tree.specs.Names.{type_name}
use Rattle.efrp_syntax.specs.declared.faults.SyntaxFault.{SyntaxFault}
use Rattle.efrp_syntax.specs.declared.faults.SyntaxFault.TheVariants.{BadByte, TooBig, Unexpected, TooDeep, TooMany, Memory}
use Rattle.efrp_types.specs.declared.faults.CheckFault.{CheckFault}
use Rattle.efrp_types.specs.declared.faults.CheckFault.TheVariants as check
use Rattle.checked_source.specs.Readings.{Reading, Passing, Faulty, Misused, Cyclic}

-- A line that ends in a name.
abbrev pub named_line : List ℕ → List ℕ → List ℕ
named_line front name = front ++ (name ++ codes "\n")

-- The word for what a program has too many of.
abbrev pub kind_word : Kind → List ℕ
kind_word kind.Events = codes "events"
kind_word kind.Setups = codes "setups"
kind_word kind.Definitions = codes "definitions"
kind_word kind.Outputs = codes "outputs"
kind_word kind.Nodes = codes "nodes"
kind_word kind.Entries = codes "entries"

-- The line of a text's fault: the place of a byte, or a number of tokens. Want of memory has none.
abbrev pub syntax_line : SyntaxFault → List ℕ
syntax_line (BadByte place) = codes "refused: byte " ++ (decimal place ++ codes "\n")
syntax_line (TooBig place) = codes "refused: big " ++ (decimal place ++ codes "\n")
syntax_line (Unexpected n) = codes "refused: unexpected " ++ (decimal n ++ codes "\n")
syntax_line (TooDeep n) = codes "refused: deep " ++ (decimal n ++ codes "\n")
syntax_line (TooMany kind) = codes "refused: many " ++ (kind_word kind ++ codes "\n")
syntax_line Memory = []

-- A line that ends in two names, with a space between them.
abbrev pub two_names_line : List ℕ → List ℕ → List ℕ → List ℕ
two_names_line front one two = front ++ (one ++ (codes " " ++ (two ++ codes "\n")))

-- The line of a fault of names or types. Out of memory has none.
abbrev pub check_line : CheckFault → List ℕ
check_line (check.Twice name) = named_line (codes "refused: twice ") name
check_line (check.UnknownSource name) = named_line (codes "refused: source ") name
check_line (check.SourceTwice name) = named_line (codes "refused: source twice ") name
check_line (check.BadPriority event n) = two_names_line (codes "refused: priority ") event (decimal n)
check_line (check.BadRegister name) = named_line (codes "refused: register ") name
check_line (check.OutputTwice name) = named_line (codes "refused: output twice ") name
check_line (check.UnknownEvent name) = named_line (codes "refused: event ") name
check_line (check.ClauseTwice decl event) = two_names_line (codes "refused: clause twice ") decl event
check_line (check.UnknownName name) = named_line (codes "refused: name ") name
check_line (check.TableUse name) = named_line (codes "refused: table ") name
check_line (check.LiteralRange name) = named_line (codes "refused: literal ") name
check_line (check.BadShift name) = named_line (codes "refused: shift ") name
check_line (check.TypeOf owner wanted found) =
    codes "refused: type " ++ (owner ++ (codes " wanted " ++ (type_name wanted ++ (codes " found " ++ (type_name found ++ codes "\n")))))
check_line check.Memory = []

-- The line of an event on which a definition depends on itself, and the definition.
abbrev pub cycle_line : List ℕ → List ℕ → List ℕ
cycle_line event name = two_names_line (codes "refused: cycle ") event name

-- A reading is a fault, and so gives no program.
abbrev pub IsRefused : Reading → Type 0
IsRefused (Passing p) = ⊥
IsRefused (Faulty fault) = Unit {0}
IsRefused (Misused fault) = Unit {0}
IsRefused (Cyclic event name) = Unit {0}

-- The line of a fault. A program has none.
abbrev pub refusal_line : Reading → List ℕ
refusal_line (Passing p) = []
refusal_line (Faulty fault) = syntax_line fault
refusal_line (Misused fault) = check_line fault
refusal_line (Cyclic event name) = cycle_line event name
