-- What is told at the place of a fault: what is wrong there, or what is expected.
use Rattle.std.specs.Prelude.{ℕ, Bool, true, false, nat_lt, List, [], ◌++◌, codes, drop, length, if◌then◌else◌}
use Rattle.text_parts.specs.Bytes.{is_digit, begins}
use Rattle.frp_tree.specs.declared.kinds.Kind.{Kind}
use Rattle.frp_tree.specs.declared.kinds.Kind.TheVariants as kind
use Rattle.frp_tree.specs.declared.limits.TheConstants.{LONGEST_SOURCE}
use Rattle.frp_tree.specs.Names.{type_name}
use Rattle.frp_tree.specs.Tokens.{starts_word}
use Rattle.efrp_syntax.specs.declared.faults.SyntaxFault.{SyntaxFault}
use Rattle.efrp_syntax.specs.declared.faults.SyntaxFault.TheVariants.{BadByte, TooBig, Unexpected, TooDeep, TooMany, Memory}
use Rattle.efrp_types.specs.declared.faults.CheckFault.{CheckFault}
use Rattle.efrp_types.specs.declared.faults.CheckFault.TheVariants as check
use Rattle.where_tool.specs.declared.parts.Part.{Part}
use Rattle.where_tool.specs.declared.parts.Part.TheVariants as part

-- What begins at this byte is no token: a name or a digit directly behind a number, or another byte.
abbrev pub byte_message : List ℕ → List ℕ
byte_message rest = if starts_word rest then codes "a blank is missing behind a number" else codes "no token begins with this byte"

-- What is too big: the text, a number or a name.
abbrev pub big_message : List ℕ → List ℕ → List ℕ
big_message text rest =
    if nat_lt LONGEST_SOURCE (length text) then codes "the text has more than 65536 bytes"
    else (if begins is_digit rest then codes "the number is above 65535" else codes "the name has more than 31 bytes")

abbrev pub many_message : Kind → List ℕ
many_message kind.Events = codes "more than 11 events"
many_message kind.Setups = codes "more than 32 setups"
many_message kind.Definitions = codes "more than 128 definitions"
many_message kind.Outputs = codes "more than 5 outputs"
many_message kind.Nodes = codes "more than 4096 nodes of expressions"
many_message kind.Entries = codes "more than 256 entries of a table or 2048 of all"

-- Of a text's fault.
abbrev pub syntax_message : List ℕ → SyntaxFault → List ℕ
syntax_message text (BadByte place) = byte_message (drop place text)
syntax_message text (TooBig place) = big_message text (drop place text)
syntax_message text (Unexpected n) = codes "no program goes on so"
syntax_message text (TooDeep n) = codes "a nesting of 65, and 64 is the most"
syntax_message text (TooMany kind) = many_message kind
syntax_message text Memory = []

-- Of a fault of names or types, at a setup or elsewhere.
abbrev pub is_setup : Part → Bool
is_setup (part.Setup number) = true
is_setup _ = false

abbrev pub check_message : Part → CheckFault → List ℕ
check_message p (check.Twice name) = codes "an event or a definition before has this name"
check_message p (check.UnknownSource name) = codes "no source has this name"
check_message p (check.SourceTwice name) = codes "an event before has this source"
check_message p (check.BadPriority event n) = codes "a priority is 1 to 11"
check_message p (check.BadRegister name) = if is_setup p then codes "no setup may name this register" else codes "no port has this name"
check_message p (check.OutputTwice name) = codes "an output before has this port"
check_message p (check.UnknownEvent name) = codes "no event has this name"
check_message p (check.ClauseTwice decl event) = codes "a clause before is for this event"
check_message p (check.UnknownName name) = codes "no definition has this name"
check_message p (check.TableUse name) = codes "a table's name needs an index, and no other has one"
check_message p (check.LiteralRange owner) = if is_setup p then codes "the byte of a setup is at most 255" else codes "a number above 255 needs the suffix w"
check_message p (check.BadShift owner) = codes "a u8 is shifted by at most 7, a u16 by at most 15"
check_message p (check.TypeOf owner wanted found) = codes "wanted " ++ (type_name wanted ++ (codes ", found " ++ type_name found))
check_message p check.Memory = []

-- Of a definition that depends on itself on an event.
abbrev pub cycle_message : List ℕ → List ℕ
cycle_message event = codes "on " ++ (event ++ codes " this depends on itself")
