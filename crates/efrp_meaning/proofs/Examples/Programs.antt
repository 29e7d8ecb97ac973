-- Programs of which examples speak, and short words to write them with.
use Rattle.std.specs.Prelude.{ℕ, List, [], ◌∷◌, codes, true, false}
use Rattle.frp_tree.specs.declared.syntax.Ty.{Ty}
use Rattle.frp_tree.specs.declared.syntax.Ty.TheVariants.{U8, U16, Bool}
use Rattle.frp_tree.specs.declared.syntax.Lit.{Lit}
use Rattle.frp_tree.specs.declared.syntax.Lit.TheVariants as lit
use Rattle.frp_tree.specs.declared.syntax.BinOp.TheVariants.{Add, Sub, Mul, Lt, Gt, Div, Rem}
use Rattle.frp_tree.specs.declared.syntax.Side.TheVariants.{Right}
use Rattle.frp_tree.specs.declared.syntax.Event.{Event}
use Rattle.frp_tree.specs.declared.syntax.Setup.{Setup}
use Rattle.frp_tree.specs.Tree.{Tree, Const, Name, Binary, Shift, If, Convert, Look, ClauseTree, Plain, Input, Table, Reactive, DeclTree, OutputTree, ProgramTree}

abbrev pub event : List ℕ → List ℕ → ℕ → Event
event its_name its_source its_priority = record { name = its_name; source = its_source; priority = its_priority }

abbrev pub setup : List ℕ → ℕ → Setup
setup its_register its_byte = record { register = its_register; byte = its_byte }

abbrev pub clause : List ℕ → Tree → ClauseTree
clause its_event e = record { event = its_event; expr = e; later = false }

abbrev pub later_clause : List ℕ → Tree → ClauseTree
later_clause its_event e = record { event = its_event; expr = e; later = true }

abbrev pub reactive : List ℕ → Ty → Lit → List ClauseTree → DeclTree
reactive its_name its_type init clauses = record { name = its_name; ty = its_type; behaviour = Reactive init clauses }

abbrev pub plain : List ℕ → Ty → Tree → DeclTree
plain its_name its_type e = record { name = its_name; ty = its_type; behaviour = Plain e }

abbrev pub input : List ℕ → List ℕ → DeclTree
input its_name its_port = record { name = its_name; ty = U8; behaviour = Input its_port }

abbrev pub table : List ℕ → Ty → List Lit → DeclTree
table its_name its_type entries = record { name = its_name; ty = its_type; behaviour = Table entries }

abbrev pub output : List ℕ → Tree → OutputTree
output its_port e = record { port = its_port; expr = e }

abbrev pub small : ℕ → Tree
small n = Const (lit.Plain n)

abbrev pub wide : ℕ → Tree
wide n = Const (lit.Wide n)

-- `name + 1` and `name + 1w`
abbrev pub one_more : List ℕ → Tree
one_more name = Binary Add (Name name) (small 1)

abbrev pub one_more_wide : List ℕ → Tree
one_more_wide name = Binary Add (Name name) (wide 1)

abbrev pub go : List ℕ
go = codes "Go"

-- A program with one event, Go, and no output.
abbrev pub on_go : List DeclTree → ProgramTree
on_go its_decls = record { events = event go (codes "T0") 2 ∷ []; setups = []; decls = its_decls; outputs = [] }

abbrev pub tick : List ℕ
tick = codes "Tick"

-- One event, one counter, one setup and one output.
abbrev pub counter : ProgramTree
counter = record {
  events = event tick (codes "INT") 1 ∷ [];
  setups = setup (codes "TRISB") 0 ∷ [];
  decls = reactive (codes "n") U8 (lit.Plain 0) (clause tick (one_more (codes "n")) ∷ []) ∷ [];
  outputs = output (codes "PORTB") (Name (codes "n")) ∷ [];
}

-- A counter that changes after the event, and a copy of it that is taken at the event.
abbrev pub delayed : ProgramTree
delayed = record {
  events = event tick (codes "INT") 1 ∷ [];
  setups = [];
  decls = reactive (codes "a") U8 (lit.Plain 5) (later_clause tick (one_more (codes "a")) ∷ [])
      ∷ reactive (codes "b") U8 (lit.Plain 0) (clause tick (Name (codes "a")) ∷ []) ∷ [];
  outputs = output (codes "PORTB") (Name (codes "a")) ∷ [];
}

-- Two definitions that lead to each other, one of them with `later`, and the same without it.
abbrev pub sum_of_x : DeclTree
sum_of_x = reactive (codes "y") U8 (lit.Plain 2) (clause go (Binary Add (Name (codes "x")) (Name (codes "x"))) ∷ [])

abbrev pub circle : ProgramTree
circle = on_go (reactive (codes "x") U8 (lit.Plain 1) (later_clause go (one_more (codes "y")) ∷ []) ∷ sum_of_x ∷ [])

abbrev pub cycle : ProgramTree
cycle = on_go (reactive (codes "x") U8 (lit.Plain 1) (clause go (one_more (codes "y")) ∷ []) ∷ sum_of_x ∷ [])

-- A definition that names itself.
abbrev pub doubling : ProgramTree
doubling = on_go (reactive (codes "n") U8 (lit.Plain 3) (clause go (Binary Add (Name (codes "n")) (Name (codes "n"))) ∷ []) ∷ [])

-- Sums and differences of both widths that wrap around.
abbrev pub wrapping : ProgramTree
wrapping = on_go (
    reactive (codes "a") U8 (lit.Plain 255) (clause go (one_more (codes "a")) ∷ [])
    ∷ reactive (codes "b") U16 (lit.Wide 255) (clause go (one_more_wide (codes "b")) ∷ [])
    ∷ reactive (codes "c") U8 (lit.Plain 0) (clause go (Binary Sub (Name (codes "c")) (small 1)) ∷ [])
    ∷ reactive (codes "d") U16 (lit.Wide 0) (clause go (Binary Sub (Name (codes "d")) (wide 1)) ∷ []) ∷ [])

-- Quotient and remainder of two states.
abbrev pub quotients : ℕ → ℕ → ProgramTree
quotients a b = on_go (
    reactive (codes "a") U8 (lit.Plain a) []
    ∷ reactive (codes "b") U8 (lit.Plain b) []
    ∷ reactive (codes "q") U8 (lit.Plain 0) (clause go (Binary Div (Name (codes "a")) (Name (codes "b"))) ∷ [])
    ∷ reactive (codes "r") U8 (lit.Plain 0) (clause go (Binary Rem (Name (codes "a")) (Name (codes "b"))) ∷ []) ∷ [])

-- A non-reactive definition that is used twice, and that another one leads to.
abbrev pub squares : ProgramTree
squares = on_go (
    reactive (codes "twice") U8 (lit.Plain 0) (clause go (Binary Add (Name (codes "square")) (Name (codes "square"))) ∷ [])
    ∷ plain (codes "square") U8 (Binary Mul (Name (codes "side")) (Name (codes "side")))
    ∷ plain (codes "side") U8 (one_more (codes "n"))
    ∷ reactive (codes "n") U8 (lit.Plain 1) (clause go (one_more (codes "n")) ∷ []) ∷ [])

abbrev pub low : List ℕ
low = codes "Low"

abbrev pub high : List ℕ
high = codes "High"

-- Two priorities, and a division that the more urgent event interrupts.
abbrev pub division : ProgramTree
division = record {
  events = event low (codes "TMR1") 1 ∷ event high (codes "INT") 2 ∷ [];
  setups = [];
  decls = reactive (codes "d") U16 (lit.Wide 3) (clause high (Binary Add (Name (codes "d")) (wide 2)) ∷ [])
      ∷ reactive (codes "q") U16 (lit.Wide 0) (clause low (Binary Div (wide 60000) (Name (codes "d"))) ∷ []) ∷ [];
  outputs = [];
}

-- Two priorities with a counter each.
abbrev pub two_counters : ProgramTree
two_counters = record {
  events = event low (codes "TMR1") 1 ∷ event high (codes "INT") 2 ∷ [];
  setups = [];
  decls = reactive (codes "a") U8 (lit.Plain 0) (clause low (one_more (codes "a")) ∷ [])
      ∷ reactive (codes "b") U8 (lit.Plain 0) (clause high (one_more (codes "b")) ∷ []) ∷ [];
  outputs = [];
}

-- Three priorities, with divisions that more urgent events interrupt.
abbrev pub divided_by : Tree → List ℕ → Tree
divided_by e name = Binary Div e (Name name)

abbrev pub three_priorities : ProgramTree
three_priorities = record {
  events = event (codes "A") (codes "T0") 1 ∷ event (codes "B") (codes "INT") 2 ∷ event (codes "C") (codes "TMR1") 3 ∷ [];
  setups = [];
  decls = reactive (codes "a") U16 (lit.Wide 1) (clause (codes "A") (divided_by (divided_by (divided_by (wide 60000) (codes "b")) (codes "c")) (codes "c")) ∷ [])
      ∷ reactive (codes "b") U16 (lit.Wide 1) (clause (codes "B") (divided_by (divided_by (divided_by (wide 60000) (codes "c")) (codes "c")) (codes "c")) ∷ [])
      ∷ reactive (codes "c") U16 (lit.Wide 1) (clause (codes "C") (one_more_wide (codes "c")) ∷ []) ∷ [];
  outputs = [];
}

-- A controller of a motor's speed: four events on three priorities, a definition without a state, a `later` clause,
-- choices, comparisons, a shift and a conversion.
abbrev pub name_goal : Tree
name_goal = Name (codes "goal")

abbrev pub name_speed : Tree
name_speed = Name (codes "speed")

abbrev pub goal_clauses : List ClauseTree
goal_clauses =
    clause (codes "Up") (If (Binary Lt name_goal (small 250)) (Binary Add name_goal (small 5)) (small 250))
    ∷ clause (codes "Down") (If (Binary Gt name_goal (small 5)) (Binary Sub name_goal (small 5)) (small 0)) ∷ []

abbrev pub speed_clauses : List ClauseTree
speed_clauses =
    clause (codes "Slow") (
    If (Binary Lt name_speed name_goal) (one_more (codes "speed")) (If (Binary Gt name_speed name_goal) (Binary Sub name_speed (small 1)) name_speed)) ∷ []

abbrev pub motor : ProgramTree
motor = record {
  events = event (codes "Slow") (codes "TMR1") 1 ∷ event tick (codes "TMR2") 3 ∷ event (codes "Up") (codes "INT") 2 ∷ event (codes "Down") (codes "CCP1") 2 ∷ [];
  setups = setup (codes "TRISB") 1 ∷ setup (codes "TRISC") 0 ∷ setup (codes "OPTION_REG") 0xC0 ∷ setup (codes "PR2") 249 ∷ setup (codes "T2CON") 5 ∷ [];
  decls = reactive (codes "goal") U8 (lit.Plain 0) goal_clauses
      ∷ reactive (codes "speed") U8 (lit.Plain 0) speed_clauses
      ∷ reactive (codes "phase") U8 (lit.Plain 0) (clause tick (one_more (codes "phase")) ∷ [])
      ∷ plain (codes "duty") Bool (Binary Lt (Name (codes "phase")) name_speed)
      ∷ reactive (codes "runtime") U16 (lit.Wide 0) (later_clause (codes "Slow") (one_more_wide (codes "runtime")) ∷ []) ∷ [];
  outputs = output (codes "PORTC") (If (Name (codes "duty")) (small 1) (small 0)) ∷ output (codes "PORTB") (Convert U8 (Shift Right (Name (codes "runtime")) 8)) ∷ [];
}

-- The greatest level so far of what a port reads.
abbrev pub name_level : Tree
name_level = Name (codes "level")

abbrev pub name_top : Tree
name_top = Name (codes "top")

abbrev pub greatest_level : ProgramTree
greatest_level = record {
  events = event tick (codes "INT") 1 ∷ [];
  setups = setup (codes "TRISC") 0 ∷ [];
  decls = input (codes "level") (codes "PORTB") ∷ reactive (codes "top") U8 (lit.Plain 0) (clause tick (If (Binary Gt name_level name_top) name_level name_top) ∷ []) ∷ [];
  outputs = output (codes "PORTC") name_top ∷ [];
}

-- The two priorities of the division, with an input that is added to the divisor.
abbrev pub sampled_division : ProgramTree
sampled_division = record {
  events = event low (codes "TMR1") 1 ∷ event high (codes "INT") 2 ∷ [];
  setups = [];
  decls = input (codes "level") (codes "PORTB")
      ∷ reactive (codes "d") U16 (lit.Wide 3) (clause high (Binary Add (Name (codes "d")) (wide 2)) ∷ [])
      ∷ reactive (codes "q") U16 (lit.Wide 0) (clause low (Binary Div (wide 60000) (Binary Add (Name (codes "d")) (Convert U16 name_level))) ∷ []) ∷ [];
  outputs = [];
}

-- A wave of five entries, of which every third one is put.
abbrev pub wave : ProgramTree
wave = record {
  events = event tick (codes "INT") 1 ∷ [];
  setups = setup (codes "TRISB") 0 ∷ [];
  decls = table (codes "wave") U8 (lit.Plain 0 ∷ lit.Plain 10 ∷ lit.Plain 30 ∷ lit.Plain 60 ∷ lit.Plain 100 ∷ [])
      ∷ reactive (codes "i") U8 (lit.Plain 0) (clause tick (Binary Add (Name (codes "i")) (small 3)) ∷ []) ∷ [];
  outputs = output (codes "PORTB") (Look (codes "wave") (Name (codes "i"))) ∷ [];
}
