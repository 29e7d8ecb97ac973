-- Model texts of small programs, and events files.
use Rattle.std.specs.Prelude.{◌≡◌, ℕ, List, [], ◌∷◌, Some, None, codes, refl}
use Rattle.std.specs.Fmt.{digits}
use Rattle.frp_tree.specs.declared.syntax.Ty.TheVariants.{U8}
use Rattle.frp_tree.specs.declared.syntax.Lit.TheVariants as lit
use Rattle.frp_tree.specs.declared.syntax.BinOp.TheVariants.{Gt}
use Rattle.frp_tree.specs.Tree.{Name, Binary, If, Input, ProgramTree}
use Rattle.efrp_meaning.specs.Meaning.{Occurrence}
use Rattle.efrp_meaning.proofs.Examples.Programs.{event, clause, reactive, output, delayed, doubling, cycle, tick, go}
use Rattle.event_file.specs.Events.{events_of, first_unknown}
use Rattle.event_file.specs.Model.{model_text}

-- An event in a program without inputs.
abbrev bare : List ℕ → Occurrence
bare name = record { event = name; samples = [] }

delayed_twice : model_text delayed (bare tick ∷ bare tick ∷ []) ≡ Some (codes "init a=5 b=0\nport PORTB 05\ncommit Tick a=6 b=5\nport PORTB 06\ncommit Tick a=7 b=6\n")
unfolding digits
delayed_twice = refl

doubling_twice : model_text doubling (bare go ∷ bare go ∷ []) ≡ Some (codes "init n=3\ncommit Go n=6\ncommit Go n=12\n")
unfolding digits
doubling_twice = refl

cycle_has_none : model_text cycle (bare go ∷ []) ≡ None
cycle_has_none = refl

-- The greatest level on PORTB so far.
abbrev greatest : ProgramTree
greatest = record {
  events = event tick (codes "INT") 1 ∷ [];
  setups = [];
  decls = record { name = codes "level"; ty = U8; behaviour = Input (codes "PORTB") }
      ∷ reactive (codes "top") U8 (lit.Plain 0) (clause tick (If (Binary Gt (Name (codes "level")) (Name (codes "top"))) (Name (codes "level")) (Name (codes "top"))) ∷ []) ∷ [];
  outputs = output (codes "PORTC") (Name (codes "top")) ∷ [];
}

abbrev level : ℕ → Occurrence
level byte = record { event = tick; samples = byte ∷ [] }

abbrev levels : List ℕ
levels = codes "Tick level=10\nTick\n\nTick   level=2f"

three_levels : events_of greatest levels ≡ level 0x10 ∷ level 0 ∷ level 0x2F ∷ []
three_levels = refl

greatest_of_three : model_text greatest (events_of greatest levels)
    ≡ Some (codes "init top=0\nport PORTC 10\ncommit Tick top=16\nport PORTC 10\ncommit Tick top=16\nport PORTC 2F\ncommit Tick top=47\n")
unfolding digits
greatest_of_three = refl

other_input : first_unknown greatest (codes "Tick levl=10") ≡ Some 1
other_input = refl

input_twice : first_unknown greatest (codes "Tick\nTick level=10 level=10") ≡ Some 2
input_twice = refl

one_digit : first_unknown greatest (codes "Tick level=1") ≡ Some 1
one_digit = refl

empty_lines_say_nothing : events_of delayed (codes "Tick\r\n\nTick") ≡ bare tick ∷ bare tick ∷ []
empty_lines_say_nothing = refl

all_known : first_unknown delayed (codes "Tick\n\nTick\n") ≡ None
all_known = refl

unknown_is_told : first_unknown delayed (codes "Tock") ≡ Some 1
unknown_is_told = refl

space_counts : first_unknown delayed (codes "Tick\n\n Tick\n") ≡ Some 3
space_counts = refl

space_at_the_end : first_unknown delayed (codes "Tick ") ≡ Some 1
space_at_the_end = refl
