-- What a source text is read as: a program that passes the checks, or its first fault.
use Rattle.std.specs.Prelude.{◌≡◌, ℕ, Bool, true, false, List, ◌++◌, Result, Ok, Err, if◌then◌else◌}
use Rattle.frp_tree.specs.declared.syntax.Program.{Program}
use Rattle.frp_tree.specs.Tree.{ProgramTree, program_tree_of}
use Rattle.frp_tree.specs.Grammar.{Spells}
use Rattle.efrp_syntax.specs.declared.faults.SyntaxFault.{SyntaxFault}
use Rattle.efrp_syntax.specs.declared.faults.SyntaxFault.TheVariants as syntax
use Rattle.efrp_syntax.specs.Parsed.{HasFault}
use Rattle.efrp_types.specs.declared.faults.CheckFault.{CheckFault}
use Rattle.efrp_types.specs.declared.faults.CheckFault.TheVariants as check
use Rattle.efrp_types.specs.Answers.{IsFirst}
use Rattle.efrp_types.specs.NameFaults.{name_faults}
use Rattle.efrp_types.specs.TypeFaults.{type_faults}
use Rattle.efrp_types.specs.Passes.{IsChecked, Passes}
use Rattle.efrp_types.specs.declared.typed.Typed.{Typed}
use Rattle.causality.specs.declared.checked.Checked.{Checked}
use Rattle.causality.specs.Orders.{IsFirstCycle}
use Rattle.checked_source.specs.declared.faults.SourceFault.{SourceFault}
use Rattle.checked_source.specs.declared.faults.SourceFault.TheVariants as fault

-- A program that passes; a fault of the text; a fault of the program's names or types; or an event on which a definition
-- depends on itself, and the definition.
pub data Reading : Type 0 where
  Passing : ProgramTree → Reading
  Faulty : SyntaxFault → Reading
  Misused : CheckFault → Reading
  Cyclic : List ℕ → List ℕ → Reading

-- All faults of names, and after them those of types.
abbrev pub check_faults : ProgramTree → List CheckFault
check_faults p = name_faults p ++ type_faults p

-- The text spells such a program.
abbrev pub SpellsSuch : List ℕ → (ProgramTree → Type 0) → Type 0
SpellsSuch text P = (p : ProgramTree) × Spells text p × P p

-- What a reading says of the text. Faults are looked for in this order: of the text, of names, of types, of causality.
abbrev pub Reads : List ℕ → Reading → Type 0
Reads text (Passing p) = Spells text p × Passes p
Reads text (Faulty fault) = HasFault text fault
Reads text (Misused fault) = SpellsSuch text (λ p. IsFirst fault (check_faults p))
Reads text (Cyclic event name) = SpellsSuch text (λ p. IsChecked p × IsFirstCycle p event name)

-- The text is read as this, and as nothing else.
abbrev pub IsRead : List ℕ → Reading → Type 0
IsRead text reading = Reads text reading × ((other : Reading) → Reads text other → other ≡ reading)

-- The program that a text is read as, or its fault; or out of memory.
abbrev pub Found : List ℕ → Result Checked SourceFault → Type 0
Found text (Ok c) = IsRead text (Passing (program_tree_of c.typed.program))
Found text (Err (fault.Syntax told)) = IsRead text (Faulty told)
Found text (Err (fault.Check told)) = IsRead text (Misused told)
Found text (Err (fault.Cycle event name)) = IsRead text (Cyclic event name)
Found text (Err fault.Memory) = Unit {0}

-- What a part tells is its own out of memory, or a fault.
abbrev pub is_syntax_memory : SyntaxFault → Bool
is_syntax_memory syntax.Memory = true
is_syntax_memory _ = false

abbrev pub is_check_memory : CheckFault → Bool
is_check_memory check.Memory = true
is_check_memory _ = false

abbrev pub of_syntax : SyntaxFault → SourceFault
of_syntax told = if is_syntax_memory told then fault.Memory else fault.Syntax told

abbrev pub of_check : CheckFault → SourceFault
of_check told = if is_check_memory told then fault.Memory else fault.Check told

-- What the passes come to, one after the other. The text spells this program, and no other, and has no fault.
pub record SpellsOnly (text : List ℕ) (p : ProgramTree) : Type 0 where
  pub spells : Spells text p
  pub only : (q : ProgramTree) → Spells text q → q ≡ p
  pub faultless : (fault : SyntaxFault) → ¬ HasFault text fault

abbrev pub Parses : List ℕ → Result Program SourceFault → Type 0
Parses text (Ok p) = SpellsOnly text (program_tree_of p)
Parses text (Err (fault.Syntax told)) = IsRead text (Faulty told)
Parses text (Err (fault.Check told)) = ⊥
Parses text (Err (fault.Cycle event name)) = ⊥
Parses text (Err fault.Memory) = Unit {0}

-- The program's names and types have no fault, or the first is told.
abbrev pub Types : Program → Result Typed SourceFault → Type 0
Types p (Ok t) = t.program ≡ p
Types p (Err (fault.Syntax told)) = ⊥
Types p (Err (fault.Check told)) = IsFirst told (check_faults (program_tree_of p))
Types p (Err (fault.Cycle event name)) = ⊥
Types p (Err fault.Memory) = Unit {0}

-- No definition depends on itself, or the first cycle is told.
abbrev pub Sorts : Typed → Result Checked SourceFault → Type 0
Sorts t (Ok c) = c.typed.program ≡ t.program
Sorts t (Err (fault.Syntax told)) = ⊥
Sorts t (Err (fault.Check told)) = ⊥
Sorts t (Err (fault.Cycle event name)) = IsFirstCycle (program_tree_of t.program) event name
Sorts t (Err fault.Memory) = Unit {0}
