-- What is promised of `check SRC`.
use Rattle.std.specs.Prelude.{◌≡◌, ℕ, List, Option, Some, Result, String, string_bytes, ◌⊎◌}
use Rattle.std.specs.declared.alloc.Global.{Global}
use Rattle.edge_io.specs.Files.{Held, FilesSeen, KeepsFiles}
use Rattle.edge_io.specs.Sinks.{Appends}
use Rattle.edge_io.specs.Counts.{Rose}
use Rattle.frp_tree.specs.Tree.{ProgramTree}
use Rattle.frp_tree.specs.Grammar.{Spells}
use Rattle.efrp_types.specs.Passes.{Passes}
use Rattle.command_parts.specs.declared.halts.Halt.{Halt}
use Rattle.frp_tool.specs.Lines.{counts_line}
use Rattle.command_parts.specs.Outsides.{Outside}
use Rattle.command_parts.specs.Endings.{Ends, Gives}
use Rattle.frp_tool.specs.SourceTexts.{SourceGives, SourceFault, source_status, source_line, SourceCause, SourceRefuses, SourceTellsLong, SourceTells, SourceMisses}

-- What a `check` comes to: the source gives no program, or a program that passes.
pub data CheckVerdict : Type 0 where
  Bad : SourceFault → CheckVerdict
  Good : ProgramTree → CheckVerdict

abbrev pub check_status : CheckVerdict → ℕ
check_status (Bad fault) = source_status fault
check_status (Good p) = 0

abbrev pub check_text : List ℕ → CheckVerdict → List ℕ
check_text source (Bad fault) = source_line source fault
check_text source (Good p) = counts_line p

-- Why a verdict comes.
abbrev pub CheckCause : List ℕ → FilesSeen → FilesSeen → CheckVerdict → Type 0
CheckCause source before after (Bad fault) = SourceCause source before after fault
CheckCause source before after (Good p) = SourceGives source before p

-- What the work of a `check` comes to before its line is put.
abbrev pub CheckWorks : List ℕ → FilesSeen → FilesSeen → Result (Option (String Global)) Halt → Type 0
CheckWorks source before after =
    Gives (λ (line : Option (String Global)). (p : ProgramTree) × (text : String Global) × (line ≡ Some text) × SourceGives source before p × (string_bytes text ≡ counts_line p))
    (SourceCause source before after) source_status (source_line source)

-- How a call of `check` ends. No file changes. Memory ran out before there was a verdict, and nothing was put; or there is a
-- verdict, with its cause, its status and its line.
abbrev pub Checks : List ℕ → Outside → Outside → ℕ → Type 0
Checks source before after status =
    KeepsFiles before.files after.files
    × (((status ≡ 6) × (before.out.taken ≡ after.out.taken))
    ⊎ ((v : CheckVerdict) × CheckCause source before.files after.files v × Ends before.out after.out (check_status v) (check_text source v) status))

-- With 0, where files and the bytes put are told, the source spells a program that passes the checks, and no other; and the line
-- with its counts was put.
abbrev pub CheckDone : List ℕ → Outside → Outside → Type 0
CheckDone source before after = (p : ProgramTree) × SourceGives source before.files p × Appends before.out.taken after.out.taken (counts_line p)

-- Where files are told, the source spells a program that passes the checks, and no fault is counted, the status is 0 or 6.
abbrev pub CheckCompletes : List ℕ → Outside → Outside → ℕ → Type 0
CheckCompletes source before after status = (held : Held) (text : List ℕ) (p : ProgramTree) → before.files.told ≡ Some held → held source ≡ Some text → Spells text p → Passes p
    → (Rose before.files.read_faults after.files.read_faults → ⊥) → (Rose before.out.put_faults after.out.put_faults → ⊥)
    → (status ≡ 0) ⊎ (status ≡ 6)

-- What is promised of a `check`: how it ends, and what follows for each status. With every status no file has changed.
pub record CheckPromises (source : List ℕ) (before after : Outside) (status : ℕ) : Type 0 where
  pub ends : Checks source before after status
  pub done : status ≡ 0 → CheckDone source before after
  pub one : status ≡ 1 → SourceRefuses source before after
  pub long : SourceTellsLong source before after status
  pub told : SourceTells source before after status
  pub three : SourceMisses source before status
  pub files : KeepsFiles before.files after.files
  pub complete : CheckCompletes source before after status
