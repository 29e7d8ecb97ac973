-- What `efrp_where` promises.
use Rattle.std.specs.Prelude.{◌≡◌, ℕ, ◌≤◌, List, [], ◌∷◌, length, Option, Some, None, ◌⊎◌}
use Rattle.edge_io.specs.declared.outside.TheConstants.{LONGEST_FILE}
use Rattle.edge_io.specs.Counts.{Rose}
use Rattle.edge_io.specs.Files.{Held, KeepsFiles}
use Rattle.frp_tree.specs.Grammar.{Spells}
use Rattle.frp_tree.specs.Tree.{ProgramTree}
use Rattle.efrp_types.specs.Passes.{Passes}
use Rattle.checked_source.specs.Readings.{Reading, Reads}
use Rattle.command_parts.specs.Endings.{Ends}
use Rattle.command_parts.specs.Lines.{IsRefused, refusal_line}
use Rattle.command_parts.specs.Outsides.{Outside}
use Rattle.where_tool.specs.Points.{PointsAt}
use Rattle.where_tool.specs.Spots.{IsReport}
use Rattle.where_tool.specs.Verdicts.{Asked, Verdict, Another, Faultless, verdict_status, verdict_text, Cause, Fits, usage}

-- What two words ask for: the source, and the fault line.
abbrev pub asked_by : List (List ℕ) → Option Asked
asked_by (source ∷ line ∷ []) = Some (record { source = source; line = line })
asked_by _ = None

-- A verdict is told: its text is put, and its status given.
abbrev pub Tells : Asked → Outside → Outside → Verdict → ℕ → Type 0
Tells a before after v status = Ends before.out after.out (verdict_status v) (verdict_text a v) status

-- How a call ends: memory ran out before there was a verdict, and nothing was put; or there is one, for its cause, and it is told.
abbrev pub Answers : Asked → Outside → Outside → ℕ → Type 0
Answers a before after status =
    ((status ≡ 6) × (before.out.taken ≡ after.out.taken)) ⊎ ((v : Verdict) × Cause a before.files after.files v × Tells a before after v status)

-- A held source that is read.
pub record IsHeld (before after : Outside) (source text : List ℕ) : Type 0 where
  pub held : Held
  pub told : before.files.told ≡ Some held
  pub is : held source ≡ Some text
  pub short : length text ≤ LONGEST_FILE
  pub unfailed : Rose before.files.read_faults after.files.read_faults → ⊥

-- What is promised of a call with a source and a line. No file changes. Where the source is held, and no read fault was counted: a
-- fault whose line it is is told with its place, another fault with its own line, and that there is none where the program
-- passes; each with its status, or 5 or 6.
pub record Promises (a : Asked) (before after : Outside) (status : ℕ) : Type 0 where
  pub files : KeepsFiles before.files after.files
  pub ends : Answers a before after status
  pub pointed : (text : List ℕ) (reading : Reading) (place : ℕ) (message report : List ℕ) → IsHeld before after a.source text → Reads text reading → Fits a (refusal_line reading)
      → PointsAt text reading place message → IsReport text a.source place message report → Ends before.out after.out 0 report status
  pub another : (text : List ℕ) (reading : Reading) → IsHeld before after a.source text → Reads text reading → IsRefused reading → (Fits a (refusal_line reading) → ⊥)
      → Tells a before after (Another (refusal_line reading)) status
  pub faultless : (text : List ℕ) (p : ProgramTree) → IsHeld before after a.source text → Spells text p → Passes p → Tells a before after Faultless status

-- Words that ask for nothing are answered with the usage line.
abbrev pub PromisesOf : Option Asked → Outside → Outside → ℕ → Type 0
PromisesOf None before after status = KeepsFiles before.files after.files × Ends before.out after.out 2 usage status
PromisesOf (Some a) before after status = Promises a before after status
