-- What a command finds in the source: a program that passes the checks, or why there is none.
use Rattle.std.specs.Prelude.{◌≡◌, ℕ, ◌<◌, ◌≤◌, List, length, Some, None, ◌⊎◌}
use Rattle.edge_io.specs.declared.outside.TheConstants.{LONGEST_FILE}
use Rattle.edge_io.specs.Files.{Held, FilesSeen, IfTold}
use Rattle.edge_io.specs.Sinks.{Appends}
use Rattle.edge_io.specs.Counts.{Rose}
use Rattle.frp_tree.specs.Tree.{ProgramTree}
use Rattle.checked_source.specs.Readings.{Reading, Passing, Reads, IsRead}
use Rattle.command_parts.specs.Lines.{IsRefused, refusal_line}
use Rattle.command_parts.specs.Outsides.{Outside}
use Rattle.command_parts.specs.Endings.{Ends, DueOrYielded}
use Rattle.command_parts.specs.Reads.{Unread, TooLong, unread_status, unread_line, IsUnread, OfSource}

-- The source is read as this program, where files are told.
abbrev pub SourceGives : List ℕ → FilesSeen → ProgramTree → Type 0
SourceGives source before p = OfSource source before (λ text. IsRead text (Passing p))

-- Why a source gives no program: it wasn't read; or what its text is read as.
pub data SourceFault : Type 0 where
  SourceUnread : Unread → SourceFault
  Refused : Reading → SourceFault

abbrev pub source_status : SourceFault → ℕ
source_status (SourceUnread why) = unread_status why
source_status (Refused reading) = 1

abbrev pub source_line : List ℕ → SourceFault → List ℕ
source_line source (SourceUnread why) = unread_line source why
source_line source (Refused reading) = refusal_line reading

-- Why a fault comes.
abbrev pub SourceCause : List ℕ → FilesSeen → FilesSeen → SourceFault → Type 0
SourceCause source before after (SourceUnread why) = IsUnread source before after why
SourceCause source before after (Refused reading) = OfSource source before (λ text. (length text ≤ LONGEST_FILE) × IsRead text reading) × IsRefused reading

-- What a status says of the source of a command that reads nothing else. 1 comes only where the source is too long, or is read
-- as no program, where files are told. The line was put that says so, or why.
abbrev pub SourceRefuses : List ℕ → Outside → Outside → Type 0
SourceRefuses source before after =
    (OfSource source before.files (λ text. LONGEST_FILE < length text) × Appends before.out.taken after.out.taken (unread_line source TooLong))
    ⊎ ((reading : Reading) × OfSource source before.files (λ text. IsRead text reading) × IsRefused reading × Appends before.out.taken after.out.taken (refusal_line reading))

-- Where files are told, the source is too long, and no read fault is counted: the status is 1 and the line is put that says so, or
-- it is 5 or 6.
abbrev pub SourceTellsLong : List ℕ → Outside → Outside → ℕ → Type 0
SourceTellsLong source before after status = (held : Held) (text : List ℕ) → before.files.told ≡ Some held → held source ≡ Some text → LONGEST_FILE < length text
    → (Rose before.files.read_faults after.files.read_faults → ⊥)
    → Ends before.out after.out 1 (unread_line source TooLong) status

-- Where files are told, the source is short enough to be read, it is read as no program, and no read fault is counted: the
-- status is 1 and the line is put that says why, or it is 5 or 6.
abbrev pub SourceTells : List ℕ → Outside → Outside → ℕ → Type 0
SourceTells source before after status = (held : Held) (text : List ℕ) (reading : Reading) → before.files.told ≡ Some held → held source ≡ Some text → length text ≤ LONGEST_FILE
    → Reads text reading → IsRefused reading → (Rose before.files.read_faults after.files.read_faults → ⊥)
    → Ends before.out after.out 1 (refusal_line reading) status

-- 3 comes exactly where the source isn't held, where files are told.
abbrev pub SourceMisses : List ℕ → Outside → ℕ → Type 0
SourceMisses source before status =
    (status ≡ 3 → IfTold before.files (λ held. held source ≡ None)) × ((held : Held) → before.files.told ≡ Some held → held source ≡ None → DueOrYielded 3 status)
