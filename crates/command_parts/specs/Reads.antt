-- What a command finds where it reads a file: its bytes, or one of three faults.
use Rattle.std.specs.Prelude.{◌≡◌, ℕ, ◌<◌, ◌≤◌, List, ◌∷◌, ◌++◌, length, Some, None, codes}
use Rattle.std.specs.List.{AllByRecursion}
use Rattle.edge_io.specs.declared.outside.TheConstants.{LONGEST_FILE}
use Rattle.edge_io.specs.Files.{Held, FilesSeen, IfTold}
use Rattle.edge_io.specs.Counts.{Rose}
use Rattle.command_parts.specs.Lines.{named_line}

-- Why a file wasn't read: it isn't there; the read failed; it is too long.
pub data Unread : Type 0 where
  NotHeld : Unread
  NotRead : Unread
  TooLong : Unread

abbrev pub unread_status : Unread → ℕ
unread_status NotHeld = 3
unread_status NotRead = 4
unread_status TooLong = 1

abbrev pub unread_line : List ℕ → Unread → List ℕ
unread_line name NotHeld = named_line (codes "missing: ") name
unread_line name NotRead = named_line (codes "read failed: ") name
unread_line name TooLong = named_line (codes "refused: long ") name

-- A file of this name is held, and is short enough to be read.
abbrev pub IsReadable : Held → List ℕ → Type 0
IsReadable held name = (text : List ℕ) × (held name ≡ Some text) × (length text ≤ LONGEST_FILE)

-- A file of this name is held, and is too long to be read.
abbrev pub IsLong : Held → List ℕ → Type 0
IsLong held name = (text : List ℕ) × (held name ≡ Some text) × (LONGEST_FILE < length text)

-- Of the files that a command reads, in order, this is one, and all before it are held and short enough.
pub record IsNext (names : List (List ℕ)) (held : Held) (name : List ℕ) : Type 0 where
  pub earlier : List (List ℕ)
  pub later : List (List ℕ)
  pub order : names ≡ earlier ++ name ∷ later
  pub readable : AllByRecursion (IsReadable held) earlier

-- What was met where a file wasn't read.
abbrev pub IsUnread : List ℕ → FilesSeen → FilesSeen → Unread → Type 0
IsUnread name before after NotHeld = IfTold before (λ held. held name ≡ None)
IsUnread name before after NotRead = Rose before.read_faults after.read_faults × IfTold before (λ held. IsReadable held name)
IsUnread name before after TooLong = IfTold before (λ held. IsLong held name)

-- The bytes of a file that was read.
abbrev pub IsInput : List ℕ → FilesSeen → List ℕ → Type 0
IsInput name before text = IfTold before (λ held. held name ≡ Some text) × (length text ≤ LONGEST_FILE)

-- The source of this name is held, and this holds of its text, where files are told.
abbrev pub OfSource : List ℕ → FilesSeen → (List ℕ → Type 0) → Type 0
OfSource source before P = IfTold before (λ held. (text : List ℕ) × (held source ≡ Some text) × P text)
