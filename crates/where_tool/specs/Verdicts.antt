-- What a call finds of a source and a fault line, and what it tells of it.
use Rattle.std.specs.Prelude.{◌≡◌, ℕ, List, ◌++◌, codes, ◌⊎◌}
use Rattle.edge_io.specs.Files.{FilesSeen}
use Rattle.frp_tree.specs.Tree.{ProgramTree}
use Rattle.checked_source.specs.Readings.{Reading, Passing, IsRead}
use Rattle.command_parts.specs.Lines.{IsRefused, refusal_line}
use Rattle.command_parts.specs.Reads.{Unread, NotHeld, NotRead, TooLong, unread_status, unread_line, IsUnread, OfSource}
use Rattle.where_tool.specs.Points.{PointsAt}
use Rattle.where_tool.specs.Spots.{IsReport}

-- The name of a source, and a fault line, without its end.
pub record Asked : Type 0 where
  pub source : List ℕ
  pub line : List ℕ

abbrev pub usage : List ℕ
usage = codes "usage: efrp_where SRC LINE\n"

-- The line is this one.
abbrev pub Fits : Asked → List ℕ → Type 0
Fits a line = a.line ++ codes "\n" ≡ line

-- The source wasn't read, since it isn't there or the read failed; it is too long, and that was told; its fault was told, and
-- this is the report of its place; it has another fault, with this line; or it has none.
pub data Verdict : Type 0 where
  Failed : Unread → Verdict
  Long : Verdict
  Pointed : List ℕ → Verdict
  Another : List ℕ → Verdict
  Faultless : Verdict

abbrev pub verdict_status : Verdict → ℕ
verdict_status (Failed why) = unread_status why
verdict_status Long = 0
verdict_status (Pointed report) = 0
verdict_status (Another line) = 1
verdict_status Faultless = 8

abbrev pub verdict_text : Asked → Verdict → List ℕ
verdict_text a (Failed why) = unread_line a.source why
verdict_text a Long = a.source ++ codes ":1:1: the file has more than 1048576 bytes\n"
verdict_text a (Pointed report) = report
verdict_text a (Another line) = a.source ++ (codes ": its fault is another: " ++ line)
verdict_text a Faultless = a.source ++ codes ": it has no fault\n"

-- What is found in a text: the report of its fault, where the line fits; its fault's line, where it doesn't; or no fault.
abbrev pub TextCause : Asked → List ℕ → Verdict → Type 0
TextCause a text (Failed why) = ⊥
TextCause a text Long = ⊥
TextCause a text (Pointed report) =
    (reading : Reading) × (place : ℕ) × (message : List ℕ) × IsRead text reading × Fits a (refusal_line reading) × PointsAt text reading place message × IsReport text a.source place message report
TextCause a text (Another line) = (reading : Reading) × IsRead text reading × IsRefused reading × (line ≡ refusal_line reading) × (Fits a line → ⊥)
TextCause a text Faultless = (p : ProgramTree) × IsRead text (Passing p)

-- Why a verdict comes.
abbrev pub Cause : Asked → FilesSeen → FilesSeen → Verdict → Type 0
Cause a before after (Failed NotHeld) = IsUnread a.source before after NotHeld
Cause a before after (Failed NotRead) = IsUnread a.source before after NotRead
Cause a before after (Failed TooLong) = ⊥
Cause a before after Long = IsUnread a.source before after TooLong × Fits a (unread_line a.source TooLong)
Cause a before after (Pointed report) = OfSource a.source before (λ text. TextCause a text (Pointed report))
Cause a before after (Another line) =
    (IsUnread a.source before after TooLong × (line ≡ unread_line a.source TooLong) × (Fits a line → ⊥)) ⊎ OfSource a.source before (λ text. TextCause a text (Another line))
Cause a before after Faultless = OfSource a.source before (λ text. TextCause a text Faultless)
