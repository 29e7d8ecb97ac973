-- What is true of the walk of the checks, of the places of faults and of their reports.
use Rattle.std.specs.Prelude.{◌≡◌, ℕ, ◌≤◌, List, length}
use Rattle.std.specs.List.{flat_map}
use Rattle.frp_tree.specs.Tree.{ProgramTree}
use Rattle.checked_source.specs.Readings.{Reading, Reads, check_faults}
use Rattle.where_tool.specs.Points.{PointsAt}
use Rattle.where_tool.specs.Spots.{IsReport}
use Rattle.where_tool.specs.Visits.{Visit, check_visits}

-- The faults of all visits are those of names and, after them, those of types.
abbrev pub VisitsTell : ProgramTree → Type 0
VisitsTell p = flat_map (λ (v : Visit). v.faults) (check_visits p) ≡ check_faults p

-- What a text is read as stands at one place, where one message is told; and this place is in the text, or is its end.
abbrev pub OnePoint : Type 0
OnePoint = (text : List ℕ) (reading : Reading) (place other : ℕ) (message told : List ℕ) → PointsAt text reading place message → PointsAt text reading other told → (place ≡ other) × (message ≡ told)

abbrev pub PointIsWithin : Type 0
PointIsWithin = (text : List ℕ) (reading : Reading) (place : ℕ) (message : List ℕ) → Reads text reading → PointsAt text reading place message → place ≤ length text

-- A place and a message have one report.
abbrev pub OneReport : Type 0
OneReport = (text name : List ℕ) (place : ℕ) (message report other : List ℕ) → IsReport text name place message report → IsReport text name place message other → report ≡ other
