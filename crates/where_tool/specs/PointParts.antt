-- What the parts of the search for a fault's place answer.
use Rattle.std.specs.Prelude.{◌≡◌, ℕ, List, map, string_bytes, Option, Some, None}
use Rattle.frp_tree.specs.declared.tokens.Token.{Token}
use Rattle.frp_tree.specs.Cells.{Cell, tokens_of}
use Rattle.frp_tree.specs.Tree.{ProgramTree}
use Rattle.efrp_syntax.specs.declared.begun.Begun.{Begun}
use Rattle.efrp_syntax.specs.Answers.{begun}
use Rattle.checked_source.specs.declared.faults.SourceFault.{SourceFault}
use Rattle.checked_source.specs.declared.faults.SourceFault.TheVariants as fault
use Rattle.checked_source.specs.Readings.{Reading, Faulty, Misused, Cyclic}
use Rattle.where_tool.specs.declared.points.Point.{Point}
use Rattle.where_tool.specs.Points.{IsMarked, PointsAt}

-- These are the tokens of a text's program, and what each of them begins.
pub record Marks (text : List ℕ) (tokens : List Token) (notes : List Begun) : Type 0 where
  pub program : ProgramTree
  pub cells : List Cell
  pub marked : IsMarked text program cells
  pub tokens_is : tokens ≡ tokens_of cells
  pub notes_is : notes ≡ map begun cells

-- A point is that of a reading.
abbrev pub PointsFor : List ℕ → Reading → Point → Type 0
PointsFor text reading point = PointsAt text reading point.place (string_bytes point.message)

-- What a source's fault says that the text is read as. Out of memory says nothing.
abbrev pub reading_of : SourceFault → Option Reading
reading_of (fault.Syntax told) = Some (Faulty told)
reading_of (fault.Check told) = Some (Misused told)
reading_of (fault.Cycle event name) = Some (Cyclic event name)
reading_of fault.Memory = None
