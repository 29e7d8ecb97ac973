-- The place of a text's fault.
use Rattle.std.specs.Prelude.{◌≡◌, ℕ, ◌+◌, List, Some}
use Rattle.frp_tree.specs.declared.kinds.Kind.TheVariants.{Definitions}
use Rattle.frp_tree.specs.Breaks.{IsTooMany}
use Rattle.frp_tree.specs.Cells.{Cell, tokens_of, IsWithinLimits}
use Rattle.frp_tree.specs.Grammar.{SpellsProgram}
use Rattle.frp_tree.specs.Tokens.{HasTokens}
use Rattle.frp_tree.specs.Tree.{ProgramTree}
use Rattle.efrp_syntax.specs.declared.faults.SyntaxFault.{SyntaxFault}
use Rattle.efrp_syntax.specs.declared.faults.SyntaxFault.TheVariants.{BadByte, TooBig, Unexpected, TooDeep, TooMany, Memory}
use Rattle.efrp_syntax.specs.Parsed.{OfTokens}
use Rattle.efrp_syntax.specs.Places.{IsTokenPlace}
use Rattle.efrp_types.specs.declared.faults.CheckFault.{CheckFault}
use Rattle.efrp_types.specs.Numbers.{decl_number}
use Rattle.checked_source.specs.Readings.{Reading, Passing, Faulty, Misused, Cyclic}
use Rattle.where_tool.specs.declared.parts.Part.{Part}
use Rattle.where_tool.specs.Messages.{syntax_message, check_message, cycle_message}
use Rattle.where_tool.specs.PartTokens.{fault_token, head_of}
use Rattle.where_tool.specs.Visits.{check_visits, first_part}

-- A text's program, with the cells of its tokens.
pub record IsMarked (text : List ℕ) (p : ProgramTree) (cells : List Cell) : Type 0 where
  pub cut : HasTokens text (tokens_of cells)
  pub spelled : SpellsProgram p cells
  pub within : IsWithinLimits cells

-- A fault of names or types stands at this token: at that of the first part that has a fault.
pub record IsMetAt (text : List ℕ) (fault : CheckFault) (part : Part) (n : ℕ) : Type 0 where
  pub program : ProgramTree
  pub cells : List Cell
  pub marked : IsMarked text program cells
  pub met : first_part (check_visits program) ≡ Some part
  pub number : n ≡ fault_token part fault cells

-- A definition that depends on itself stands at its name, behind its `let`.
pub record IsDefinedAt (text name : List ℕ) (n : ℕ) : Type 0 where
  pub program : ProgramTree
  pub cells : List Cell
  pub marked : IsMarked text program cells
  pub decl : ℕ
  pub named : decl_number program name ≡ Some decl
  pub number : n ≡ head_of Definitions decl cells + 1

-- The place of a fault of a text, in bytes from 0: a bad byte, and one at which a name or a number is too big; the first byte of
-- the token that is unexpected, too deep or one too many, or the end of the text where no token is left.
abbrev pub SyntaxPlace : List ℕ → SyntaxFault → ℕ → Type 0
SyntaxPlace text (BadByte at) place = place ≡ at
SyntaxPlace text (TooBig at) place = place ≡ at
SyntaxPlace text (Unexpected n) place = IsTokenPlace text n place
SyntaxPlace text (TooDeep n) place = IsTokenPlace text n place
SyntaxPlace text (TooMany kind) place = OfTokens text (λ tokens. (many : IsTooMany tokens kind) × IsTokenPlace text many.n place)
SyntaxPlace text Memory place = ⊥

-- What a text is read as stands at this place, where this message is told: a fault of names or types at its token's first
-- byte, a cycle at that of the definition's name.
abbrev pub PointsAt : List ℕ → Reading → ℕ → List ℕ → Type 0
PointsAt text (Passing p) place message = ⊥
PointsAt text (Faulty fault) place message = SyntaxPlace text fault place × (message ≡ syntax_message text fault)
PointsAt text (Misused fault) place message = (part : Part) × (n : ℕ) × IsMetAt text fault part n × IsTokenPlace text n place × (message ≡ check_message part fault)
PointsAt text (Cyclic event name) place message = (n : ℕ) × IsDefinedAt text name n × IsTokenPlace text n place × (message ≡ cycle_message event)
