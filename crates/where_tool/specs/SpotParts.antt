-- What the parts of a spot's search answer.
use Rattle.std.specs.Prelude.{◌≡◌, ◌≢◌, ℕ, ◌≤◌, List, ◌++◌, length, take, drop}
use Rattle.std.specs.List.{AllByRecursion}
use Rattle.frp_tree.specs.Tokens.{AtLineEnd}
use Rattle.where_tool.specs.Spots.{AreLines}

-- So many bytes are whole lines, and no LF stands behind them.
pub record IsLineStart (before : List ℕ) (start : ℕ) : Type 0 where
  pub within : start ≤ length before
  pub lines : AreLines (take start before)
  pub in_line : AllByRecursion (λ b. b ≢ 10) (drop start before)

-- These bytes go up to the end of the line.
pub record IsRestOfLine (rest line : List ℕ) : Type 0 where
  pub below : List ℕ
  pub whole : rest ≡ line ++ below
  pub in_line : AllByRecursion (λ b. b ≢ 10) line
  pub ends : AtLineEnd below
