-- Where the tokens of a text that spells no program break off: at the first token that no program goes on with, that nests
-- too deep, or that is one too many.
use Rattle.std.specs.Prelude.{◌≡◌, ℕ, ◌+◌, ◌<◌, ◌≤◌, List, [], ◌∷◌, ◌++◌, length, take, Some}
use Rattle.frp_tree.specs.declared.kinds.Kind.{Kind}
use Rattle.frp_tree.specs.declared.limits.TheConstants.{DEEPEST_NESTING, MOST_ENTRIES_OF_A_TABLE}
use Rattle.frp_tree.specs.declared.tokens.Token.{Token}
use Rattle.frp_tree.specs.Tree.{ProgramTree}
use Rattle.frp_tree.specs.Limits.{most}
use Rattle.frp_tree.specs.Cells.{Cell, tokens_of, count_of, IsWithinLimits}
use Rattle.frp_tree.specs.Grammar.{SpellsProgram, HasTree}

-- These cells begin a program, limits disregarded: some cells come after them.
pub record Begins (front : List Cell) : Type 0 where
  pub program : ProgramTree
  pub ahead : List Cell
  pub spelled : SpellsProgram program (front ++ ahead)

-- These tokens begin a program; and within the limits.
pub record IsViable (ts : List Token) : Type 0 where
  pub front : List Cell
  pub begins : Begins front
  pub tokens : tokens_of front ≡ ts

pub record IsViableWithin (ts : List Token) : Type 0 where
  pub front : List Cell
  pub begins : Begins front
  pub tokens : tokens_of front ≡ ts
  pub within : IsWithinLimits front

-- The first n tokens are the longest prefix with which some program begins, limits disregarded. No token of it passes a
-- limit, and the tokens have no tree.
pub record IsUnexpected (ts : List Token) (n : ℕ) : Type 0 where
  pub inside : n ≤ length ts
  pub viable : IsViableWithin (take n ts)
  pub longest : (k : ℕ) → n < k → k ≤ length ts → IsViable (take k ts) → ⊥
  pub no_tree : (p : ProgramTree) → HasTree p ts → ⊥

-- The token at this place is the first past a limit: it and those before begin a program, and those before are within.
pub record IsFirstPast (ts : List Token) (n : ℕ) : Type 0 where
  pub front : List Cell
  pub cell : Cell
  pub inside : n < length ts
  pub tokens : tokens_of (front ++ cell ∷ []) ≡ take (n + 1) ts
  pub begins : Begins (front ++ cell ∷ [])
  pub within : IsWithinLimits front

-- It opens a nesting that is too deep.
pub record IsTooDeep (ts : List Token) (n : ℕ) : Type 0 where
  pub first : IsFirstPast ts n
  pub deep : DEEPEST_NESTING < first.cell.opens

-- It doesn't, and begins one too many of a kind: of the program, or an entry too many for its table.
pub data IsOneTooMany (kind : Kind) (front : List Cell) (cell : Cell) : Type 0 where
  in_program : most kind < count_of kind (front ++ cell ∷ []) → IsOneTooMany kind front cell
  in_table : MOST_ENTRIES_OF_A_TABLE < cell.entry → IsOneTooMany kind front cell

pub record IsTooMany (ts : List Token) (kind : Kind) : Type 0 where
  pub n : ℕ
  pub first : IsFirstPast ts n
  pub shallow : first.cell.opens ≤ DEEPEST_NESTING
  pub begun : first.cell.begins ≡ Some kind
  pub many : IsOneTooMany kind first.front first.cell
