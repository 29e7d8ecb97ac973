-- What is true of the grammar and of what is printed, whatever the tokens.
use Rattle.std.specs.Prelude.{◌≡◌, ℕ, ◌≤◌, List, length}
use Rattle.frp_tree.specs.declared.tokens.Token.{Token}
use Rattle.frp_tree.specs.Tree.{ProgramTree}
use Rattle.frp_tree.specs.Grammar.{HasTree, Spells}
use Rattle.frp_tree.specs.Printed.{printed_tokens}

-- Tokens have at most one tree, and a text spells at most one program.
abbrev pub OneTree : Type 0
OneTree = (tokens : List Token) (p q : ProgramTree) → HasTree p tokens → HasTree q tokens → p ≡ q

abbrev pub OneProgram : Type 0
OneProgram = (text : List ℕ) (p q : ProgramTree) → Spells text p → Spells text q → p ≡ q

-- What is printed of a program is no more than any tokens that have its tree.
abbrev pub FewestBrackets : Type 0
FewestBrackets = (p : ProgramTree) (tokens : List Token) → HasTree p tokens → length (printed_tokens p) ≤ length tokens
