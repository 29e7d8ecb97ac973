-- What the parser answers of a text.
use Rattle.std.specs.Prelude.{◌≡◌, ℕ, List, Result, Ok, Err, ◌⊎◌}
use Rattle.frp_tree.specs.declared.syntax.Program.{Program}
use Rattle.frp_tree.specs.declared.tokens.Token.{Token}
use Rattle.frp_tree.specs.Tree.{ProgramTree, program_tree_of}
use Rattle.frp_tree.specs.Tokens.{HasTokens}
use Rattle.frp_tree.specs.Grammar.{Spells}
use Rattle.frp_tree.specs.Breaks.{IsUnexpected, IsTooDeep, IsTooMany}
use Rattle.efrp_syntax.specs.declared.faults.SyntaxFault.{SyntaxFault}
use Rattle.efrp_syntax.specs.declared.faults.SyntaxFault.TheVariants.{BadByte, TooBig, Unexpected, TooDeep, TooMany, Memory}
use Rattle.efrp_syntax.specs.Lexed.{Lexed}

-- The tokens of a text are such.
abbrev pub OfTokens : List ℕ → (List Token → Type 0) → Type 0
OfTokens text P = (tokens : List Token) × HasTokens text tokens × P tokens

-- A text has this fault: one of its bytes, or, where it has tokens, the first of its tokens. Out of memory is none of the text's.
abbrev pub HasFault : List ℕ → SyntaxFault → Type 0
HasFault text (BadByte place) = Lexed text (Err (BadByte place))
HasFault text (TooBig place) = Lexed text (Err (TooBig place))
HasFault text (Unexpected n) = OfTokens text (λ tokens. IsUnexpected tokens n)
HasFault text (TooDeep n) = OfTokens text (λ tokens. IsTooDeep tokens n)
HasFault text (TooMany kind) = OfTokens text (λ tokens. IsTooMany tokens kind)
HasFault text Memory = ⊥

-- The program that a text spells, or its fault, or out of memory.
abbrev pub Parsed : List ℕ → Result Program SyntaxFault → Type 0
Parsed text (Ok p) = Spells text (program_tree_of p)
Parsed text (Err fault) = HasFault text fault ⊎ (fault ≡ Memory)

-- The answer is this program, or out of memory; it is this fault, or out of memory.
abbrev pub IsProgram : ProgramTree → Result Program SyntaxFault → Type 0
IsProgram p (Ok parsed) = program_tree_of parsed ≡ p
IsProgram p (Err fault) = fault ≡ Memory

abbrev pub IsSyntaxFault : SyntaxFault → Result Program SyntaxFault → Type 0
IsSyntaxFault fault (Ok parsed) = ⊥
IsSyntaxFault fault (Err told) = (told ≡ fault) ⊎ (told ≡ Memory)
