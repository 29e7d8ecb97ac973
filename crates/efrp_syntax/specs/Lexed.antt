-- What the lexer answers of a text.
use Rattle.std.specs.Prelude.{◌≡◌, ℕ, ◌<◌, ◌≤◌, List, length, Result, Ok, Err, ◌⊎◌}
use Rattle.frp_tree.specs.declared.limits.TheConstants.{LONGEST_SOURCE}
use Rattle.frp_tree.specs.declared.tokens.Token.{Token}
use Rattle.frp_tree.specs.Tokens.{HasTokens, IsBadByte, IsTooBig}
use Rattle.efrp_syntax.specs.declared.faults.SyntaxFault.{SyntaxFault}
use Rattle.efrp_syntax.specs.declared.faults.SyntaxFault.TheVariants.{BadByte, TooBig, Unexpected, TooDeep, TooMany, Memory}

-- The fault is out of memory.
abbrev pub OnlyMemory : SyntaxFault → Type 0
OnlyMemory fault = fault ≡ Memory

-- What a text is cut into: its tokens, or the first fault by byte place. A text that is too long is told at
-- its first byte past the limit.
abbrev pub Lexed : List ℕ → Result (List Token) SyntaxFault → Type 0
Lexed text (Ok tokens) = HasTokens text tokens
Lexed text (Err (BadByte place)) = (length text ≤ LONGEST_SOURCE) × IsBadByte text place
Lexed text (Err (TooBig place)) = ((LONGEST_SOURCE < length text) × (place ≡ LONGEST_SOURCE)) ⊎ ((length text ≤ LONGEST_SOURCE) × IsTooBig text place)
Lexed text (Err Memory) = Unit {0}
Lexed text (Err (Unexpected tokens)) = ⊥
Lexed text (Err (TooDeep token)) = ⊥
Lexed text (Err (TooMany kind)) = ⊥

-- The answer is this fault, or out of memory.
abbrev pub IsRefused : SyntaxFault → Result (List Token) SyntaxFault → Type 0
IsRefused fault (Ok tokens) = ⊥
IsRefused fault (Err told) = (told ≡ fault) ⊎ (told ≡ Memory)
