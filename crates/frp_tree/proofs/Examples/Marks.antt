-- The names of the marks are those of their texts.
use Rattle.std.proofs.Common.{◌≡◌, Some, codes, slice_get, refl}
use Rattle.frp_tree.specs.Tokens.{marks}
use Rattle.frp_tree.specs.declared.marks.TheConstants.{SEMICOLON, COLON, EQUALS, OPENING_BRACE, CLOSING_BRACE, OPENING_PARENTHESIS, CLOSING_PARENTHESIS, ARROW, OR, AND, EQUAL_TO, DIFFERENT_FROM, LESS, LESS_OR_EQUAL, GREATER, GREATER_OR_EQUAL, BIT_OR, BIT_XOR, BIT_AND, SHIFT_LEFT, SHIFT_RIGHT, PLUS, MINUS, TIMES, DIVIDED_BY, REMAINDER, BIT_NOT, NOT, OPENING_BRACKET, CLOSING_BRACKET, COMMA}

semicolon : slice_get marks SEMICOLON ≡ Some (codes ";")
semicolon = refl

colon : slice_get marks COLON ≡ Some (codes ":")
colon = refl

equals : slice_get marks EQUALS ≡ Some (codes "=")
equals = refl

opening_brace : slice_get marks OPENING_BRACE ≡ Some (codes "{")
opening_brace = refl

closing_brace : slice_get marks CLOSING_BRACE ≡ Some (codes "}")
closing_brace = refl

opening_parenthesis : slice_get marks OPENING_PARENTHESIS ≡ Some (codes "(")
opening_parenthesis = refl

closing_parenthesis : slice_get marks CLOSING_PARENTHESIS ≡ Some (codes ")")
closing_parenthesis = refl

arrow : slice_get marks ARROW ≡ Some (codes "=>")
arrow = refl

or : slice_get marks OR ≡ Some (codes "||")
or = refl

and : slice_get marks AND ≡ Some (codes "&&")
and = refl

equal_to : slice_get marks EQUAL_TO ≡ Some (codes "==")
equal_to = refl

different_from : slice_get marks DIFFERENT_FROM ≡ Some (codes "!=")
different_from = refl

less : slice_get marks LESS ≡ Some (codes "<")
less = refl

less_or_equal : slice_get marks LESS_OR_EQUAL ≡ Some (codes "<=")
less_or_equal = refl

greater : slice_get marks GREATER ≡ Some (codes ">")
greater = refl

greater_or_equal : slice_get marks GREATER_OR_EQUAL ≡ Some (codes ">=")
greater_or_equal = refl

bit_or : slice_get marks BIT_OR ≡ Some (codes "|")
bit_or = refl

bit_xor : slice_get marks BIT_XOR ≡ Some (codes "^")
bit_xor = refl

bit_and : slice_get marks BIT_AND ≡ Some (codes "&")
bit_and = refl

shift_left : slice_get marks SHIFT_LEFT ≡ Some (codes "<<")
shift_left = refl

shift_right : slice_get marks SHIFT_RIGHT ≡ Some (codes ">>")
shift_right = refl

plus : slice_get marks PLUS ≡ Some (codes "+")
plus = refl

minus : slice_get marks MINUS ≡ Some (codes "-")
minus = refl

times : slice_get marks TIMES ≡ Some (codes "*")
times = refl

divided_by : slice_get marks DIVIDED_BY ≡ Some (codes "/")
divided_by = refl

remainder : slice_get marks REMAINDER ≡ Some (codes "%")
remainder = refl

bit_not : slice_get marks BIT_NOT ≡ Some (codes "~")
bit_not = refl

not : slice_get marks NOT ≡ Some (codes "!")
not = refl

opening_bracket : slice_get marks OPENING_BRACKET ≡ Some (codes "[")
opening_bracket = refl

closing_bracket : slice_get marks CLOSING_BRACKET ≡ Some (codes "]")
closing_bracket = refl

comma : slice_get marks COMMA ≡ Some (codes ",")
comma = refl
