-- What a source text is cut into: the marks, what each token is spelled as, the rule of the longest token, and the
-- faults of a text that has no tokens.
use Rattle.std.specs.Prelude.{◌≡◌, ◌≢◌, ℕ, ◌≤◌, ◌+◌, Bool, true, false, ◌&&◌, ◌||◌, ◌==◌, List, [], ◌∷◌, ◌++◌, length, Some, IsTrue, codes, slice_get}
use Rattle.std.specs.List.{AllByRecursion}
use Rattle.text_parts.specs.Bytes.{is_digit, is_letter}
use Rattle.text_parts.specs.Names.{has_form_of_name}
use Rattle.text_parts.specs.Numbers.{IsNumber}
use Rattle.text_parts.specs.declared.names.TheConstants.{LONGEST_NAME}
use Rattle.frp_tree.specs.declared.limits.TheConstants.{LONGEST_SOURCE, GREATEST_NUMBER}
use Rattle.frp_tree.specs.declared.tokens.Token.{Token}
use Rattle.frp_tree.specs.declared.tokens.Token.TheVariants as token

-- The marks, in the order of their numbers, which have names in `frp_tree::marks`.
abbrev pub marks : List (List ℕ)
marks =
    codes ";" ∷ codes ":" ∷ codes "=" ∷ codes "{" ∷ codes "}" ∷ codes "(" ∷ codes ")" ∷ codes "=>" ∷ codes "||" ∷ codes "&&"
    ∷ codes "==" ∷ codes "!=" ∷ codes "<" ∷ codes "<=" ∷ codes ">" ∷ codes ">=" ∷ codes "|" ∷ codes "^" ∷ codes "&"
    ∷ codes "<<" ∷ codes ">>" ∷ codes "+" ∷ codes "-" ∷ codes "*" ∷ codes "/" ∷ codes "%" ∷ codes "~" ∷ codes "!" ∷ codes "["
    ∷ codes "]" ∷ codes "," ∷ []

-- Space, tab, CR or LF.
abbrev pub is_blank : ℕ → Bool
is_blank b = b == 32 || b == 9 || b == 13 || b == 10

-- The bytes spell the token.
abbrev pub IsLexeme : List ℕ → Token → Type 0
IsLexeme w (token.Word name) = IsTrue (has_form_of_name w) × (name ≡ w)
IsLexeme w (token.Num n) = IsNumber w n
IsLexeme w (token.Wide n) = (digits : List ℕ) × (w ≡ digits ++ codes "w") × IsNumber digits n
IsLexeme w (token.Mark k) = slice_get marks k ≡ Some w

-- No longer prefix of the text spells a token.
abbrev pub IsLongest : List ℕ → List ℕ → Type 0
IsLongest w rest = (t : Token) (longer other : List ℕ) → IsLexeme longer t → longer ++ other ≡ w ++ rest → length longer ≤ length w

abbrev pub is_number_token : Token → Bool
is_number_token (token.Word name) = false
is_number_token (token.Num n) = true
is_number_token (token.Wide n) = true
is_number_token (token.Mark k) = false

-- The text begins a name or a number.
abbrev pub starts_word : List ℕ → Bool
starts_word [] = false
starts_word (b ∷ bs) = is_letter b || is_digit b

abbrev pub starts_comment : List ℕ → Bool
starts_comment (a ∷ b ∷ bs) = a == 47 && b == 47
starts_comment _ = false

-- The text is at its end, or at the end of a line.
abbrev pub AtLineEnd : List ℕ → Type 0
AtLineEnd [] = Unit {0}
AtLineEnd (b ∷ bs) = b ≡ 10

-- A text is cut into tokens up to some rest: blanks and comments are skipped, a comment goes from `//` to the
-- end of its line, and otherwise the longest token is taken, which is no name and no number where a
-- number stands directly before. The first Bool says that a number stands directly before the text, and
-- the second that one stands directly before the rest.
pub data Cuts : Bool → List ℕ → List Token → Bool → List ℕ → Type 0 where
  here : {after : Bool} {bs : List ℕ} → Cuts after bs [] after bs
  blank : {after last : Bool} {b : ℕ} {bs rest : List ℕ} {ts : List Token} → is_blank b ≡ true → Cuts false bs ts last rest → Cuts after (b ∷ bs) ts last rest
  comment : {after last : Bool} {rest : List ℕ} {ts : List Token} (body more : List ℕ) → AllByRecursion (λ b. b ≢ 10) body → AtLineEnd more → Cuts false more ts last rest → Cuts after (47 ∷ 47 ∷ (body ++ more)) ts last rest
  lexeme : {after last : Bool} {rest : List ℕ} {t : Token} {ts : List Token} (w more : List ℕ) → IsLexeme w t → IsLongest w more → starts_comment (w ++ more) ≡ false → (after && starts_word w) ≡ false → Cuts (is_number_token t) more ts last rest → Cuts after (w ++ more) (t ∷ ts) last rest

-- Names have at most 31 bytes, and numbers are at most 65,535.
abbrev pub IsWithin : Token → Type 0
IsWithin (token.Word name) = length name ≤ LONGEST_NAME
IsWithin (token.Num n) = n ≤ GREATEST_NUMBER
IsWithin (token.Wide n) = n ≤ GREATEST_NUMBER
IsWithin (token.Mark k) = Unit {0}

-- The tokens of a text, all within the limits. A text has at most one such list.
abbrev pub HasTokens : List ℕ → List Token → Type 0
HasTokens text ts = (length text ≤ LONGEST_SOURCE) × (last : Bool) × Cuts false text ts last [] × AllByRecursion IsWithin ts

-- Tokens within the limits lead up to the byte at this place, where the rest begins.
pub record Reaches (text : List ℕ) (place : ℕ) (after : Bool) (rest : List ℕ) : Type 0 where
  pub tokens : List Token
  pub cut : Cuts false text tokens after rest
  pub within : AllByRecursion IsWithin tokens
  pub at : length text ≡ place + length rest

-- No token, blank or comment begins at this place, or a name or a number begins there directly after a
-- number.
pub record IsBadByte (text : List ℕ) (place : ℕ) : Type 0 where
  pub after : Bool
  pub rest : List ℕ
  pub reached : Reaches text place after rest
  pub some : rest ≢ []
  pub no_blank : (b : ℕ) (bs : List ℕ) → rest ≡ b ∷ bs → is_blank b ≡ false
  pub no_comment : starts_comment rest ≡ false
  pub no_token : (t : Token) (w more : List ℕ) → IsLexeme w t → rest ≡ w ++ more → (after && starts_word w) ≡ true

-- The token at this place is a name or a number past the limits.
pub record IsTooBig (text : List ℕ) (place : ℕ) : Type 0 where
  pub after : Bool
  pub t : Token
  pub w : List ℕ
  pub more : List ℕ
  pub reached : Reaches text place after (w ++ more)
  pub lexeme : IsLexeme w t
  pub longest : IsLongest w more
  pub no_comment : starts_comment (w ++ more) ≡ false
  pub allowed : (after && starts_word w) ≡ false
  pub past : IsWithin t → ⊥
