-- What the parts of the lexer answer: runs of bytes, numbers, marks and tokens at the beginning of a text.
use Rattle.std.specs.Prelude.{◌≡◌, ◌≢◌, ℕ, Bool, true, false, not, ◌&&◌, ◌||◌, ◌==◌, nat_le, if◌then◌else◌, List, [], ◌∷◌, ◌++◌, Option, Some, None, Result, Ok, Err, slice_get}
use Rattle.std.specs.List.{list_all}
use Rattle.std.specs.Borrow.{Bor}
use Rattle.text_parts.specs.Bytes.{is_digit, is_letter, is_hex_digit, begins}
use Rattle.text_parts.specs.Numbers.{IsNumber}
use Rattle.frp_tree.specs.Tokens.{marks, is_blank, IsLexeme, IsLongest, IsWithin, starts_word, starts_comment}
use Rattle.frp_tree.specs.Prefixes.{Skips, IsFirstToken, IsLongestNumber}
use Rattle.frp_tree.specs.declared.limits.TheConstants.{GREATEST_NUMBER}
use Rattle.frp_tree.specs.declared.tokens.Token.{Token}
use Rattle.efrp_syntax.specs.declared.classes.Class.{Class}
use Rattle.efrp_syntax.specs.declared.classes.Class.TheVariants.{Word, Digit, HexDigit, Line}
use Rattle.efrp_syntax.specs.declared.faults.SyntaxFault.{SyntaxFault}
use Rattle.efrp_syntax.specs.declared.faults.SyntaxFault.TheVariants.{BadByte, TooBig, Unexpected, TooDeep, TooMany, Memory}

-- The byte belongs to the class.
abbrev pub is_in : Class → ℕ → Bool
is_in Word b = is_letter b || is_digit b
is_in Digit b = is_digit b
is_in HexDigit b = is_hex_digit b
is_in Line b = not (b == 10)

-- The text is a prefix of bytes that all pass, and what follows doesn't begin with such a byte.
pub record IsRun (p : ℕ → Bool) (text prefix more : List ℕ) : Type 0 where
  pub spelled : text ≡ prefix ++ more
  pub all : list_all p prefix ≡ true
  pub ends : begins p more ≡ false

-- A number that is at most 65,535.
abbrev pub fitting : ℕ → Option ℕ
fitting n = if nat_le n GREATEST_NUMBER then Some n else None

-- The number at the beginning of a text, without a suffix, and what follows it. A value above 65,535 is None.
pub record IsFirstNumber (text : List ℕ) (value : Option ℕ) (more : List ℕ) : Type 0 where
  pub digits : List ℕ
  pub n : ℕ
  pub spelled : text ≡ digits ++ more
  pub number : IsNumber digits n
  pub longest : IsLongestNumber digits more
  pub told : value ≡ fitting n

-- The mark of this number at the beginning of a text, no prefix of a longer token, and what follows it.
pub record IsFirstMark (text : List ℕ) (number : ℕ) (more : List ℕ) : Type 0 where
  pub w : List ℕ
  pub spelled : text ≡ w ++ more
  pub mark : slice_get marks number ≡ Some w
  pub longest : IsLongest w more

-- No mark of two bytes begins the text.
abbrev pub HasNoLongMark : List ℕ → Type 0
HasNoLongMark text = (a b : ℕ) (more : List ℕ) (k : ℕ) → text ≡ a ∷ b ∷ more → slice_get marks k ≢ Some (a ∷ b ∷ [])

-- No mark begins the text.
abbrev pub HasNoMark : List ℕ → Type 0
HasNoMark text = (w more : List ℕ) (k : ℕ) → text ≡ w ++ more → slice_get marks k ≢ Some w

-- What follows the blank or the comment at the beginning of a text, or that neither is there.
abbrev pub Skipped : List ℕ → Option (Bor (List ℕ)) → Type 0
Skipped text None = ((b : ℕ) (more : List ℕ) → text ≡ b ∷ more → is_blank b ≡ false) × (starts_comment text ≡ false)
Skipped text (Some rest) = Skips text rest.now

-- No token begins the text, or only a name or a number, directly after a number.
abbrev pub HasNoFirstToken : Bool → List ℕ → Type 0
HasNoFirstToken after text = (t : Token) (w more : List ℕ) → IsLexeme w t → text ≡ w ++ more → (after && starts_word w) ≡ true

-- The token at the beginning of the text is past the limits.
pub record IsFirstTooBig (after : Bool) (text : List ℕ) : Type 0 where
  pub t : Token
  pub more : List ℕ
  pub prefix : IsFirstToken after text t more
  pub past : IsWithin t → ⊥

-- The token at the beginning of a text and what follows it, or the fault at this place.
abbrev pub Taken : Bool → List ℕ → ℕ → Result (Token × Bor (List ℕ)) SyntaxFault → Type 0
Taken after text place (Ok found) = IsFirstToken after text found.0 found.1.now × IsWithin found.0
Taken after text place (Err (BadByte at)) = (at ≡ place) × HasNoFirstToken after text
Taken after text place (Err (TooBig at)) = (at ≡ place) × IsFirstTooBig after text
Taken after text place (Err Memory) = Unit {0}
Taken after text place (Err (Unexpected tokens)) = ⊥
Taken after text place (Err (TooDeep token)) = ⊥
Taken after text place (Err (TooMany kind)) = ⊥
