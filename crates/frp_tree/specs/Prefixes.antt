-- What may stand at the beginning of a text: a blank, a comment or a token, and what follows it.
use Rattle.std.specs.Prelude.{◌≡◌, ◌≢◌, ℕ, ◌≤◌, length, Bool, true, false, ◌&&◌, List, ◌∷◌, ◌++◌, ◌⊎◌}
use Rattle.std.specs.List.{AllByRecursion}
use Rattle.text_parts.specs.Numbers.{IsNumber}
use Rattle.frp_tree.specs.Tokens.{is_blank, IsLexeme, IsLongest, starts_word, starts_comment, AtLineEnd}
use Rattle.frp_tree.specs.declared.tokens.Token.{Token}

-- A blank at the beginning of a text, and what follows it.
pub record IsBlank (text more : List ℕ) : Type 0 where
  pub byte : ℕ
  pub spelled : text ≡ byte ∷ more
  pub blank : is_blank byte ≡ true

-- A comment at the beginning of a text, and what follows it.
pub record IsComment (text more : List ℕ) : Type 0 where
  pub body : List ℕ
  pub spelled : text ≡ 47 ∷ 47 ∷ (body ++ more)
  pub in_line : AllByRecursion (λ b. b ≢ 10) body
  pub ends : AtLineEnd more

-- What is skipped at the beginning of a text.
abbrev pub Skips : List ℕ → List ℕ → Type 0
Skips text more = IsBlank text more ⊎ IsComment text more

-- The token at the beginning of a text, which may stand directly after a number, and what follows it.
pub record IsFirstToken (after : Bool) (text : List ℕ) (t : Token) (more : List ℕ) : Type 0 where
  pub w : List ℕ
  pub spelled : text ≡ w ++ more
  pub lexeme : IsLexeme w t
  pub longest : IsLongest w more
  pub no_comment : starts_comment text ≡ false
  pub allowed : (after && starts_word w) ≡ false

-- No longer prefix of the text is a number.
abbrev pub IsLongestNumber : List ℕ → List ℕ → Type 0
IsLongestNumber digits rest = (n : ℕ) (longer other : List ℕ) → IsNumber longer n → longer ++ other ≡ digits ++ rest → length longer ≤ length digits
