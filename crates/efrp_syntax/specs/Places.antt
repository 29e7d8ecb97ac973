-- Where the tokens of a text begin.
use Rattle.std.specs.Prelude.{◌≡◌, ℕ, ◌≤◌, Bool, List, length, ◌⊎◌}
use Rattle.frp_tree.specs.declared.tokens.Token.{Token}
use Rattle.frp_tree.specs.Tokens.{HasTokens, Reaches}
use Rattle.frp_tree.specs.Prefixes.{IsFirstToken}

-- The token with this number, counted from 0, begins at this byte: so many tokens lead up to it, and one begins there.
pub record BeginsAt (text : List ℕ) (n place : ℕ) : Type 0 where
  pub after : Bool
  pub rest : List ℕ
  pub token : Token
  pub more : List ℕ
  pub reached : Reaches text place after rest
  pub number : length reached.tokens ≡ n
  pub first : IsFirstToken after rest token more

-- There is no token with this number, and this is the end of the text.
pub record EndsAt (text : List ℕ) (n place : ℕ) : Type 0 where
  pub tokens : List Token
  pub cut : HasTokens text tokens
  pub few : length tokens ≤ n
  pub «at» : place ≡ length text

-- The first byte of the token with this number; or the end of the text, where it has no more tokens.
abbrev pub IsTokenPlace : List ℕ → ℕ → ℕ → Type 0
IsTokenPlace text n place = BeginsAt text n place ⊎ EndsAt text n place
