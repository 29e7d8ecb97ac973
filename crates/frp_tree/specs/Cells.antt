-- The tokens of a program, each with what it opens and begins.
use Rattle.std.specs.Prelude.{ℕ, ◌≤◌, Bool, true, false, List, codes, count_by, map, Option, Some, None}
use Rattle.std.specs.List.{AllByRecursion}
use Rattle.frp_tree.specs.declared.kinds.Kind.{Kind}
use Rattle.frp_tree.specs.declared.kinds.Kind.TheVariants.{Events, Setups, Definitions, Outputs, Nodes, Entries}
use Rattle.frp_tree.specs.declared.limits.TheConstants.{DEEPEST_NESTING, MOST_ENTRIES_OF_A_TABLE}
use Rattle.frp_tree.specs.declared.syntax.Lit.{Lit}
use Rattle.frp_tree.specs.declared.syntax.Lit.TheVariants as lit
use Rattle.frp_tree.specs.declared.tokens.Token.{Token}
use Rattle.frp_tree.specs.declared.tokens.Token.TheVariants.{Word, Num, Wide}
use Rattle.frp_tree.specs.Limits.{most}

-- A token; the nesting that it opens, or 0; the kind of what it begins, if it begins something that is counted; and, where
-- that is an entry, its number in its table, from 1, else 0.
pub record Cell : Type 0 where
  pub token : Token
  pub opens : ℕ
  pub begins : Option Kind
  pub entry : ℕ

-- A token that opens and begins nothing; one that begins an item, or a node; one that opens a nesting, as a node or not.
abbrev pub plain : Token → Cell
plain t = record { token = t; opens = 0; begins = None; entry = 0 }

abbrev pub starting : Kind → Token → Cell
starting kind t = record { token = t; opens = 0; begins = Some kind; entry = 0 }

abbrev pub node : Token → Cell
node t = starting Nodes t

abbrev pub opening_node : ℕ → Token → Cell
opening_node nesting t = record { token = t; opens = nesting; begins = Some Nodes; entry = 0 }

abbrev pub opening : ℕ → Token → Cell
opening nesting t = record { token = t; opens = nesting; begins = None; entry = 0 }

-- The entry of this number in its table.
abbrev pub entry_cell : ℕ → Token → Cell
entry_cell number t = record { token = t; opens = 0; begins = Some Entries; entry = number }

abbrev pub tokens_of : List Cell → List Token
tokens_of cells = map (λ (c : Cell). c.token) cells

-- How a literal is written.
abbrev pub literal_token : Lit → Token
literal_token (lit.Plain n) = Num n
literal_token (lit.Wide n) = Wide n
literal_token (lit.Truth true) = Word (codes "true")
literal_token (lit.Truth false) = Word (codes "false")

abbrev pub is_kind : Kind → Kind → Bool
is_kind Events Events = true
is_kind Setups Setups = true
is_kind Definitions Definitions = true
is_kind Outputs Outputs = true
is_kind Nodes Nodes = true
is_kind Entries Entries = true
is_kind _ _ = false

abbrev pub is_of : Kind → Option Kind → Bool
is_of kind None = false
is_of kind (Some begun) = is_kind kind begun

-- How many of a kind these tokens begin.
abbrev pub count_of : Kind → List Cell → ℕ
count_of kind cells = count_by (λ (c : Cell). is_of kind c.begins) cells

-- No token opens a nesting that is too deep; none begins one too many of a kind, nor an entry too many for its table.
pub record IsWithinLimits (cells : List Cell) : Type 0 where
  pub shallow : AllByRecursion (λ (c : Cell). c.opens ≤ DEEPEST_NESTING) cells
  pub few : (kind : Kind) → count_of kind cells ≤ most kind
  pub short : AllByRecursion (λ (c : Cell). c.entry ≤ MOST_ENTRIES_OF_A_TABLE) cells
