-- The nodes of each kind of expression, and conversions.
use Rattle.std.specs.Prelude.{◌≡◌, [], ◌∷◌, codes, refl, true, false}
use Rattle.frp_tree.specs.declared.syntax.Ty.TheVariants.{Bool, U8, U16}
use Rattle.frp_tree.specs.declared.syntax.Lit.TheVariants as lit
use Rattle.frp_tree.specs.declared.syntax.UnOp.TheVariants.{Com}
use Rattle.frp_tree.specs.declared.syntax.BinOp.TheVariants.{Add}
use Rattle.frp_tree.specs.declared.syntax.Side.TheVariants.{Left}
use Rattle.frp_tree.specs.Tree.{Tree, Const, Name, Unary, Binary, Shift, If, Convert, Look, Input, Table}
use Rattle.frp_tree.specs.Limits.{nodes, nodes_in, entries_in, converts_to_numbers}

abbrev one : Tree
one = Const (lit.Plain 1)

abbrev name : Tree
name = Name (codes "n")

pub nodes_of_literal : nodes one ≡ 1
nodes_of_literal = refl

pub nodes_of_name : nodes name ≡ 1
nodes_of_name = refl

pub nodes_of_unary : nodes (Unary Com one) ≡ 2
nodes_of_unary = refl

pub nodes_of_sum : nodes (Binary Add one name) ≡ 3
nodes_of_sum = refl

-- The amount of a shift is no node.
pub nodes_of_shift : nodes (Shift Left one 1) ≡ 2
nodes_of_shift = refl

pub nodes_of_if : nodes (If one name one) ≡ 4
nodes_of_if = refl

pub nodes_of_conversion : nodes (Convert U16 one) ≡ 2
nodes_of_conversion = refl

-- The table of a look-up is none either.
pub nodes_of_look : nodes (Look (codes "t") one) ≡ 2
nodes_of_look = refl

-- Nor is an input, or an entry.
pub nodes_of_input : nodes_in (Input (codes "PORTB")) ≡ 0
nodes_of_input = refl

pub nodes_of_table : nodes_in (Table (lit.Plain 1 ∷ lit.Plain 2 ∷ [])) ≡ 0
nodes_of_table = refl

pub entries_of_table : entries_in (Table (lit.Plain 1 ∷ lit.Plain 2 ∷ [])) ≡ 2
entries_of_table = refl

pub to_u8 : converts_to_numbers (Convert U8 one) ≡ true
to_u8 = refl

pub to_u16 : converts_to_numbers (Binary Add name (Convert U16 one)) ≡ true
to_u16 = refl

pub to_bool : converts_to_numbers (If one name (Convert Bool one)) ≡ false
to_bool = refl
