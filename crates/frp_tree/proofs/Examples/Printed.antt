-- What is printed of some trees, with brackets where they are needed, and of a small program.
use Rattle.std.specs.Prelude.{◌≡◌, [], ◌∷◌, codes, true, false, refl}
use Rattle.std.specs.Fmt.{digits}
use Rattle.frp_tree.specs.declared.syntax.Ty.TheVariants as ty
use Rattle.frp_tree.specs.declared.syntax.Lit.TheVariants as lit
use Rattle.frp_tree.specs.declared.syntax.UnOp.TheVariants.{Com, Not}
use Rattle.frp_tree.specs.declared.syntax.BinOp.TheVariants as binary
use Rattle.frp_tree.specs.declared.syntax.Side.TheVariants.{Left, Right}
use Rattle.frp_tree.specs.Tree.{Tree, Const, Name, Unary, Binary, Shift, If, Convert, Look, Input, Table, Reactive, ProgramTree}
use Rattle.frp_tree.specs.Printed.{bare, spaced, decl_item, line, printed}

abbrev a : Tree
a = Name (codes "a")

abbrev b : Tree
b = Name (codes "b")

abbrev c : Tree
c = Name (codes "c")

abbrev d : Tree
d = Name (codes "d")

abbrev two : Tree
two = Const (lit.Plain 2)

-- A sum within a product has brackets, a product within a sum none.
sum_in_product : spaced (bare (Binary binary.Mul (Binary binary.Add a b) c)) ≡ codes "( a + b ) * c "
sum_in_product = refl

product_in_sum : spaced (bare (Binary binary.Add (Binary binary.Mul a b) c)) ≡ codes "a * b + c "
product_in_sum = refl

-- A difference on the right of a difference has them, one on its left none.
right_of_difference : spaced (bare (Binary binary.Sub a (Binary binary.Sub b c))) ≡ codes "a - ( b - c ) "
right_of_difference = refl

left_of_difference : spaced (bare (Binary binary.Sub (Binary binary.Sub a b) c)) ≡ codes "a - b - c "
left_of_difference = refl

-- Comparisons don't stand in a row.
comparison_of_comparison : spaced (bare (Binary binary.Eq (Binary binary.Lt a b) c)) ≡ codes "( a < b ) == c "
comparison_of_comparison = refl

sign_of_name : spaced (bare (Unary Not a)) ≡ codes "! a "
sign_of_name = refl

sign_of_sign : spaced (bare (Unary Com (Unary Com a))) ≡ codes "~ ~ a "
sign_of_sign = refl

sign_of_sum : spaced (bare (Unary Com (Binary binary.Add a b))) ≡ codes "~ ( a + b ) "
sign_of_sum = refl

-- A choice has brackets everywhere but where an expression is whole.
choice_in_sum : spaced (bare (Binary binary.Add (If a b c) d)) ≡ codes "( if a then b else c ) + d "
choice_in_sum = refl

sum_in_choice : spaced (bare (If a b (Binary binary.Add c d))) ≡ codes "if a then b else c + d "
sum_in_choice = refl

choice_in_choice : spaced (bare (If (If a b c) a (If b c d))) ≡ codes "if if a then b else c then a else if b then c else d "
choice_in_choice = refl

shift_of_shift : spaced (bare (Shift Left (Shift Right a 1) 2)) ≡ codes "a >> 1 << 2 "
unfolding digits
shift_of_shift = refl

shift_of_sum : spaced (bare (Shift Left (Binary binary.BitAnd a b) 1)) ≡ codes "( a & b ) << 1 "
unfolding digits
shift_of_sum = refl

look_up : spaced (bare (Look (codes "t") (Binary binary.Add a two))) ≡ codes "t [ a + 2 ] "
unfolding digits
look_up = refl

conversion : spaced (bare (Convert ty.U16 (Binary binary.Add a (Const (lit.Wide 500))))) ≡ codes "u16 ( a + 500w ) "
unfolding digits
conversion = refl

table : line (decl_item (record { name = codes "t"; ty = ty.Bool; behaviour = Table (lit.Truth true ∷ lit.Truth false ∷ []) })) ≡ codes "let t : bool = table { true , false } ;\n"
table = refl

input : line (decl_item (record { name = codes "x"; ty = ty.U8; behaviour = Input (codes "PORTB") })) ≡ codes "let x : u8 = input PORTB ;\n"
input = refl

later : line (decl_item (record { name = codes "x"; ty = ty.Bool; behaviour = Reactive (lit.Truth true) (record { event = codes "e"; expr = Unary Not (Name (codes "x")); later = true } ∷ []) }))
    ≡ codes "let x : bool = init true in { e => ! x later ; } ;\n"
later = refl

abbrev counter : ProgramTree
counter = record {
  events = record { name = codes "Tick"; source = codes "INT"; priority = 1 } ∷ [];
  setups = record { register = codes "TRISB"; byte = 0 } ∷ [];
  decls = record { name = codes "n"; ty = ty.U8; behaviour = Reactive (lit.Plain 0) (record { event = codes "Tick"; expr = Binary binary.Add (Name (codes "n")) (Const (lit.Plain 1)); later = false } ∷ []) } ∷ [];
  outputs = record { port = codes "PORTB"; expr = Name (codes "n") } ∷ [];
}

-- A counter of ticks.
printed_counter : printed counter ≡ codes "event Tick = INT priority 1 ;\nsetup TRISB = 0 ;\nlet n : u8 = init 0 in { Tick => n + 1 ; } ;\noutput PORTB = n ;\n"
unfolding digits
printed_counter = refl
