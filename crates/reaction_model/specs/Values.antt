-- Values of expressions in memory, over those that stand at the numbers of definitions.
use Rattle.std.specs.Prelude.{ℕ, ◌%◌, false, if◌then◌else◌, min, List, [], ◌∷◌, slice_get, unwrap_or, Option, Some, None, option_and_then}
use Rattle.frp_tree.specs.declared.syntax.Ty.{Ty}
use Rattle.frp_tree.specs.declared.syntax.Ty.TheVariants as ty
use Rattle.frp_tree.specs.declared.syntax.Value.{Value}
use Rattle.frp_tree.specs.declared.syntax.Value.TheVariants as value
use Rattle.frp_tree.specs.declared.syntax.UnOp.{UnOp}
use Rattle.frp_tree.specs.declared.syntax.UnOp.TheVariants.{Com, Not}
use Rattle.frp_tree.specs.declared.syntax.BinOp.{BinOp}
use Rattle.frp_tree.specs.declared.syntax.BinOp.TheVariants.{BitOr, BitXor, BitAnd, Add, Sub, Mul, Div, Rem}
use Rattle.frp_tree.specs.declared.syntax.Side.{Side}
use Rattle.frp_tree.specs.Literals.{lit_value_of}
use Rattle.frp_tree.specs.Tree.{Tree, Const, Name, Unary, Binary, Shift, If, Convert, Look, BehaviourTree, Plain, Input, Table, Reactive, ProgramTree}
use Rattle.efrp_meaning.specs.Decls.{table_named}
use Rattle.efrp_meaning.specs.Values.{modulus, holds, number_of, unary_value, binary_value, shift_value, entry_at}
use Rattle.efrp_meaning.specs.Meaning.{Rule, Always, Sampled, Tabled, Now, Later, Stays}
use Rattle.efrp_types.specs.Numbers.{decl_number}

-- The type of a value.
abbrev pub type_of_value : Value → Ty
type_of_value (value.Bool b) = ty.Bool
type_of_value (value.U8 n) = ty.U8
type_of_value (value.U16 n) = ty.U16

-- The value of this type with this number. Of a number past the type's range u8 and u16 have the low bits, and bool is false.
abbrev pub value_in : Ty → ℕ → Value
value_in ty.Bool n = value.Bool (holds n)
value_in ty.U8 n = value.U8 (n % 256)
value_in ty.U16 n = value.U16 (n % 65536)

-- What stands where there is no value, and the value where there is one.
abbrev pub nothing : Value
nothing = value.Bool false

abbrev pub value_or_nothing : Option Value → Value
value_or_nothing o = unwrap_or o nothing

-- The type of an operator's result, by that of its left operand.
abbrev pub unary_result : UnOp → Ty → Ty
unary_result Com t = t
unary_result Not t = ty.Bool

abbrev pub binary_result : BinOp → Ty → Ty
binary_result BitOr t = t
binary_result BitXor t = t
binary_result BitAnd t = t
binary_result Add t = t
binary_result Sub t = t
binary_result Mul t = t
binary_result Div t = t
binary_result Rem t = t
binary_result _ t = ty.Bool

-- Operators on values. The left operand says how many values there are, and no shift is by more than 15 bits.
abbrev pub unary_on : UnOp → Value → Value
unary_on op a = value_in (unary_result op (type_of_value a)) (unary_value op (modulus (type_of_value a)) (number_of a))

abbrev pub binary_on : BinOp → Value → Value → Value
binary_on op a b = value_in (binary_result op (type_of_value a)) (binary_value op (modulus (type_of_value a)) (number_of a) (number_of b))

abbrev pub shift_on : Side → Value → ℕ → Value
shift_on side a amount = value_in (type_of_value a) (shift_value side (min amount 15) (modulus (type_of_value a)) (number_of a))

-- The value of an entry of the table of this name, or of its last one.
abbrev pub entry_in : ProgramTree → List ℕ → ℕ → Option Value
entry_in p table i = option_and_then (λ entries. option_and_then lit_value_of (entry_at entries i)) (table_named p table)

-- The value at the number of the definition of this name.
abbrev pub value_named : ProgramTree → List Value → List ℕ → Value
value_named p values x = value_or_nothing (option_and_then (slice_get values) (decl_number p x))

-- The value of an expression, where a name stands for the value at its definition's number.
abbrev pub value_of : ProgramTree → List Value → Tree → Value
value_of p values (Const literal) = value_or_nothing (lit_value_of literal)
value_of p values (Name x) = value_named p values x
value_of p values (Unary op a) = unary_on op (value_of p values a)
value_of p values (Binary op a b) = binary_on op (value_of p values a) (value_of p values b)
value_of p values (Shift side a amount) = shift_on side (value_of p values a) amount
value_of p values (If c a b) = if holds (number_of (value_of p values c)) then value_of p values a else value_of p values b
value_of p values (Convert to a) = value_in to (number_of (value_of p values a))
value_of p values (Look table index) = value_or_nothing (entry_in p table (number_of (value_of p values index)))

-- The first value of a definition that has a state.
abbrev pub first_values : BehaviourTree → List Value
first_values (Plain e) = []
first_values (Input port) = []
first_values (Table entries) = []
first_values (Reactive init clauses) = value_or_nothing (lit_value_of init) ∷ []

-- What stands at the number of a definition once its rule is followed, where `old` stood there before.
abbrev pub settled_by : ProgramTree → List Value → Value → Rule → Value
settled_by p values old (Always e) = value_of p values e
settled_by p values old Sampled = old
settled_by p values old Tabled = old
settled_by p values old (Now e) = value_of p values e
settled_by p values old (Later e) = old
settled_by p values old Stays = old

-- The new state of a definition by its rule, where `value` stands at its number. One that isn't reactive has none.
abbrev pub new_values_by : ProgramTree → List Value → Value → Rule → List Value
new_values_by p values value (Always e) = []
new_values_by p values value Sampled = []
new_values_by p values value Tabled = []
new_values_by p values value (Now e) = value ∷ []
new_values_by p values value (Later e) = value_of p values e ∷ []
new_values_by p values value Stays = value ∷ []

-- The byte of a value that is one.
abbrev pub byte_of : Value → ℕ
byte_of (value.Bool b) = 0
byte_of (value.U8 n) = n
byte_of (value.U16 n) = 0

-- The value of what an input reads.
abbrev pub sample_value : Option ℕ → Value
sample_value (Some n) = value.U8 n
sample_value None = nothing

abbrev pub sample_or_nothing : List ℕ → ℕ → Value
sample_or_nothing samples n = sample_value (slice_get samples n)
