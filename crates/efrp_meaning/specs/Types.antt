-- The type of an expression, and which programs are typed.
use Rattle.std.specs.Prelude.{◌≡◌, ℕ, ◌<◌, Bool, true, false, nat_le, List, length, Option, Some, None, option_and_then, if◌then◌else◌}
use Rattle.std.specs.List.{AllByRecursion}
use Rattle.frp_tree.specs.declared.syntax.Ty.{Ty}
use Rattle.frp_tree.specs.declared.syntax.Ty.TheVariants.{U8, U16}
use Rattle.frp_tree.specs.declared.syntax.Ty.TheVariants as ty
use Rattle.frp_tree.specs.declared.syntax.Lit.{Lit}
use Rattle.frp_tree.specs.declared.syntax.Lit.TheVariants as lit
use Rattle.frp_tree.specs.declared.syntax.UnOp.{UnOp}
use Rattle.frp_tree.specs.declared.syntax.UnOp.TheVariants.{Com, Not}
use Rattle.frp_tree.specs.declared.syntax.BinOp.{BinOp}
use Rattle.frp_tree.specs.declared.syntax.BinOp.TheVariants.{Or, And, Eq, Ne, Lt, Le, Gt, Ge, BitOr, BitXor, BitAnd, Add, Sub, Mul, Div, Rem}
use Rattle.frp_tree.specs.Tree.{Tree, Const, Name, Unary, Binary, Shift, If, Convert, Look, ClauseTree, BehaviourTree, Plain, Input, Table, Reactive, DeclTree, OutputTree, ProgramTree}
use Rattle.efrp_meaning.specs.Decls.{decl_named, is_table}

-- The type that a definition's name has as an expression: a table's has none. And that of a table's entries.
abbrev pub value_type : DeclTree → Option Ty
value_type d = if is_table d.behaviour then None else Some d.ty

abbrev pub entry_type : DeclTree → Option Ty
entry_type d = if is_table d.behaviour then Some d.ty else None

abbrev pub type_of_name : ProgramTree → List ℕ → Option Ty
type_of_name p name = option_and_then value_type (decl_named p.decls name)

abbrev pub type_of_table : ProgramTree → List ℕ → Option Ty
type_of_table p name = option_and_then entry_type (decl_named p.decls name)

-- The type of a literal. A number with no suffix is a u8, so one above 255 has none; one with it is a u16, so one above
-- 65,535 has none.
abbrev pub literal_type : Lit → Option Ty
literal_type (lit.Plain n) = if nat_le n 255 then Some U8 else None
literal_type (lit.Wide n) = if nat_le n 65535 then Some U16 else None
literal_type (lit.Truth b) = Some ty.Bool

abbrev pub same_type : Ty → Ty → Bool
same_type ty.Bool ty.Bool = true
same_type U8 U8 = true
same_type U16 U16 = true
same_type _ _ = false

-- A type, where it is that of a number.
abbrev pub number_type : Option Ty → Option Ty
number_type (Some U8) = Some U8
number_type (Some U16) = Some U16
number_type _ = None

-- A type, where it is bool.
abbrev pub bool_type : Option Ty → Option Ty
bool_type (Some ty.Bool) = Some ty.Bool
bool_type _ = None

-- A type, where both have it.
abbrev pub common_type : Option Ty → Option Ty → Option Ty
common_type (Some a) (Some b) = if same_type a b then Some a else None
common_type _ _ = None

-- bool, where there is a type.
abbrev pub to_bool : Option Ty → Option Ty
to_bool None = None
to_bool (Some t) = Some ty.Bool

abbrev pub unary_type : UnOp → Option Ty → Option Ty
unary_type Com a = number_type a
unary_type Not a = bool_type a

abbrev pub binary_type : BinOp → Option Ty → Option Ty → Option Ty
binary_type Or a b = bool_type (common_type a b)
binary_type And a b = bool_type (common_type a b)
binary_type Eq a b = to_bool (common_type a b)
binary_type Ne a b = to_bool (common_type a b)
binary_type Lt a b = to_bool (number_type (common_type a b))
binary_type Le a b = to_bool (number_type (common_type a b))
binary_type Gt a b = to_bool (number_type (common_type a b))
binary_type Ge a b = to_bool (number_type (common_type a b))
binary_type BitOr a b = number_type (common_type a b)
binary_type BitXor a b = number_type (common_type a b)
binary_type BitAnd a b = number_type (common_type a b)
binary_type Add a b = number_type (common_type a b)
binary_type Sub a b = number_type (common_type a b)
binary_type Mul a b = number_type (common_type a b)
binary_type Div a b = number_type (common_type a b)
binary_type Rem a b = number_type (common_type a b)

-- A shift's amount is below the width of its operand.
abbrev pub shift_type : Option Ty → ℕ → Option Ty
shift_type (Some U8) amount = if nat_le amount 7 then Some U8 else None
shift_type (Some U16) amount = if nat_le amount 15 then Some U16 else None
shift_type _ amount = None

abbrev pub if_type : Option Ty → Option Ty → Option Ty → Option Ty
if_type (Some ty.Bool) a b = common_type a b
if_type _ a b = None

-- `u8( )` takes a bool or a u16, and `u16( )` a bool or a u8.
abbrev pub convert_type : Ty → Option Ty → Option Ty
convert_type U8 (Some ty.Bool) = Some U8
convert_type U8 (Some U16) = Some U8
convert_type U16 (Some ty.Bool) = Some U16
convert_type U16 (Some U8) = Some U16
convert_type _ _ = None

-- The index of a look-up is a u8, and the entry has the table's type.
abbrev pub look_type : Option Ty → Option Ty → Option Ty
look_type t (Some U8) = t
look_type t _ = None

-- The type of an expression in a program, where it has one: each operator's operands are alike and of the types that it takes,
-- each name is that of a definition that is no table, and each that is indexed a table's. A conversion to bool has none.
abbrev pub type_of : ProgramTree → Tree → Option Ty
type_of p (Const literal) = literal_type literal
type_of p (Name name) = type_of_name p name
type_of p (Unary op a) = unary_type op (type_of p a)
type_of p (Binary op a b) = binary_type op (type_of p a) (type_of p b)
type_of p (Shift side a amount) = shift_type (type_of p a) amount
type_of p (If c a b) = if_type (type_of p c) (type_of p a) (type_of p b)
type_of p (Convert to a) = convert_type to (type_of p a)
type_of p (Look table index) = look_type (type_of_table p table) (type_of p index)

-- A definition has this type: its expressions, its first value and its entries have it, and an input is a u8.
abbrev pub IsTypedAs : ProgramTree → Ty → BehaviourTree → Type 0
IsTypedAs p t (Plain e) = type_of p e ≡ Some t
IsTypedAs p t (Input port) = t ≡ U8
IsTypedAs p t (Table entries) = (0 < length entries) × AllByRecursion (λ (entry : Lit). literal_type entry ≡ Some t) entries
IsTypedAs p t (Reactive init clauses) = (literal_type init ≡ Some t) × AllByRecursion (λ (c : ClauseTree). type_of p c.expr ≡ Some t) clauses

-- Each definition has its declared type, and each output is a u8.
pub record IsTyped (p : ProgramTree) : Type 0 where
  pub decls : AllByRecursion (λ (d : DeclTree). IsTypedAs p d.ty d.behaviour) p.decls
  pub outputs : AllByRecursion (λ (o : OutputTree). type_of p o.expr ≡ Some U8) p.outputs
