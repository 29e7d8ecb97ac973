-- The faults of a program's types, in the order in which they are met: setups, definitions, outputs; in an expression the
-- operands from left to right, then the node.
use Rattle.std.specs.Prelude.{ℕ, not, nat_lt, List, [], ◌∷◌, ◌++◌, Option, Some, None}
use Rattle.std.specs.List.{flat_map}
use Rattle.frp_tree.specs.declared.syntax.Ty.{Ty}
use Rattle.frp_tree.specs.declared.syntax.Ty.TheVariants.{U8, U16}
use Rattle.frp_tree.specs.declared.syntax.Ty.TheVariants as ty
use Rattle.frp_tree.specs.declared.syntax.Lit.{Lit}
use Rattle.frp_tree.specs.declared.syntax.Setup.{Setup}
use Rattle.frp_tree.specs.declared.syntax.UnOp.{UnOp}
use Rattle.frp_tree.specs.declared.syntax.UnOp.TheVariants.{Com, Not}
use Rattle.frp_tree.specs.declared.syntax.BinOp.{BinOp}
use Rattle.frp_tree.specs.declared.syntax.BinOp.TheVariants.{Or, And, Eq, Ne, Lt, Le, Gt, Ge, BitOr, BitXor, BitAnd, Add, Sub, Mul, Div, Rem}
use Rattle.frp_tree.specs.Tree.{Tree, Const, Name, Unary, Binary, Shift, If, Convert, Look, ClauseTree, BehaviourTree, Plain, Input, Table, Reactive, DeclTree, OutputTree, ProgramTree}
use Rattle.efrp_meaning.specs.Types.{literal_type, same_type, type_of}
use Rattle.efrp_types.specs.declared.faults.CheckFault.{CheckFault}
use Rattle.efrp_types.specs.declared.faults.CheckFault.TheVariants.{LiteralRange, BadShift, TypeOf}
use Rattle.efrp_types.specs.NameFaults.{fault_if}

-- One type is wanted and another found; a number is wanted.
abbrev pub unlike : List ℕ → Ty → Ty → List CheckFault
unlike owner wanted found = fault_if (not (same_type wanted found)) (TypeOf owner wanted found)

abbrev pub no_number : List ℕ → Ty → List CheckFault
no_number owner ty.Bool = TypeOf owner U8 ty.Bool ∷ []
no_number owner U8 = []
no_number owner U16 = []

-- What a node finds in the types of its operands.
abbrev pub unary_faults : List ℕ → UnOp → Ty → List CheckFault
unary_faults owner Com a = no_number owner a
unary_faults owner Not a = unlike owner ty.Bool a

abbrev pub binary_faults : List ℕ → BinOp → Ty → Ty → List CheckFault
binary_faults owner Or a b = unlike owner ty.Bool a ++ unlike owner ty.Bool b
binary_faults owner And a b = unlike owner ty.Bool a ++ unlike owner ty.Bool b
binary_faults owner Eq a b = unlike owner a b
binary_faults owner Ne a b = unlike owner a b
binary_faults owner Lt a b = no_number owner a ++ unlike owner a b
binary_faults owner Le a b = no_number owner a ++ unlike owner a b
binary_faults owner Gt a b = no_number owner a ++ unlike owner a b
binary_faults owner Ge a b = no_number owner a ++ unlike owner a b
binary_faults owner BitOr a b = no_number owner a ++ unlike owner a b
binary_faults owner BitXor a b = no_number owner a ++ unlike owner a b
binary_faults owner BitAnd a b = no_number owner a ++ unlike owner a b
binary_faults owner Add a b = no_number owner a ++ unlike owner a b
binary_faults owner Sub a b = no_number owner a ++ unlike owner a b
binary_faults owner Mul a b = no_number owner a ++ unlike owner a b
binary_faults owner Div a b = no_number owner a ++ unlike owner a b
binary_faults owner Rem a b = no_number owner a ++ unlike owner a b

abbrev pub shift_faults : List ℕ → ℕ → Ty → List CheckFault
shift_faults owner amount ty.Bool = TypeOf owner U8 ty.Bool ∷ []
shift_faults owner amount U8 = fault_if (nat_lt 7 amount) (BadShift owner)
shift_faults owner amount U16 = fault_if (nat_lt 15 amount) (BadShift owner)

abbrev pub convert_faults : List ℕ → Ty → Ty → List CheckFault
convert_faults owner U8 U8 = TypeOf owner U16 U8 ∷ []
convert_faults owner U16 U16 = TypeOf owner U8 U16 ∷ []
convert_faults owner to a = []

-- The faults of a node, where its operands have types.
abbrev pub node_of_one : (Ty → List CheckFault) → Option Ty → List CheckFault
node_of_one faults (Some a) = faults a
node_of_one faults None = []

abbrev pub node_of_two : (Ty → Ty → List CheckFault) → Option Ty → Option Ty → List CheckFault
node_of_two faults (Some a) (Some b) = faults a b
node_of_two faults _ _ = []

abbrev pub node_of_three : (Ty → Ty → Ty → List CheckFault) → Option Ty → Option Ty → Option Ty → List CheckFault
node_of_three faults (Some a) (Some b) (Some c) = faults a b c
node_of_three faults _ _ _ = []

-- The faults in an expression of this owner.
abbrev pub faults_in : ProgramTree → List ℕ → Tree → List CheckFault
faults_in p owner (Const literal) = elim (literal_type literal) [ Some t ↦ [] | None ↦ LiteralRange owner ∷ [] ]
faults_in p owner (Name x) = []
faults_in p owner (Unary op a) = faults_in p owner a ++ node_of_one (unary_faults owner op) (type_of p a)
faults_in p owner (Binary op a b) = faults_in p owner a ++ (faults_in p owner b ++ node_of_two (binary_faults owner op) (type_of p a) (type_of p b))
faults_in p owner (Shift side a amount) = faults_in p owner a ++ node_of_one (shift_faults owner amount) (type_of p a)
faults_in p owner (If c a b) =
    faults_in p owner c
    ++ (faults_in p owner a
    ++ (faults_in p owner b ++ node_of_three (λ tc ta tb. unlike owner ty.Bool tc ++ unlike owner ta tb) (type_of p c) (type_of p a) (type_of p b)))
faults_in p owner (Convert to a) = faults_in p owner a ++ node_of_one (convert_faults owner to) (type_of p a)
faults_in p owner (Look table index) = faults_in p owner index ++ node_of_one (unlike owner U8) (type_of p index)

-- Those of an expression of which this type is wanted.
abbrev pub faults_as : ProgramTree → List ℕ → Ty → Tree → List CheckFault
faults_as p owner wanted e = faults_in p owner e ++ node_of_one (unlike owner wanted) (type_of p e)

-- The first value, or an entry, of which this type is wanted.
abbrev pub literal_faults : ProgramTree → List ℕ → Ty → Lit → List CheckFault
literal_faults p owner wanted literal = faults_as p owner wanted (Const literal)

abbrev pub setup_byte_faults : Setup → List CheckFault
setup_byte_faults s = fault_if (nat_lt 255 s.byte) (LiteralRange s.register)

abbrev pub behaviour_type_faults : ProgramTree → List ℕ → Ty → BehaviourTree → List CheckFault
behaviour_type_faults p owner t (Plain e) = faults_as p owner t e
behaviour_type_faults p owner t (Input port) = unlike owner t U8
behaviour_type_faults p owner t (Table entries) = flat_map (literal_faults p owner t) entries
behaviour_type_faults p owner t (Reactive init clauses) = literal_faults p owner t init ++ flat_map (λ (c : ClauseTree). faults_as p owner t c.expr) clauses

-- All faults of types. The check tells the first.
abbrev pub type_faults : ProgramTree → List CheckFault
type_faults p =
    flat_map setup_byte_faults p.setups
    ++ (flat_map (λ (d : DeclTree). behaviour_type_faults p d.name d.ty d.behaviour) p.decls
    ++ flat_map (λ (o : OutputTree). faults_as p o.port U8 o.expr) p.outputs)
