-- States in memory: the numbers of their values, and their types.
use Rattle.std.specs.Prelude.{ℕ, ◌<◌, List, [], ◌∷◌, map}
use Rattle.frp_tree.specs.declared.syntax.Ty.{Ty}
use Rattle.frp_tree.specs.declared.syntax.Ty.TheVariants as ty
use Rattle.frp_tree.specs.declared.syntax.Value.{Value}
use Rattle.frp_tree.specs.declared.syntax.Value.TheVariants as value
use Rattle.frp_tree.specs.Tree.{DeclTree, ProgramTree}
use Rattle.efrp_meaning.specs.Decls.{reactive_decls}
use Rattle.efrp_meaning.specs.Values.{number_of}

-- The numbers of values, in order.
abbrev pub numbers_of : List Value → List ℕ
numbers_of values = map number_of values

-- The value is one of this type.
abbrev pub IsOf : Ty → Value → Type 0
IsOf ty.Bool (value.Bool b) = Unit {0}
IsOf ty.U8 (value.U8 n) = n < 256
IsOf ty.U16 (value.U16 n) = n < 65536
IsOf _ _ = ⊥

-- There is a value for each of the types, in order, and it is one of that type.
abbrev pub AreOf : List Ty → List Value → Type 0
AreOf [] [] = Unit {0}
AreOf (t ∷ ts) (v ∷ vs) = IsOf t v × AreOf ts vs
AreOf _ _ = ⊥

-- There is a value for each reactive definition, in declaration order, and it is one of the definition's type.
abbrev pub HasTypes : ProgramTree → List Value → Type 0
HasTypes p values = AreOf (map (λ (d : DeclTree). d.ty) (reactive_decls p)) values
