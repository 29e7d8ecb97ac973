-- The type of a node whose operands have no fault.
use Rattle.std.specs.Prelude.{◌≡◌, ℕ, List, [], ◌++◌, Some, refl, if◌then◌else◌}
use Rattle.frp_tree.specs.declared.syntax.Ty.{Ty}
use Rattle.frp_tree.specs.declared.syntax.Ty.TheVariants.{U8, U16}
use Rattle.frp_tree.specs.declared.syntax.Ty.TheVariants as ty
use Rattle.frp_tree.specs.declared.syntax.BinOp.{BinOp}
use Rattle.frp_tree.specs.declared.syntax.BinOp.TheVariants.{Or, And, Eq, Ne, Lt, Le, Gt, Ge, BitOr, BitXor, BitAnd, Add, Sub, Mul, Div, Rem}
use Rattle.efrp_meaning.specs.Types.{number_type, bool_type, common_type, to_bool, binary_type, if_type}
use Rattle.efrp_types.specs.Reasons.{gives_bool}
use Rattle.efrp_types.specs.TypeFaults.{unlike, no_number, binary_faults}
use Rattle.efrp_types.proofs.NodeLaws.{some-fault}
use Rattle.std.proofs.Common.{ap}

pub alike-type : (owner : List ℕ) (a b : Ty) → unlike owner a b ≡ [] → common_type (Some a) (Some b) ≡ Some a
alike-type owner ty.Bool ty.Bool e = refl
alike-type owner ty.Bool U8 e = absurd (some-fault _ _ e)
alike-type owner ty.Bool U16 e = absurd (some-fault _ _ e)
alike-type owner U8 ty.Bool e = absurd (some-fault _ _ e)
alike-type owner U8 U8 e = refl
alike-type owner U8 U16 e = absurd (some-fault _ _ e)
alike-type owner U16 ty.Bool e = absurd (some-fault _ _ e)
alike-type owner U16 U8 e = absurd (some-fault _ _ e)
alike-type owner U16 U16 e = refl

numbers-type : (owner : List ℕ) (a b : Ty) → no_number owner a ++ unlike owner a b ≡ [] → number_type (common_type (Some a) (Some b)) ≡ Some a
numbers-type owner ty.Bool b e = absurd (some-fault _ _ e)
numbers-type owner U8 ty.Bool e = absurd (some-fault _ _ e)
numbers-type owner U8 U8 e = refl
numbers-type owner U8 U16 e = absurd (some-fault _ _ e)
numbers-type owner U16 ty.Bool e = absurd (some-fault _ _ e)
numbers-type owner U16 U8 e = absurd (some-fault _ _ e)
numbers-type owner U16 U16 e = refl

truths-type : (owner : List ℕ) (a b : Ty) → unlike owner ty.Bool a ++ unlike owner ty.Bool b ≡ [] → bool_type (common_type (Some a) (Some b)) ≡ Some ty.Bool
truths-type owner ty.Bool ty.Bool e = refl
truths-type owner ty.Bool U8 e = absurd (some-fault _ _ e)
truths-type owner ty.Bool U16 e = absurd (some-fault _ _ e)
truths-type owner U8 b e = absurd (some-fault _ _ e)
truths-type owner U16 b e = absurd (some-fault _ _ e)

pub binary-typed : (owner : List ℕ) (op : BinOp) (a b : Ty) → binary_faults owner op a b ≡ [] → binary_type op (Some a) (Some b) ≡ Some (if gives_bool op then ty.Bool else a)
binary-typed owner Or a b e = truths-type owner a b e
binary-typed owner And a b e = truths-type owner a b e
binary-typed owner Eq a b e = ap to_bool (alike-type owner a b e)
binary-typed owner Ne a b e = ap to_bool (alike-type owner a b e)
binary-typed owner Lt a b e = ap to_bool (numbers-type owner a b e)
binary-typed owner Le a b e = ap to_bool (numbers-type owner a b e)
binary-typed owner Gt a b e = ap to_bool (numbers-type owner a b e)
binary-typed owner Ge a b e = ap to_bool (numbers-type owner a b e)
binary-typed owner BitOr a b e = numbers-type owner a b e
binary-typed owner BitXor a b e = numbers-type owner a b e
binary-typed owner BitAnd a b e = numbers-type owner a b e
binary-typed owner Add a b e = numbers-type owner a b e
binary-typed owner Sub a b e = numbers-type owner a b e
binary-typed owner Mul a b e = numbers-type owner a b e
binary-typed owner Div a b e = numbers-type owner a b e
binary-typed owner Rem a b e = numbers-type owner a b e

pub if-typed : (owner : List ℕ) (c a b : Ty) → unlike owner ty.Bool c ≡ [] → unlike owner a b ≡ [] → if_type (Some c) (Some a) (Some b) ≡ Some a
if-typed owner ty.Bool a b known same = alike-type owner a b same
if-typed owner U8 a b known same = absurd (some-fault _ _ known)
if-typed owner U16 a b known same = absurd (some-fault _ _ known)
