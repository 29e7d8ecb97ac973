-- Where an expression has a type, so has each of its nodes.
use Rattle.std.specs.Prelude.{◌≡◌, ℕ, Option, Some, None, IsSome, refl}
use Rattle.std.proofs.Common.{subst}
use Rattle.std.proofs.lemmas.Bool.{false≢true}
use Rattle.frp_tree.specs.declared.syntax.Ty.{Ty}
use Rattle.frp_tree.specs.declared.syntax.Ty.TheVariants.{U8, U16}
use Rattle.frp_tree.specs.declared.syntax.Ty.TheVariants as ty
use Rattle.frp_tree.specs.declared.syntax.UnOp.{UnOp}
use Rattle.frp_tree.specs.declared.syntax.UnOp.TheVariants.{Com, Not}
use Rattle.frp_tree.specs.declared.syntax.BinOp.{BinOp}
use Rattle.frp_tree.specs.Tree.{Tree, Const, Name, Unary, Binary, Shift, If, Convert, Look, ProgramTree}
use Rattle.efrp_meaning.specs.Types.{binary_type, convert_type, if_type, look_type, shift_type, type_of, type_of_table, unary_type}
use Rattle.efrp_types.proofs.NodeLaws.{no-binary-left, no-binary-right, no-if-second, no-if-third}
use Rattle.program_bounds.specs.Weighing.{AreTyped}

none-typed : (o : Option Ty) → o ≡ None → IsSome o → ⊥
none-typed o is h = false≢true (subst IsSome is h)

unary-operand : (f : UnOp) (o : Option Ty) → IsSome (unary_type f o) → IsSome o
unary-operand f (Some t) h = refl
unary-operand Com None h = absurd (false≢true h)
unary-operand Not None h = absurd (false≢true h)

left-operand : (f : BinOp) (o k : Option Ty) → IsSome (binary_type f o k) → IsSome o
left-operand f (Some t) k h = refl
left-operand f None k h = absurd (none-typed (binary_type f None k) (no-binary-left f k) h)

right-operand : (f : BinOp) (o k : Option Ty) → IsSome (binary_type f o k) → IsSome k
right-operand f o (Some t) h = refl
right-operand f o None h = absurd (none-typed (binary_type f o None) (no-binary-right f o) h)

shifted-operand : (o : Option Ty) (amount : ℕ) → IsSome (shift_type o amount) → IsSome o
shifted-operand (Some t) amount h = refl
shifted-operand None amount h = absurd (false≢true h)

test-of : (o k l : Option Ty) → IsSome (if_type o k l) → IsSome o
test-of (Some t) k l h = refl
test-of None k l h = absurd (false≢true h)

first-branch : (o k l : Option Ty) → IsSome (if_type o k l) → IsSome k
first-branch o (Some t) l h = refl
first-branch o None l h = absurd (none-typed (if_type o None l) (no-if-second o l) h)

second-branch : (o k l : Option Ty) → IsSome (if_type o k l) → IsSome l
second-branch o k (Some t) h = refl
second-branch o k None h = absurd (none-typed (if_type o k None) (no-if-third o k) h)

converted : (to : Ty) (o : Option Ty) → IsSome (convert_type to o) → IsSome o
converted to (Some t) h = refl
converted ty.Bool None h = absurd (false≢true h)
converted U8 None h = absurd (false≢true h)
converted U16 None h = absurd (false≢true h)

index-of : (t o : Option Ty) → IsSome (look_type t o) → IsSome o
index-of t (Some k) h = refl
index-of t None h = absurd (false≢true h)

pub are-typed : (p : ProgramTree) (e : Tree) → IsSome (type_of p e) → AreTyped p e
are-typed p (Const literal) h = h
are-typed p (Name name) h = h
are-typed p (Unary f a) h = let k = unary-operand f (type_of p a) h in (h, k, are-typed p a k)
are-typed p (Binary f a b) h =
    let k = left-operand f (type_of p a) (type_of p b) h in
    (h, k, are-typed p a k, are-typed p b (right-operand f (type_of p a) (type_of p b) h))
are-typed p (Shift side a amount) h = let k = shifted-operand (type_of p a) amount h in (h, k, are-typed p a k)
are-typed p (If c a b) h =
    let k = first-branch (type_of p c) (type_of p a) (type_of p b) h in (
      h,
      k,
      are-typed p c (test-of (type_of p c) (type_of p a) (type_of p b) h),
      are-typed p a k,
      are-typed p b (second-branch (type_of p c) (type_of p a) (type_of p b) h),
    )
are-typed p (Convert to a) h = let k = converted to (type_of p a) h in (h, k, are-typed p a k)
are-typed p (Look table index) h = let k = index-of (type_of_table p table) (type_of p index) h in (h, k, are-typed p index k)

-- So has the expression itself.
pub itself-typed : (p : ProgramTree) (e : Tree) → AreTyped p e → IsSome (type_of p e)
itself-typed p (Const literal) h = h
itself-typed p (Name name) h = h
itself-typed p (Unary f a) h = h.0
itself-typed p (Binary f a b) h = h.0
itself-typed p (Shift side a amount) h = h.0
itself-typed p (If c a b) h = h.0
itself-typed p (Convert to a) h = h.0
itself-typed p (Look table index) h = h.0
