-- The weight of an operation, as in a program's bounds: the words and the steps that it may take.
use Rattle.std.specs.Prelude.{ℕ, Bool, false, Option, Some, if◌then◌else◌}
use Rattle.frp_tree.specs.declared.syntax.Ty.{Ty}
use Rattle.frp_tree.specs.declared.syntax.Ty.TheVariants as ty
use Rattle.frp_tree.specs.declared.syntax.UnOp.TheVariants as unary
use Rattle.efrp_meaning.specs.Bounds.{by_width, unary_weight, binary_weight}
use Rattle.byte_ops.specs.declared.operations.Op.{Op}
use Rattle.byte_ops.specs.declared.operations.Op.TheVariants.{Set, Copy, Com, Not, Bits, Sum, Compare, Logic, Choose, Shift, Product}

-- The type of numbers of 8 or of 16 bits.
abbrev pub number_type : (wide : Bool) → Option Ty
number_type wide = Some (if wide then ty.U16 else ty.U8)

abbrev pub weight_of : Op → ℕ
weight_of (Set to k) = 4
weight_of (Copy to a) = 6
weight_of (Com to a) = unary_weight unary.Com (number_type false)
weight_of (Not to a) = unary_weight unary.Not (Some ty.Bool)
weight_of (Bits f to a b) = binary_weight f (number_type false)
weight_of (Sum f wide to a b) = binary_weight f (number_type wide)
weight_of (Compare f wide to a b) = binary_weight f (number_type wide)
weight_of (Logic f to a b) = binary_weight f (Some ty.Bool)
weight_of (Choose wide to c a b) = by_width (number_type wide) 24 40
weight_of (Shift side wide n to a) = by_width (number_type wide) 32 80
weight_of (Product f wide to a b) = binary_weight f (number_type wide)
