-- Templates of `+` and `-`, of 8 and of 16 bits.
use Rattle.std.specs.Prelude.{Bool, true, false, List, [], ◌∷◌}
use Rattle.frp_tree.specs.declared.syntax.BinOp.{BinOp}
use Rattle.frp_tree.specs.declared.syntax.BinOp.TheVariants as binary
use Rattle.pic_isa.specs.declared.instructions.Dest.TheVariants.{W}
use Rattle.code_acts.specs.declared.acts.Name.TheVariants.{To, ToHigh, A, AHigh, B, BHigh}
use Rattle.code_acts.specs.declared.acts.FileOp.{FileOp}
use Rattle.code_acts.specs.declared.acts.FileOp.TheVariants.{Add, Mov, Sub}
use Rattle.code_acts.specs.declared.acts.ConstOp.TheVariants.{AddK}
use Rattle.code_acts.specs.declared.acts.Act.{Act}
use Rattle.code_acts.specs.declared.acts.Act.TheVariants.{File, Store, Const, SkipCarry}

-- The operation of `+` or `-` on a byte; and C where nothing goes on to the high byte: no carry, or no borrow.
abbrev pub sum_op : BinOp → FileOp
sum_op binary.Add = Add
sum_op _ = Sub

abbrev pub quiet : BinOp → Bool
quiet binary.Add = false
quiet _ = true

-- The high byte, after the low one: a carry or borrow is one more of B.
abbrev pub high_sum : BinOp → List Act
high_sum f = File Mov BHigh W ∷ SkipCarry (quiet f) ∷ Const AddK 1 ∷ File (sum_op f) AHigh W ∷ Store ToHigh ∷ []

-- `+` or `-`: A plus B, or A minus B.
abbrev pub sum_template : BinOp → (wide : Bool) → List Act
sum_template f false = File Mov B W ∷ File (sum_op f) A W ∷ Store To ∷ []
sum_template f true = File Mov B W ∷ File (sum_op f) A W ∷ Store To ∷ high_sum f
