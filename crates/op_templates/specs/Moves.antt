-- Templates of operations without a carry: a constant, a copy, each bit turned, a bool turned, and two bytes bit by bit.
use Rattle.std.specs.Prelude.{ℕ, List, [], ◌∷◌}
use Rattle.frp_tree.specs.declared.syntax.BinOp.{BinOp}
use Rattle.frp_tree.specs.declared.syntax.BinOp.TheVariants as binary
use Rattle.pic_isa.specs.declared.instructions.Dest.TheVariants.{W}
use Rattle.code_acts.specs.declared.acts.Name.TheVariants.{To, A, B}
use Rattle.code_acts.specs.declared.acts.FileOp.{FileOp}
use Rattle.code_acts.specs.declared.acts.FileOp.TheVariants.{And, Com, Ior, Mov, Xor}
use Rattle.code_acts.specs.declared.acts.ConstOp.TheVariants.{MovK, XorK}
use Rattle.code_acts.specs.declared.acts.Act.{Act}
use Rattle.code_acts.specs.declared.acts.Act.TheVariants.{File, Store, Const}

abbrev pub set_template : (k : ℕ) → List Act
set_template k = Const MovK k ∷ Store To ∷ []

-- What an operation makes of A: a copy, or each bit turned.
abbrev pub made_of_a : FileOp → List Act
made_of_a op = File op A W ∷ Store To ∷ []

abbrev pub copy_template : List Act
copy_template = made_of_a Mov

abbrev pub com_template : List Act
com_template = made_of_a Com

abbrev pub not_template : List Act
not_template = File Mov A W ∷ Const XorK 1 ∷ Store To ∷ []

-- What an operator on bits or on bools does bit by bit.
abbrev pub bit_op : BinOp → FileOp
bit_op binary.And = And
bit_op binary.BitAnd = And
bit_op binary.BitXor = Xor
bit_op _ = Ior

-- `&`, `|`, `^`, `&&` and `||`.
abbrev pub bits_template : BinOp → List Act
bits_template f = File Mov A W ∷ File (bit_op f) B W ∷ Store To ∷ []
