-- Facts about the words of instructions.
use Rattle.std.proofs.Common.{◌<◌, ◌≤◌, arith, lit<, lit≤}
use Rattle.pic_isa.specs.declared.instructions.Dest.{Dest}
use Rattle.pic_isa.specs.declared.instructions.Dest.TheVariants.{W, F}
use Rattle.pic_isa.specs.declared.instructions.Instr.{Instr}
use Rattle.pic_isa.specs.declared.instructions.Instr.TheVariants.{Nop}
use Rattle.pic_isa.specs.Instructions.{FieldsFit, dest_bit, word_of}

-- The bit of a destination is 0 or 1.
pub dest_bit_small : (d : Dest) → dest_bit d ≤ 1
dest_bit_small W = lit≤ tt
dest_bit_small F = lit≤ tt

-- The word of an instruction whose fields are in range has 14 bits.
pub word_below : (i : Instr) → FieldsFit i → word_of i < 0x4000
word_below Nop fit = lit< tt
word_below _ fit = omega (arith, dest_bit_small)
