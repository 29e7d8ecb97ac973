-- Templates of a choice between two numbers of 8 or of 16 bits.
use Rattle.std.specs.Prelude.{Bool, true, false, List, [], ◌∷◌}
use Rattle.pic_isa.specs.declared.instructions.Dest.TheVariants.{W}
use Rattle.code_acts.specs.declared.acts.Name.{Name}
use Rattle.code_acts.specs.declared.acts.Name.TheVariants.{Operand0, To, ToHigh, A, AHigh, B, BHigh, C}
use Rattle.code_acts.specs.declared.acts.FileOp.TheVariants.{Mov, Right}
use Rattle.code_acts.specs.declared.acts.Act.{Act}
use Rattle.code_acts.specs.declared.acts.Act.TheVariants.{File, Store, SkipBit, SkipCarry}

-- The byte `to` is x where the test skips, and else y.
abbrev pub picked : (test : Act) → (x y to : Name) → (rest : List Act) → List Act
picked test x y to rest = File Mov y W ∷ Store Operand0 ∷ File Mov x W ∷ test ∷ File Mov Operand0 W ∷ Store to ∷ rest

-- A where the bool C is 1, and else B. A wide choice has bit 0 of the bool in the carry.
abbrev pub choose_template : (wide : Bool) → List Act
choose_template false = picked (SkipBit true C 0) A B To []
choose_template true = File Right C W ∷ picked (SkipCarry true) A B To (picked (SkipCarry true) AHigh BHigh ToHigh [])
