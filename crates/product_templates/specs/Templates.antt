-- The acts of products and quotients: those of a core, on operand bytes alone, and those around it that copy operands and result.
use Rattle.std.specs.Prelude.{ℕ, zero, suc, ◌+◌, Bool, true, false, List, [], ◌∷◌, ◌++◌}
use Rattle.frp_tree.specs.declared.syntax.BinOp.{BinOp}
use Rattle.frp_tree.specs.declared.syntax.BinOp.TheVariants as binary
use Rattle.pic_isa.specs.declared.instructions.Dest.TheVariants.{W, F}
use Rattle.code_acts.specs.declared.acts.Name.{Name}
use Rattle.code_acts.specs.declared.acts.Name.TheVariants.{Operand0, Operand1, Operand2, Operand3, Operand4, Operand5, Operand6, Operand7, Operand8, To, ToHigh, A, AHigh, B, BHigh}
use Rattle.code_acts.specs.declared.acts.FileOp.TheVariants.{Add, IncSkip, Mov, Left, Right, Sub, Swap}
use Rattle.code_acts.specs.declared.acts.ConstOp.TheVariants.{AndK}
use Rattle.code_acts.specs.declared.acts.Act.{Act}
use Rattle.code_acts.specs.declared.acts.Act.TheVariants.{File, Store, Clear, Const, SkipBit, SkipCarry, MakeCarry}

-- The same acts so many times.
abbrev pub repeated : ℕ → List Act → List Act
repeated zero acts = []
repeated (suc n) acts = acts ++ repeated n acts

-- W is added to Operand5 where bit i of the factor y is 1, and to Operand6 where bit i + 4 is.
abbrev pub taking : Name → ℕ → List Act
taking y i = SkipBit false y i ∷ File Add Operand5 F ∷ SkipBit false y (i + 4) ∷ File Add Operand6 F ∷ []

-- The factor x and W, which are the same, are doubled.
abbrev pub doubling : Name → List Act
doubling x = File Add x F ∷ File Mov x W ∷ []

-- The products of x and of each half of y are added to Operand5 and Operand6. W is x.
abbrev pub weighing : Name → Name → List Act
weighing x y = taking y 0 ++ doubling x ++ taking y 1 ++ doubling x ++ taking y 2 ++ doubling x ++ taking y 3

-- W is the factor Operand0, and both sums are 0.
abbrev pub narrow_start : List Act
narrow_start = File Mov Operand0 W ∷ Clear Operand5 ∷ Clear Operand6 ∷ []

-- 16 times Operand6 is added to Operand5.
abbrev pub folding : List Act
folding = File Swap Operand6 W ∷ Const AndK 0xF0 ∷ File Add Operand5 F ∷ []

-- W is added to Operand5 where bit i of Operand2 is 1; then Operand5 and Operand4 are turned right, as one number.
abbrev pub carrying : ℕ → List Act
carrying i = SkipBit false Operand2 i ∷ File Add Operand5 F ∷ File Right Operand5 F ∷ File Right Operand4 F ∷ []

-- W is the factor Operand0, and the product and C are 0.
abbrev pub long_start : List Act
long_start = File Mov Operand0 W ∷ Clear Operand4 ∷ Clear Operand5 ∷ MakeCarry false ∷ []

-- Operand4 and Operand5 become the product of Operand0 and Operand2, of 16 bits.
abbrev pub long_product : List Act
long_product =
    long_start ++ carrying 0 ++ carrying 1 ++ carrying 2 ++ carrying 3 ++ carrying 4 ++ carrying 5 ++ carrying 6 ++ carrying 7

-- The products of the lower byte of each factor and the upper byte of the other are added to Operand5, but for what `folding` adds.
abbrev pub crossing : List Act
crossing = (Clear Operand6 ∷ []) ++ weighing Operand0 Operand3 ++ (File Mov Operand1 W ∷ []) ++ weighing Operand1 Operand2

-- One bit of a quotient. The dividend Operand0 gives its highest bit to the rest Operand4, whose ninth bit goes to bit 0 of
-- Operand8. W is the rest less the divisor Operand3, and C is 1 where there was no borrow.
abbrev pub comparing : List Act
comparing = File Left Operand0 F ∷ File Left Operand4 F ∷ File Left Operand8 F ∷ File Mov Operand3 W ∷ File Sub Operand4 W ∷ []

-- Where the divisor fits, as the rest has a ninth bit or there was no borrow, C is 1, and W the rest. C is the bit of the
-- quotient, and the next turn shifts it into the dividend.
abbrev pub keeping : List Act
keeping = SkipBit false Operand8 0 ∷ MakeCarry true ∷ SkipCarry false ∷ Store Operand4 ∷ []

-- A turn.
abbrev pub turning : List Act
turning = comparing ++ keeping

-- The like for 16 bits: dividend Operand0 and Operand1, divisor Operand2 and Operand3, rest Operand4 and Operand5, its difference
-- from the divisor in Operand6 and Operand7, the seventeenth bit of the rest in Operand8.
abbrev pub wide_shifting : List Act
wide_shifting =
    File Left Operand0 F ∷ File Left Operand1 F ∷ File Left Operand4 F ∷ File Left Operand5 F ∷ File Left Operand8 F
    ∷ File Mov Operand2 W ∷ File Sub Operand4 W ∷ Store Operand6 ∷ File Mov Operand5 W ∷ Store Operand7 ∷ File Mov Operand3 W ∷ []

-- The upper byte of the divisor is taken off, and one more after a borrow. Where that is 256, C is 0 already.
abbrev pub borrowing : List Act
borrowing = SkipCarry true ∷ File IncSkip Operand3 W ∷ File Sub Operand7 F ∷ []

-- Where the divisor fits, C is 1 and the rest is the difference.
abbrev pub wide_keeping : List Act
wide_keeping =
    SkipBit false Operand8 0 ∷ MakeCarry true ∷ File Mov Operand7 W ∷ SkipCarry false ∷ Store Operand5
    ∷ File Mov Operand6 W ∷ SkipCarry false ∷ Store Operand4 ∷ []

-- A turn of 16 bits.
abbrev pub wide_turning : List Act
wide_turning = wide_shifting ++ borrowing ++ wide_keeping

-- The rest in Operand4, or in Operand4 and Operand5; the quotient but its last bit, which is C, in place of the dividend.
abbrev pub dividing : Bool → List Act
dividing false = Clear Operand4 ∷ repeated 8 turning
dividing true = Clear Operand4 ∷ Clear Operand5 ∷ repeated 16 wide_turning

-- The core of an operator, for 8 or 16 bits. Its operands are Operand0 and Operand3; or Operand0 with Operand1 for its upper byte,
-- and Operand2 with Operand3.
abbrev pub core_of : BinOp → (wide : Bool) → List Act
core_of binary.Mul false = narrow_start ++ weighing Operand0 Operand3 ++ folding
core_of binary.Mul true = long_product ++ crossing ++ folding
core_of binary.Div false = dividing false ++ (File Left Operand0 F ∷ [])
core_of binary.Div true = dividing true ++ (File Left Operand0 F ∷ File Left Operand1 F ∷ [])
core_of binary.Rem wide = dividing wide
core_of _ wide = []

-- Where a core leaves its result, or the lower byte of a wide one.
abbrev pub low_result : BinOp → (wide : Bool) → Name
low_result binary.Mul false = Operand5
low_result binary.Div wide = Operand0
low_result _ wide = Operand4

-- Its upper byte, where it is wide.
abbrev pub high_result : BinOp → Name
high_result binary.Div = Operand1
high_result _ = Operand5

-- A byte is copied.
abbrev pub copying : (from to : Name) → List Act
copying from to = File Mov from W ∷ Store to ∷ []

-- The operands are copied to where a core finds them.
abbrev pub copying_in : (wide : Bool) → List Act
copying_in false = copying A Operand0 ++ copying B Operand3
copying_in true = copying A Operand0 ++ copying AHigh Operand1 ++ copying B Operand2 ++ copying BHigh Operand3

-- The result is copied from where a core leaves it.
abbrev pub copying_out : BinOp → (wide : Bool) → List Act
copying_out f false = copying (low_result f false) To
copying_out f true = copying (low_result f true) To ++ copying (high_result f) ToHigh

-- A template: operands in, core, result out.
abbrev pub product_template : BinOp → (wide : Bool) → List Act
product_template f wide = copying_in wide ++ core_of f wide ++ copying_out f wide
