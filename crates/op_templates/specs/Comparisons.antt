-- Templates of comparisons, of 8 and of 16 bits.
use Rattle.std.specs.Prelude.{Bool, true, false, List, [], ◌∷◌}
use Rattle.frp_tree.specs.declared.syntax.BinOp.{BinOp}
use Rattle.frp_tree.specs.declared.syntax.BinOp.TheVariants.{Eq, Ne, Lt, Le, Gt}
use Rattle.pic_isa.specs.declared.instructions.Dest.TheVariants.{W}
use Rattle.code_acts.specs.declared.acts.Name.{Name}
use Rattle.code_acts.specs.declared.acts.Name.TheVariants.{Operand0, To, A, AHigh, B, BHigh}
use Rattle.code_acts.specs.declared.acts.FileOp.TheVariants.{IncSkip, Ior, Mov, Sub}
use Rattle.code_acts.specs.declared.acts.ConstOp.TheVariants.{MovK}
use Rattle.code_acts.specs.declared.acts.Act.{Act}
use Rattle.code_acts.specs.declared.acts.Act.TheVariants.{File, Store, Const, SkipCarry, SkipZero}

-- The result is 1 where the test skips, and else 0.
abbrev pub told_by : (test : Act) → List Act
told_by test = Const MovK 1 ∷ test ∷ Const MovK 0 ∷ Store To ∷ []

-- Z is 1 where A and B are equal.
abbrev pub differ : (wide : Bool) → (rest : List Act) → List Act
differ false rest = File Mov B W ∷ File Sub A W ∷ rest
differ true rest = File Mov B W ∷ File Sub A W ∷ Store Operand0 ∷ File Mov BHigh W ∷ File Sub AHigh W ∷ File Ior Operand0 W ∷ rest

-- C is 1 where y isn't above x, each a byte or two. A borrow of the low bytes is one more of the high byte of y, and where
-- that has no byte, C stays 0.
abbrev pub not_above : (y x : Name) → (rest : List Act) → List Act
not_above y x rest = File Mov y W ∷ File Sub x W ∷ rest

abbrev pub high_not_above : (y_high : Name) → (rest : List Act) → List Act
high_not_above y_high rest = File Mov y_high W ∷ SkipCarry true ∷ File IncSkip y_high W ∷ File Sub Operand0 W ∷ rest

abbrev pub not_above_wide : (y y_high x x_high : Name) → (rest : List Act) → List Act
not_above_wide y y_high x x_high rest = File Mov x_high W ∷ Store Operand0 ∷ File Mov y W ∷ File Sub x W ∷ high_not_above y_high rest

abbrev pub not_above_in : (wide : Bool) → (y y_high x x_high : Name) → (rest : List Act) → List Act
not_above_in false y y_high x x_high rest = not_above y x rest
not_above_in true y y_high x x_high rest = not_above_wide y y_high x x_high rest

abbrev pub b_not_above : (wide : Bool) → (rest : List Act) → List Act
b_not_above wide rest = not_above_in wide B BHigh A AHigh rest

abbrev pub a_not_above : (wide : Bool) → (rest : List Act) → List Act
a_not_above wide rest = not_above_in wide A AHigh B BHigh rest

-- A comparison of A and B.
abbrev pub compare_template : BinOp → (wide : Bool) → List Act
compare_template Eq wide = differ wide (told_by (SkipZero true))
compare_template Ne wide = differ wide (told_by (SkipZero false))
compare_template Lt wide = b_not_above wide (told_by (SkipCarry false))
compare_template Le wide = a_not_above wide (told_by (SkipCarry true))
compare_template Gt wide = a_not_above wide (told_by (SkipCarry false))
compare_template _ wide = b_not_above wide (told_by (SkipCarry true))
