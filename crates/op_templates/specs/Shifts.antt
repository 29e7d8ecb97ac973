-- Templates of shifts, of 8 and of 16 bits, by each amount.
use Rattle.std.specs.Prelude.{ℕ, zero, suc, Bool, true, false, List, [], ◌∷◌}
use Rattle.frp_tree.specs.declared.syntax.Side.{Side}
use Rattle.frp_tree.specs.declared.syntax.Side.TheVariants as side
use Rattle.efrp_meaning.specs.Values.{shift_value}
use Rattle.pic_isa.specs.declared.instructions.Dest.TheVariants.{W, F}
use Rattle.code_acts.specs.declared.acts.Name.{Name}
use Rattle.code_acts.specs.declared.acts.Name.TheVariants.{Operand0, Operand1, Operand2, To, ToHigh, A, AHigh}
use Rattle.code_acts.specs.declared.acts.FileOp.{FileOp}
use Rattle.code_acts.specs.declared.acts.FileOp.TheVariants.{Ior, Left, Mov, Right, Swap, Xor}
use Rattle.code_acts.specs.declared.acts.ConstOp.TheVariants.{AndK}
use Rattle.code_acts.specs.declared.acts.Act.{Act}
use Rattle.code_acts.specs.declared.acts.Act.TheVariants.{File, Store, Clear, Const, MakeCarry}

-- A turn to a side by one, through the carry; and one to the other side.
abbrev pub turn : Side → FileOp
turn side.Left = Left
turn side.Right = Right

abbrev pub back : Side → FileOp
back side.Left = Right
back side.Right = Left

-- The bits of a byte that a shift leaves of eight ones.
abbrev pub mask : Side → ℕ → ℕ
mask to n = shift_value to n 256 255

-- The byte y is the byte x shifted by at most 7, before the rest of the acts. Bits that come in unknown are masked.
abbrev pub byte_shift : Side → ℕ → (x y : Name) → (rest : List Act) → List Act
byte_shift to zero x y rest = File Mov x W ∷ Store y ∷ rest
byte_shift to (suc zero) x y rest = MakeCarry false ∷ File (turn to) x W ∷ Store y ∷ rest
byte_shift to (suc (suc zero)) x y rest = File (turn to) x W ∷ Store Operand0 ∷ File (turn to) Operand0 W ∷ Const AndK (mask to 2) ∷ Store y ∷ rest
byte_shift to (suc (suc (suc zero))) x y rest =
    File (turn to) x W ∷ Store Operand0 ∷ File (turn to) Operand0 F ∷ File (turn to) Operand0 W ∷ Const AndK (mask to 3) ∷ Store y ∷ rest
byte_shift to (suc (suc (suc (suc zero)))) x y rest = File Swap x W ∷ Const AndK (mask to 4) ∷ Store y ∷ rest
byte_shift to (suc (suc (suc (suc (suc zero))))) x y rest =
    File Swap x W ∷ Store Operand0 ∷ File (turn to) Operand0 W ∷ Const AndK (mask to 5) ∷ Store y ∷ rest
byte_shift to (suc (suc (suc (suc (suc (suc zero)))))) x y rest =
    File Swap x W ∷ Store Operand0 ∷ File (turn to) Operand0 F ∷ File (turn to) Operand0 W ∷ Const AndK (mask to 6) ∷ Store y ∷ rest
byte_shift to _ x y rest = File (back to) x W ∷ Clear y ∷ File (back to) y F ∷ rest

-- Two bytes shifted: x moves into x_to, and x and y into y_to. Bits go from x to y: to the left x is the low byte, to the right
-- it is the high one. By 8 and more, y_to is x shifted by 8 less, and x_to is 0.
abbrev pub pair_shift : Side → ℕ → (x y x_to y_to : Name) → List Act
pair_shift to zero x y x_to y_to = File Mov x W ∷ Store x_to ∷ File Mov y W ∷ Store y_to ∷ []
pair_shift to (suc zero) x y x_to y_to = MakeCarry false ∷ File (turn to) x W ∷ Store x_to ∷ File (turn to) y W ∷ Store y_to ∷ []
pair_shift to (suc (suc zero)) x y x_to y_to =
    File (turn to) x W ∷ Store Operand0 ∷ File (turn to) y W ∷ Store Operand1
    ∷ File (turn to) Operand0 W ∷ Const AndK (mask to 2) ∷ Store x_to ∷ File (turn to) Operand1 W ∷ Store y_to ∷ []
pair_shift to (suc (suc (suc zero))) x y x_to y_to =
    File (turn to) x W ∷ Store Operand0 ∷ File (turn to) y W ∷ Store Operand1 ∷ File (turn to) Operand0 F ∷ File (turn to) Operand1 F
    ∷ File (turn to) Operand0 W ∷ Const AndK (mask to 3) ∷ Store x_to ∷ File (turn to) Operand1 W ∷ Store y_to ∷ []
pair_shift to (suc (suc (suc (suc zero)))) x y x_to y_to =
    File Swap x W ∷ Store Operand0 ∷ Const AndK (mask to 4) ∷ File Xor Operand0 F ∷ Store x_to
    ∷ File Swap y W ∷ Const AndK (mask to 4) ∷ File Ior Operand0 W ∷ Store y_to ∷ []
pair_shift to (suc (suc (suc (suc (suc zero))))) x y x_to y_to =
    File Swap x W ∷ Store Operand0 ∷ Const AndK (mask to 4) ∷ File Xor Operand0 F ∷ Store Operand1
    ∷ File Swap y W ∷ Const AndK (mask to 4) ∷ File Ior Operand0 F
    ∷ MakeCarry false ∷ File (turn to) Operand1 W ∷ Store x_to ∷ File (turn to) Operand0 W ∷ Store y_to ∷ []
pair_shift to (suc (suc (suc (suc (suc (suc zero)))))) x y x_to y_to =
    File (back to) y W ∷ Store Operand1 ∷ File (back to) x W ∷ Store Operand0 ∷ Clear Operand2 ∷ File (back to) Operand2 F
    ∷ File (back to) Operand1 W ∷ File (back to) Operand0 W ∷ Store y_to ∷ File (back to) Operand2 W ∷ Store x_to ∷ []
pair_shift to (suc (suc (suc (suc (suc (suc (suc zero))))))) x y x_to y_to =
    File (back to) y W ∷ File (back to) x W ∷ Store y_to ∷ Clear x_to ∷ File (back to) x_to F ∷ []
pair_shift to (suc (suc (suc (suc (suc (suc (suc (suc n)))))))) x y x_to y_to = byte_shift to n x y_to (Clear x_to ∷ [])

-- A shift of A by this amount: at most 7, or 15 where it is wide.
abbrev pub shift_template : Side → (wide : Bool) → ℕ → List Act
shift_template to false n = byte_shift to n A To []
shift_template side.Left true n = pair_shift side.Left n A AHigh To ToHigh
shift_template side.Right true n = pair_shift side.Right n AHigh A ToHigh To
