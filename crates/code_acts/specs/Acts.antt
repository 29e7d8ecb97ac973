-- Numbers of names, and the small machine that gives lists of acts their meaning: W, C, Z, whether a skip is pending, and the
-- bytes by the numbers of their names.
use Rattle.std.specs.Prelude.{ℕ, Bool, true, false, not, Option, Some, None, List, [], ◌∷◌}
use Rattle.pic_isa.specs.declared.instructions.Dest.{Dest}
use Rattle.pic_isa.specs.declared.instructions.Dest.TheVariants.{W, F}
use Rattle.pic_regs.specs.Bytes.{Byte, bits, bit, zeros, is_zero, swapped, updated}
use Rattle.pic_machine.specs.Results.{Flags, Zero, Carry, All, Outcome, just, tested, plus, minus, one_more, both, either, differing, complement, turned_left, turned_right}
use Rattle.code_acts.specs.declared.acts.Name.{Name}
use Rattle.code_acts.specs.declared.acts.Name.TheVariants.{Operand0, Operand1, Operand2, Operand3, Operand4, Operand5, Operand6, Operand7, Operand8, Operand9, Operand10, Operand11, To, ToHigh, A, AHigh, B, BHigh, C}
use Rattle.code_acts.specs.declared.acts.FileOp.{FileOp}
use Rattle.code_acts.specs.declared.acts.FileOp.TheVariants.{Add, And, Com, IncSkip, Ior, Mov, Left, Right, Sub, Swap, Xor}
use Rattle.code_acts.specs.declared.acts.ConstOp.{ConstOp}
use Rattle.code_acts.specs.declared.acts.ConstOp.TheVariants.{AddK, AndK, MovK, XorK}
use Rattle.code_acts.specs.declared.acts.Act.{Act}
use Rattle.code_acts.specs.declared.acts.Act.TheVariants.{File, Store, Clear, Const, SkipBit, SkipCarry, SkipZero, MakeCarry, Near}

-- The number of a name: the operand bytes have 0 to 11, the others 12 to 18.
abbrev pub number : Name → ℕ
number Operand0 = 0
number Operand1 = 1
number Operand2 = 2
number Operand3 = 3
number Operand4 = 4
number Operand5 = 5
number Operand6 = 6
number Operand7 = 7
number Operand8 = 8
number Operand9 = 9
number Operand10 = 10
number Operand11 = 11
number To = 12
number ToHigh = 13
number A = 14
number AHigh = 15
number B = 16
number BHigh = 17
number C = 18

-- The machine: W, C, Z, whether the next act is skipped, and the byte of each name by its number.
pub record State : Type 0 where
  pub w : Byte
  pub carry : Bool
  pub zero : Bool
  pub skip : Bool
  pub mem : ℕ → Byte

-- Where the result of an act goes: nowhere, to W, or to a byte.
pub data Into : Type 0 where
  Nowhere : Into
  IntoW : Into
  IntoName : ℕ → Into

abbrev pub into_of : Dest → ℕ → Into
into_of W n = IntoW
into_of F n = IntoName n

abbrev pub into : Act → Into
into (File op n d) = into_of d (number n)
into (Store n) = IntoName (number n)
into (Clear n) = IntoName (number n)
into (Const op k) = IntoW
into _ = Nowhere

-- The number of the name that an act has, where it has one.
abbrev pub name_of : Act → Option ℕ
name_of (File op n d) = Some (number n)
name_of (Store n) = Some (number n)
name_of (Clear n) = Some (number n)
name_of (SkipBit v n b) = Some (number n)
name_of (Near n) = Some (number n)
name_of _ = None

-- What an operation on the byte x gives, with W and C; and one on W and the constant x.
abbrev pub of_file : FileOp → (w : Byte) → (c : Bool) → (x : Byte) → Outcome
of_file Add w c x = plus w x
of_file And w c x = tested (both w x)
of_file Com w c x = tested (complement x)
of_file IncSkip w c x = just (one_more x)
of_file Ior w c x = tested (either w x)
of_file Mov w c x = tested x
of_file Left w c x = turned_left c x
of_file Right w c x = turned_right c x
of_file Sub w c x = minus x w
of_file Swap w c x = just (swapped x)
of_file Xor w c x = tested (differing w x)

abbrev pub of_const : ConstOp → (w : Byte) → (x : Byte) → Outcome
of_const AddK w x = plus w x
of_const AndK w x = tested (both w x)
of_const MovK w x = just x
of_const XorK w x = tested (differing w x)

-- What an act gives, with W, C and the byte that it names: a byte and flags.
abbrev pub result : Act → (w : Byte) → (c : Bool) → (x : Byte) → Outcome
result (File op n d) w c x = of_file op w c x
result (Store n) w c x = just w
result (Clear n) w c x = tested zeros
result (Const op k) w c x = of_const op w (bits k)
result (MakeCarry v) w c x = record { byte = x; flags = Carry v }
result _ w c x = just x

-- A bit is what is given.
abbrev pub agrees : Bool → Bool → Bool
agrees true b = b
agrees false b = not b

-- An act skips the next one, with C, Z, the byte x that it names and the byte r that it gives.
abbrev pub skips : Act → (c z : Bool) → (x r : Byte) → Bool
skips (File IncSkip n d) c z x r = is_zero r
skips (SkipBit v n b) c z x r = agrees v (bit b x)
skips (SkipCarry v) c z x r = agrees v c
skips (SkipZero v) c z x r = agrees v z
skips _ c z x r = false

-- The byte of a name, where there is one.
abbrev pub byte_of : Option ℕ → (ℕ → Byte) → Byte
byte_of (Some n) mem = mem n
byte_of None mem = zeros

-- W, bytes, C and Z after a result.
abbrev pub w_after : Into → (byte w : Byte) → Byte
w_after IntoW byte w = byte
w_after _ byte w = w

abbrev pub mem_after : Into → Byte → (ℕ → Byte) → ℕ → Byte
mem_after (IntoName n) byte mem = updated mem n byte
mem_after _ byte mem = mem

abbrev pub carry_after : Flags → Bool → Bool
carry_after (Carry c) carry = c
carry_after (All c dc z) carry = c
carry_after _ carry = carry

abbrev pub zero_after : Flags → Bool → Bool
zero_after (Zero z) old = z
zero_after (All c dc z) old = z
zero_after _ old = old

-- The machine after an act.
abbrev pub act : Act → State → State
act a s =
    let x = byte_of (name_of a) s.mem in
    let r = result a s.w s.carry x in
    record {
      w = w_after (into a) r.byte s.w;
      carry = carry_after r.flags s.carry;
      zero = zero_after r.flags s.zero;
      skip = skips a s.carry s.zero x r.byte;
      mem = mem_after (into a) r.byte s.mem;
    }

-- After the next act of a list, which is skipped where a skip is pending; and after all of a list.
abbrev pub step_in : (pending : Bool) → Act → State → State
step_in true a s = record s { skip = false }
step_in false a s = act a s

abbrev pub run : List Act → State → State
run [] s = s
run (a ∷ more) s = run more (step_in s.skip a s)
