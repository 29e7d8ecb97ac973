-- The code of acts for bytes at any addresses, with bank settings; which lists of acts are sound; and how many words they take.
use Rattle.std.specs.Prelude.{ℕ, ◌+◌, ◌/◌, ◌%◌, ◌<◌, Bool, true, false, not, nat_lt, ◌==◌, ◌&&◌, ◌||◌, if◌then◌else◌, Option, Some, None, List, [], ◌∷◌}
use Rattle.pic_isa.specs.declared.instructions.Dest.{Dest}
use Rattle.pic_isa.specs.declared.instructions.Instr.{Instr}
use Rattle.pic_isa.specs.declared.instructions.Instr.TheVariants.{Addwf, Andwf, Clrf, Comf, Incfsz, Iorwf, Movf, Movwf, Rlf, Rrf, Subwf, Swapf, Xorwf, Bcf, Bsf, Btfsc, Btfss, Addlw, Andlw, Movlw, Xorlw}
use Rattle.code_steps.specs.declared.banks.Bank.{Bank}
use Rattle.code_steps.specs.declared.banks.Bank.TheVariants.{Known, Unknown}
use Rattle.code_acts.specs.declared.acts.FileOp.{FileOp}
use Rattle.code_acts.specs.declared.acts.FileOp.TheVariants.{Add, And, Com, IncSkip, Ior, Mov, Left, Right, Sub, Swap, Xor}
use Rattle.code_acts.specs.declared.acts.ConstOp.{ConstOp}
use Rattle.code_acts.specs.declared.acts.ConstOp.TheVariants.{AddK, AndK, MovK, XorK}
use Rattle.code_acts.specs.declared.acts.Act.{Act}
use Rattle.code_acts.specs.declared.acts.Act.TheVariants.{File, Store, Clear, Const, SkipBit, SkipCarry, SkipZero, MakeCarry, Near}
use Rattle.code_acts.specs.declared.acts.Places.{Places}
use Rattle.code_acts.specs.Acts.{Into, IntoName, number, into, name_of, agrees}

-- The address of a name by its number: operand bytes lie from 74h on.
abbrev pub place_of : Places → ℕ → ℕ
place_of places n =
    if nat_lt n 12 then 0x74 + n
    else if n == 12 then places.to
    else if n == 13 then places.to_high
    else if n == 14 then places.a
    else if n == 15 then places.a_high
    else if n == 16 then places.b
    else if n == 17 then places.b_high
    else places.c

-- Each address of these is below 512.
abbrev pub PlacesFit : Places → Type 0
PlacesFit places =
    (places.to < 512) × (places.to_high < 512) × (places.a < 512) × (places.a_high < 512) × (places.b < 512) × (places.b_high < 512) × (places.c < 512)

-- The name is that of an operand byte, which needs no bank setting.
abbrev pub is_operand : ℕ → Bool
is_operand n = nat_lt n 12

-- The bank that a name wants: None for an operand byte, and where there is no name.
abbrev pub far : (place : ℕ → ℕ) → Option ℕ → Option ℕ
far place None = None
far place (Some n) = if is_operand n then None else Some (place n / 128)

-- The bank bits of a bank, where it is known: RP0 and RP1.
abbrev pub low_bit : Bank → Option Bool
low_bit Unknown = None
low_bit (Known k) = Some (k % 2 == 1)

abbrev pub high_bit : Bank → Option Bool
high_bit Unknown = None
high_bit (Known k) = Some (k / 2 == 1)

-- The instruction that makes a bit of STATUS what is given: RP0 is bit 5, RP1 bit 6, C bit 0.
abbrev pub status_setting : ℕ → Bool → Instr
status_setting b true = Bsf 0x03 b
status_setting b false = Bcf 0x03 b

-- The setting of one bank bit before the rest of the code: none where the bit is known to be right.
abbrev pub bit_setting : ℕ → Option Bool → Bool → (rest : List Instr) → List Instr
bit_setting b (Some known) v rest = if agrees known v then rest else status_setting b v ∷ rest
bit_setting b None v rest = status_setting b v ∷ rest

-- The bank settings before the rest of the code, in this bank and where that one is wanted; and the bank behind them.
abbrev pub settings : Bank → Option ℕ → (rest : List Instr) → List Instr
settings bank None rest = rest
settings bank (Some k) rest = bit_setting 5 (low_bit bank) (k % 2 == 1) (bit_setting 6 (high_bit bank) (k / 2 == 1) rest)

abbrev pub moved : Bank → Option ℕ → Bank
moved bank None = bank
moved bank (Some k) = Known k

-- The instruction of an operation on the byte with these seven bits of its address; and on a constant.
abbrev pub file_instr : FileOp → (f : ℕ) → Dest → Instr
file_instr Add f d = Addwf f d
file_instr And f d = Andwf f d
file_instr Com f d = Comf f d
file_instr IncSkip f d = Incfsz f d
file_instr Ior f d = Iorwf f d
file_instr Mov f d = Movf f d
file_instr Left f d = Rlf f d
file_instr Right f d = Rrf f d
file_instr Sub f d = Subwf f d
file_instr Swap f d = Swapf f d
file_instr Xor f d = Xorwf f d

abbrev pub const_instr : ConstOp → ℕ → Instr
const_instr AddK k = Addlw k
const_instr AndK k = Andlw k
const_instr MovK k = Movlw k
const_instr XorK k = Xorlw k

-- The instruction that skips where a bit is what is given.
abbrev pub skip_instr : Bool → (f : ℕ) → ℕ → Instr
skip_instr true f b = Btfss f b
skip_instr false f b = Btfsc f b

-- The instruction of an act, where it has one.
abbrev pub instr_of : (place : ℕ → ℕ) → Act → Option Instr
instr_of place (File op n d) = Some (file_instr op (place (number n) % 128) d)
instr_of place (Store n) = Some (Movwf (place (number n) % 128))
instr_of place (Clear n) = Some (Clrf (place (number n) % 128))
instr_of place (Const op k) = Some (const_instr op k)
instr_of place (SkipBit v n b) = Some (skip_instr v (place (number n) % 128) b)
instr_of place (SkipCarry v) = Some (skip_instr v 0x03 0)
instr_of place (SkipZero v) = Some (skip_instr v 0x03 2)
instr_of place (MakeCarry v) = Some (status_setting 0 v)
instr_of place (Near n) = None

-- An instruction, where there is one, before the rest of the code.
abbrev pub with_own : Option Instr → (rest : List Instr) → List Instr
with_own (Some i) rest = i ∷ rest
with_own None rest = rest

-- The code of acts in a bank; and the bank behind it.
abbrev pub code : (place : ℕ → ℕ) → Bank → List Act → List Instr
code place bank [] = []
code place bank (a ∷ more) = settings bank (far place (name_of a)) (with_own (instr_of place a) (code place (moved bank (far place (name_of a))) more))

abbrev pub bank_after : (place : ℕ → ℕ) → Bank → List Act → Bank
bank_after place bank [] = bank
bank_after place bank (a ∷ more) = bank_after place (moved bank (far place (name_of a))) more

-- The last name whose bank was chosen, after an act with this name.
abbrev pub latest : (last : Option ℕ) → Option ℕ → Option ℕ
latest last None = last
latest last (Some n) = if is_operand n then last else Some n

-- A name needs no bank setting wherever the bytes lie: it is an operand byte or the last name whose bank was chosen.
abbrev pub is_last : Option ℕ → ℕ → Bool
is_last None n = false
is_last (Some m) n = m == n

abbrev pub is_near : (last : Option ℕ) → Option ℕ → Bool
is_near last None = true
is_near last (Some n) = is_operand n || is_last last n

-- An act has a word.
abbrev pub has_word : Act → Bool
has_word (Near n) = false
has_word _ = true

-- An act may skip the next one.
abbrev pub may_skip : Act → Bool
may_skip (File IncSkip n d) = true
may_skip (SkipBit v n b) = true
may_skip (SkipCarry v) = true
may_skip (SkipZero v) = true
may_skip _ = false

-- An act names and writes what it may, and its fields are in range.
abbrev pub names_allowed : (uses : ℕ → Bool) → Option ℕ → Bool
names_allowed uses None = true
names_allowed uses (Some n) = uses n

abbrev pub writes_allowed : (writes : ℕ → Bool) → Into → Bool
writes_allowed writes (IntoName n) = writes n
writes_allowed writes _ = true

abbrev pub fields_fit : Act → Bool
fields_fit (Const op k) = nat_lt k 256
fields_fit (SkipBit v n b) = nat_lt b 8
fields_fit _ = true

abbrev pub allowed : (uses writes : ℕ → Bool) → Act → Bool
allowed uses writes a = names_allowed uses (name_of a) && writes_allowed writes (into a) && fields_fit a

-- A list of acts is sound: it names and writes only what it may, and no skip is pending at its end. Where the act before an act
-- may skip (`behind`), the act has one word and surely no bank setting; `last` is the last name whose bank was chosen.
abbrev pub sound : (uses writes : ℕ → Bool) → (last : Option ℕ) → (behind : Bool) → List Act → Bool
sound uses writes last behind [] = not behind
sound uses writes last behind (a ∷ more) =
    allowed uses writes a && (not behind || has_word a && is_near last (name_of a))
    && sound uses writes (latest last (name_of a)) (may_skip a) more

-- The most words that acts take wherever the bytes lie: one each, and two for each change of the name whose bank is chosen.
abbrev pub words : (last : Option ℕ) → List Act → ℕ
words last [] = 0
words last (a ∷ more) = (if is_near last (name_of a) then 0 else 2) + (if has_word a then 1 else 0) + words (latest last (name_of a)) more
