-- The 35 instructions and their words (data sheet DS30292, section "Instruction Set Summary").
use Rattle.std.specs.Prelude.{◌≡◌, ℕ, ◌<◌, ◌+◌, ◌-◌, ◌*◌, ◌/◌, ◌%◌, bit_and, ◌==◌, ◌&&◌, if◌then◌else◌, Option, Some, None}
use Rattle.pic_isa.specs.declared.instructions.Dest.{Dest}
use Rattle.pic_isa.specs.declared.instructions.Dest.TheVariants.{W, F}
use Rattle.pic_isa.specs.declared.instructions.Instr.{Instr}
use Rattle.pic_isa.specs.declared.instructions.Instr.TheVariants.{Addwf, Andwf, Clrf, Clrw, Comf, Decf, Decfsz, Incf, Incfsz, Iorwf, Movf, Movwf, Nop, Rlf, Rrf, Subwf, Swapf, Xorwf, Bcf, Bsf, Btfsc, Btfss, Addlw, Andlw, Call, Clrwdt, Goto, Iorlw, Movlw, Retfie, Retlw, Return, Sleep, Sublw, Xorlw}

-- The bit d of a word: 0 for W, 1 for the register.
abbrev pub dest_bit : Dest → ℕ
dest_bit W = 0
dest_bit F = 1

-- The fields of an instruction are in range: f below 128, b below 8, k below 256, or below 2048 where it
-- is an address.
abbrev pub FieldsFit : Instr → Type 0
FieldsFit (Addwf f d) = (f < 128)
FieldsFit (Andwf f d) = (f < 128)
FieldsFit (Clrf f) = (f < 128)
FieldsFit Clrw = Unit {0}
FieldsFit (Comf f d) = (f < 128)
FieldsFit (Decf f d) = (f < 128)
FieldsFit (Decfsz f d) = (f < 128)
FieldsFit (Incf f d) = (f < 128)
FieldsFit (Incfsz f d) = (f < 128)
FieldsFit (Iorwf f d) = (f < 128)
FieldsFit (Movf f d) = (f < 128)
FieldsFit (Movwf f) = (f < 128)
FieldsFit Nop = Unit {0}
FieldsFit (Rlf f d) = (f < 128)
FieldsFit (Rrf f d) = (f < 128)
FieldsFit (Subwf f d) = (f < 128)
FieldsFit (Swapf f d) = (f < 128)
FieldsFit (Xorwf f d) = (f < 128)
FieldsFit (Bcf f b) = (f < 128) × (b < 8)
FieldsFit (Bsf f b) = (f < 128) × (b < 8)
FieldsFit (Btfsc f b) = (f < 128) × (b < 8)
FieldsFit (Btfss f b) = (f < 128) × (b < 8)
FieldsFit (Addlw k) = (k < 256)
FieldsFit (Andlw k) = (k < 256)
FieldsFit (Call k) = (k < 2048)
FieldsFit Clrwdt = Unit {0}
FieldsFit (Goto k) = (k < 2048)
FieldsFit (Iorlw k) = (k < 256)
FieldsFit (Movlw k) = (k < 256)
FieldsFit Retfie = Unit {0}
FieldsFit (Retlw k) = (k < 256)
FieldsFit Return = Unit {0}
FieldsFit Sleep = Unit {0}
FieldsFit (Sublw k) = (k < 256)
FieldsFit (Xorlw k) = (k < 256)

-- The word of each instruction, with 0 at each bit that is ignored. Beside it the bits as the data sheet
-- has them, `x` for a bit that is ignored.
abbrev pub word_of : Instr → ℕ
word_of (Addwf f d) = 0x0700 + 128 * dest_bit d + f  -- 00 0111 dfff ffff
word_of (Andwf f d) = 0x0500 + 128 * dest_bit d + f  -- 00 0101 dfff ffff
word_of (Clrf f) = 0x0180 + f  -- 00 0001 1fff ffff
word_of Clrw = 0x0100  -- 00 0001 0xxx xxxx
word_of (Comf f d) = 0x0900 + 128 * dest_bit d + f  -- 00 1001 dfff ffff
word_of (Decf f d) = 0x0300 + 128 * dest_bit d + f  -- 00 0011 dfff ffff
word_of (Decfsz f d) = 0x0B00 + 128 * dest_bit d + f  -- 00 1011 dfff ffff
word_of (Incf f d) = 0x0A00 + 128 * dest_bit d + f  -- 00 1010 dfff ffff
word_of (Incfsz f d) = 0x0F00 + 128 * dest_bit d + f  -- 00 1111 dfff ffff
word_of (Iorwf f d) = 0x0400 + 128 * dest_bit d + f  -- 00 0100 dfff ffff
word_of (Movf f d) = 0x0800 + 128 * dest_bit d + f  -- 00 1000 dfff ffff
word_of (Movwf f) = 0x0080 + f  -- 00 0000 1fff ffff
word_of Nop = 0x0000  -- 00 0000 0xx0 0000
word_of (Rlf f d) = 0x0D00 + 128 * dest_bit d + f  -- 00 1101 dfff ffff
word_of (Rrf f d) = 0x0C00 + 128 * dest_bit d + f  -- 00 1100 dfff ffff
word_of (Subwf f d) = 0x0200 + 128 * dest_bit d + f  -- 00 0010 dfff ffff
word_of (Swapf f d) = 0x0E00 + 128 * dest_bit d + f  -- 00 1110 dfff ffff
word_of (Xorwf f d) = 0x0600 + 128 * dest_bit d + f  -- 00 0110 dfff ffff
word_of (Bcf f b) = 0x1000 + 128 * b + f  -- 01 00bb bfff ffff
word_of (Bsf f b) = 0x1400 + 128 * b + f  -- 01 01bb bfff ffff
word_of (Btfsc f b) = 0x1800 + 128 * b + f  -- 01 10bb bfff ffff
word_of (Btfss f b) = 0x1C00 + 128 * b + f  -- 01 11bb bfff ffff
word_of (Addlw k) = 0x3E00 + k  -- 11 111x kkkk kkkk
word_of (Andlw k) = 0x3900 + k  -- 11 1001 kkkk kkkk
word_of (Call k) = 0x2000 + k  -- 10 0kkk kkkk kkkk
word_of Clrwdt = 0x0064  -- 00 0000 0110 0100
word_of (Goto k) = 0x2800 + k  -- 10 1kkk kkkk kkkk
word_of (Iorlw k) = 0x3800 + k  -- 11 1000 kkkk kkkk
word_of (Movlw k) = 0x3000 + k  -- 11 00xx kkkk kkkk
word_of Retfie = 0x0009  -- 00 0000 0000 1001
word_of (Retlw k) = 0x3400 + k  -- 11 01xx kkkk kkkk
word_of Return = 0x0008  -- 00 0000 0000 1000
word_of Sleep = 0x0063  -- 00 0000 0110 0011
word_of (Sublw k) = 0x3C00 + k  -- 11 110x kkkk kkkk
word_of (Xorlw k) = 0x3A00 + k  -- 11 1010 kkkk kkkk

-- The bits of the word that are ignored, as ones.
abbrev pub free_bits : Instr → ℕ
free_bits Clrw = 0x007F
free_bits Nop = 0x0060
free_bits (Addlw k) = 0x0100
free_bits (Movlw k) = 0x0300
free_bits (Retlw k) = 0x0300
free_bits (Sublw k) = 0x0100
free_bits _ = 0x0000

-- The word is one of the instruction's: it differs from `word_of` at most in bits that are ignored.
abbrev pub IsWordOf : Instr → ℕ → Type 0
IsWordOf i word = (word < 0x4000) × (bit_and word (0x3FFF - free_bits i) ≡ word_of i)

-- The destination that a bit d stands for.
abbrev pub dest_of : ℕ → Dest
dest_of bit = if bit == 1 then F else W

-- The row of the table whose fixed bits a word of 14 bits has, with the word's fields, where `high` is the upper six
-- bits and `low` the lower eight; None where no row has them.
abbrev pub row_of : ℕ → ℕ → Option Instr
row_of high low =
    let f = low % 128 in
    let d = dest_of (low / 128) in
    let b = high % 4 * 2 + low / 128 in
    let k = high % 8 * 256 + low in
    if high == 0x07 then Some (Addwf f d)  -- 00 0111 dfff ffff
    else if high == 0x05 then Some (Andwf f d)  -- 00 0101 dfff ffff
    else if high == 0x01 && low / 128 == 1 then Some (Clrf f)  -- 00 0001 1fff ffff
    else if high == 0x01 && low / 128 == 0 then Some Clrw  -- 00 0001 0xxx xxxx
    else if high == 0x09 then Some (Comf f d)  -- 00 1001 dfff ffff
    else if high == 0x03 then Some (Decf f d)  -- 00 0011 dfff ffff
    else if high == 0x0B then Some (Decfsz f d)  -- 00 1011 dfff ffff
    else if high == 0x0A then Some (Incf f d)  -- 00 1010 dfff ffff
    else if high == 0x0F then Some (Incfsz f d)  -- 00 1111 dfff ffff
    else if high == 0x04 then Some (Iorwf f d)  -- 00 0100 dfff ffff
    else if high == 0x08 then Some (Movf f d)  -- 00 1000 dfff ffff
    else if high == 0x00 && low / 128 == 1 then Some (Movwf f)  -- 00 0000 1fff ffff
    else if high == 0x00 && low / 128 == 0 && low % 32 == 0 then Some Nop  -- 00 0000 0xx0 0000
    else if high == 0x0D then Some (Rlf f d)  -- 00 1101 dfff ffff
    else if high == 0x0C then Some (Rrf f d)  -- 00 1100 dfff ffff
    else if high == 0x02 then Some (Subwf f d)  -- 00 0010 dfff ffff
    else if high == 0x0E then Some (Swapf f d)  -- 00 1110 dfff ffff
    else if high == 0x06 then Some (Xorwf f d)  -- 00 0110 dfff ffff
    else if high / 4 == 0x4 then Some (Bcf f b)  -- 01 00bb bfff ffff
    else if high / 4 == 0x5 then Some (Bsf f b)  -- 01 01bb bfff ffff
    else if high / 4 == 0x6 then Some (Btfsc f b)  -- 01 10bb bfff ffff
    else if high / 4 == 0x7 then Some (Btfss f b)  -- 01 11bb bfff ffff
    else if high / 2 == 0x1F then Some (Addlw low)  -- 11 111x kkkk kkkk
    else if high == 0x39 then Some (Andlw low)  -- 11 1001 kkkk kkkk
    else if high / 8 == 0x4 then Some (Call k)  -- 10 0kkk kkkk kkkk
    else if high == 0x00 && low == 0x64 then Some Clrwdt  -- 00 0000 0110 0100
    else if high / 8 == 0x5 then Some (Goto k)  -- 10 1kkk kkkk kkkk
    else if high == 0x38 then Some (Iorlw low)  -- 11 1000 kkkk kkkk
    else if high / 4 == 0xC then Some (Movlw low)  -- 11 00xx kkkk kkkk
    else if high == 0x00 && low == 0x09 then Some Retfie  -- 00 0000 0000 1001
    else if high / 4 == 0xD then Some (Retlw low)  -- 11 01xx kkkk kkkk
    else if high == 0x00 && low == 0x08 then Some Return  -- 00 0000 0000 1000
    else if high == 0x00 && low == 0x63 then Some Sleep  -- 00 0000 0110 0011
    else if high / 2 == 0x1E then Some (Sublw low)  -- 11 110x kkkk kkkk
    else if high == 0x3A then Some (Xorlw low)  -- 11 1010 kkkk kkkk
    else None

-- The instruction that a word of 14 bits is, and None where it is none.
abbrev pub instruction_of : ℕ → Option Instr
instruction_of word = row_of (word / 256) (word % 256)
