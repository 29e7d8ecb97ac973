-- The 35 instructions: what each of them leaves (data sheet, section "Instruction Set Summary").
use Rattle.std.specs.Prelude.{ℕ, not, true, false, Option, Some, None}
use Rattle.pic_isa.specs.declared.instructions.Dest.{Dest}
use Rattle.pic_isa.specs.declared.instructions.Dest.TheVariants.{W, F}
use Rattle.pic_isa.specs.declared.instructions.Instr.{Instr}
use Rattle.pic_isa.specs.declared.instructions.Instr.TheVariants.{Addwf, Andwf, Clrf, Clrw, Comf, Decf, Decfsz, Incf, Incfsz, Iorwf, Movf, Movwf, Nop, Rlf, Rrf, Subwf, Swapf, Xorwf, Bcf, Bsf, Btfsc, Btfss, Addlw, Andlw, Call, Clrwdt, Goto, Iorlw, Movlw, Retfie, Retlw, Return, Sleep, Sublw, Xorlw}
use Rattle.pic_regs.specs.Bytes.{Byte, bits, bit, with_bit, zeros, is_zero, swapped}
use Rattle.pic_regs.specs.Map.{Reg, Absent}
use Rattle.pic_regs.specs.Registers.{Registers}
use Rattle.pic_machine.specs.Chip.{Chip, advanced, skipping, pushed, popped, jumped, with_gie, named, got}
use Rattle.pic_machine.specs.Results.{Done, just, tested, plus, minus, one_more, one_less, both, either, differing, complement, turned_left, turned_right, leaves, gives}

-- The seven bits that name an instruction's register, where it has one.
abbrev pub field : Instr → Option ℕ
field (Addwf f d) = Some f
field (Andwf f d) = Some f
field (Clrf f) = Some f
field (Comf f d) = Some f
field (Decf f d) = Some f
field (Decfsz f d) = Some f
field (Incf f d) = Some f
field (Incfsz f d) = Some f
field (Iorwf f d) = Some f
field (Movf f d) = Some f
field (Movwf f) = Some f
field (Rlf f d) = Some f
field (Rrf f d) = Some f
field (Subwf f d) = Some f
field (Swapf f d) = Some f
field (Xorwf f d) = Some f
field (Bcf f b) = Some f
field (Bsf f b) = Some f
field (Btfsc f b) = Some f
field (Btfss f b) = Some f
field _ = None

-- An instruction's register, and Absent for an instruction that has none.
abbrev pub operand : Option ℕ → Registers → Reg
operand None r = Absent
operand (Some f) r = named f r

-- A count's result, and past the next instruction where it is 0. A result written to PCL leads away all the same.
abbrev pub counts : Dest → Reg → Byte → Chip → Option Done
counts d r x c = gives d r (just x) (skipping (is_zero x) c)

-- TO and PD set.
abbrev pub watchdog_cleared : Chip → Chip
watchdog_cleared c = record c { regs = record c.regs { status = record c.regs.status { b4 = true; b3 = true } } }

-- What an instruction leaves, given its register `r` and the chip `c` with the program counter at the next address.
-- SLEEP leaves nothing: it stops the machine.
abbrev pub exec_on : Instr → Reg → Chip → Option Done
exec_on (Addwf f d) r c = gives d r (plus c.w (got r c)) c  -- W + f: C, DC, Z
exec_on (Andwf f d) r c = gives d r (tested (both c.w (got r c))) c  -- W and f: Z
exec_on (Clrf f) r c = gives F r (tested zeros) c  -- f = 0: Z
exec_on Clrw r c = gives W r (tested zeros) c  -- W = 0: Z
exec_on (Comf f d) r c = gives d r (tested (complement (got r c))) c  -- complement of f: Z
exec_on (Decf f d) r c = gives d r (tested (one_less (got r c))) c  -- f - 1: Z
exec_on (Decfsz f d) r c = counts d r (one_less (got r c)) c  -- f - 1, skip if 0
exec_on (Incf f d) r c = gives d r (tested (one_more (got r c))) c  -- f + 1: Z
exec_on (Incfsz f d) r c = counts d r (one_more (got r c)) c  -- f + 1, skip if 0
exec_on (Iorwf f d) r c = gives d r (tested (either c.w (got r c))) c  -- W or f: Z
exec_on (Movf f d) r c = gives d r (tested (got r c)) c  -- f: Z
exec_on (Movwf f) r c = gives F r (just c.w) c  -- f = W
exec_on Nop r c = leaves c  -- nothing
exec_on (Rlf f d) r c = gives d r (turned_left c.regs.status.b0 (got r c)) c  -- f left through C: C
exec_on (Rrf f d) r c = gives d r (turned_right c.regs.status.b0 (got r c)) c  -- f right through C: C
exec_on (Subwf f d) r c = gives d r (minus (got r c) c.w) c  -- f - W: C, DC, Z
exec_on (Swapf f d) r c = gives d r (just (swapped (got r c))) c  -- halves of f exchanged
exec_on (Xorwf f d) r c = gives d r (tested (differing c.w (got r c))) c  -- W xor f: Z
exec_on (Bcf f b) r c = gives F r (just (with_bit b false (got r c))) c  -- bit b of f = 0
exec_on (Bsf f b) r c = gives F r (just (with_bit b true (got r c))) c  -- bit b of f = 1
exec_on (Btfsc f b) r c = leaves (skipping (not (bit b (got r c))) c)  -- skip if bit b is 0
exec_on (Btfss f b) r c = leaves (skipping (bit b (got r c)) c)  -- skip if bit b is 1
exec_on (Addlw k) r c = gives W r (plus c.w (bits k)) c  -- W = W + k: C, DC, Z
exec_on (Andlw k) r c = gives W r (tested (both c.w (bits k))) c  -- W = W and k: Z
exec_on (Call k) r c = leaves (jumped k (pushed c.pc c))  -- push the next address, PC = PCLATH 4:3 and k
exec_on Clrwdt r c = leaves (watchdog_cleared c)  -- TO = PD = 1
exec_on (Goto k) r c = leaves (jumped k c)  -- PC = PCLATH 4:3 and k
exec_on (Iorlw k) r c = gives W r (tested (either c.w (bits k))) c  -- W = W or k: Z
exec_on (Movlw k) r c = gives W r (just (bits k)) c  -- W = k
exec_on Retfie r c = leaves (with_gie true (popped c))  -- pop to PC, GIE = 1
exec_on (Retlw k) r c = leaves (popped (record c { w = bits k }))  -- W = k, pop to PC
exec_on Return r c = leaves (popped c)  -- pop to PC
exec_on Sleep r c = None  -- stops the machine
exec_on (Sublw k) r c = gives W r (minus (bits k) c.w) c  -- W = k - W: C, DC, Z
exec_on (Xorlw k) r c = gives W r (tested (differing c.w (bits k))) c  -- W = W xor k: Z

-- What an instruction leaves, run at the program counter.
abbrev pub exec : Instr → Chip → Option Done
exec i c = exec_on i (operand (field i) c.regs) (advanced c)
