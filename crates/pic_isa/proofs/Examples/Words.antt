-- Words and what they are, by the data sheet's table of instructions.
use Rattle.std.proofs.Common.{◌≡◌, Some, None, refl}
use Rattle.pic_isa.specs.declared.instructions.Dest.TheVariants.{W, F}
use Rattle.pic_isa.specs.declared.instructions.Instr.TheVariants.{Addwf, Clrf, Clrw, Movwf, Nop, Swapf, Bcf, Btfss, Addlw, Call, Clrwdt, Goto, Movlw, Retfie, Retlw, Return, Sleep, Sublw}
use Rattle.pic_isa.specs.Instructions.{word_of, instruction_of}

-- 62h, 08h and 09h in the rows that begin with 00 0000 0
no_row : instruction_of 0x0062 ≡ None
no_row = refl

return_has_no_free_bits : instruction_of 0x0068 ≡ None
return_has_no_free_bits = refl

no_row_above : instruction_of 0x3B00 ≡ None
no_row_above = refl

no_row_past_14_bits : instruction_of 0x4700 ≡ None
no_row_past_14_bits = refl

absent_word : instruction_of 0x3FFF ≡ Some (Addlw 0xFF)
absent_word = refl

absent_word_written : word_of (Addlw 0xFF) ≡ 0x3EFF
absent_word_written = refl

swapf_status_to_w : instruction_of 0x0E03 ≡ Some (Swapf 0x03 W)
swapf_status_to_w = refl

swapf_7d_to_w : instruction_of 0x0E7D ≡ Some (Swapf 0x7D W)
swapf_7d_to_w = refl

addwf_status : instruction_of 0x0783 ≡ Some (Addwf 0x03 F)
addwf_status = refl

movwf_7d : instruction_of 0x00FD ≡ Some (Movwf 0x7D)
movwf_7d = refl

clrf_20 : instruction_of 0x01A0 ≡ Some (Clrf 0x20)
clrf_20 = refl

clrw_with_free_bits : instruction_of 0x0155 ≡ Some Clrw
clrw_with_free_bits = refl

nop : instruction_of 0x0000 ≡ Some Nop
nop = refl

nop_with_free_bits : instruction_of 0x0060 ≡ Some Nop
nop_with_free_bits = refl

bcf_status_5 : instruction_of 0x1283 ≡ Some (Bcf 0x03 5)
bcf_status_5 = refl

btfss_0d_4 : instruction_of 0x1E0D ≡ Some (Btfss 0x0D 4)
btfss_0d_4 = refl

call_7ff : instruction_of 0x27FF ≡ Some (Call 0x7FF)
call_7ff = refl

goto_404 : instruction_of 0x2C04 ≡ Some (Goto 0x404)
goto_404 = refl

movlw_with_free_bits : instruction_of 0x3321 ≡ Some (Movlw 0x21)
movlw_with_free_bits = refl

retlw_with_free_bits : instruction_of 0x3601 ≡ Some (Retlw 0x01)
retlw_with_free_bits = refl

sublw_with_free_bit : instruction_of 0x3D10 ≡ Some (Sublw 0x10)
sublw_with_free_bit = refl

retfie : instruction_of 0x0009 ≡ Some Retfie
retfie = refl

return : instruction_of 0x0008 ≡ Some Return
return = refl

sleep : instruction_of 0x0063 ≡ Some Sleep
sleep = refl

clrwdt : instruction_of 0x0064 ≡ Some Clrwdt
clrwdt = refl
