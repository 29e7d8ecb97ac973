-- Skips, jumps, the return stack and PCL, by the data sheet's rules.
use Rattle.std.specs.Prelude.{ℕ}
use Rattle.std.proofs.Common.{◌≡◌, refl, [], ◌∷◌, Some}
use Rattle.pic_machine.specs.Chip.{Chip}
use Rattle.pic_machine.proofs.SettingFacts.{fresh, with_w, with_pc, with_depth, with_byte, step_of, run_word, run_words, at, pc_and_w, pc_and_depth, w_and_status}

-- A word run at 0100h with the byte at 020h given.
abbrev on : ℕ → ℕ → Chip
on f word = run_word word (with_pc 0x0100 (with_byte 0x020 f fresh))

-- 0F20h is INCFSZ 20h,W and 0B20h DECFSZ 20h,W.
incfsz_skips_at_0 : pc_and_w (on 0xFF 0x0F20) ≡ (0x0102, 0x00)
incfsz_skips_at_0 = refl

incfsz_goes_on : pc_and_w (on 0x00 0x0F20) ≡ (0x0101, 0x01)
incfsz_goes_on = refl

decfsz_skips_at_0 : pc_and_w (on 0x01 0x0B20) ≡ (0x0102, 0x00)
decfsz_skips_at_0 = refl

decfsz_goes_on : pc_and_w (on 0x00 0x0B20) ≡ (0x0101, 0xFF)
decfsz_goes_on = refl

decfsz_to_register : at 0x020 (on 0x01 0x0BA0) ≡ 0x00
decfsz_to_register = refl

decfsz_gives_no_flag : w_and_status (on 0x01 0x0B20) ≡ (0x00, 0x18)
decfsz_gives_no_flag = refl

-- Bit 3 of 020h: 19A0h is BTFSC 20h,3 and 1DA0h BTFSS 20h,3.
btfsc_skips_at_0 : (on 0xF7 0x19A0).pc ≡ 0x0102
btfsc_skips_at_0 = refl

btfsc_goes_on_at_1 : (on 0x08 0x19A0).pc ≡ 0x0101
btfsc_goes_on_at_1 = refl

btfss_skips_at_1 : (on 0x08 0x1DA0).pc ≡ 0x0102
btfss_skips_at_1 = refl

btfss_goes_on_at_0 : (on 0xF7 0x1DA0).pc ≡ 0x0101
btfss_goes_on_at_0 = refl

-- The program counter has 13 bits.
after_the_last_address : (run_word 0x0000 (with_pc 0x1FFF fresh)).pc ≡ 0x0000
after_the_last_address = refl

skip_over_the_last_address : (run_word 0x1C20 (with_pc 0x1FFE fresh)).pc ≡ 0x1FFF
skip_over_the_last_address = refl

skip_around : (run_word 0x1820 (with_pc 0x1FFE fresh)).pc ≡ 0x0000
skip_around = refl

-- Jumps take bits 4 and 3 of PCLATH: 2C04h is GOTO 404h and 2404h CALL 404h.
goto_on_page_0 : (run_word 0x2C04 (with_byte 0x00A 0x07 fresh)).pc ≡ 0x0404
goto_on_page_0 = refl

goto_on_page_3 : (run_word 0x2C04 (with_byte 0x00A 0x18 fresh)).pc ≡ 0x1C04
goto_on_page_3 = refl

call_on_page_2 : pc_and_depth (run_word 0x2404 (with_byte 0x00A 0x10 fresh)) ≡ (0x1404, 1)
call_on_page_2 = refl

return_from_another_page : (run_words (0x2404 ∷ 0x0008 ∷ []) (with_pc 0x0ABC (with_byte 0x00A 0x10 fresh))).pc ≡ 0x0ABD
return_from_another_page = refl

-- Nine calls, from 000h, 010h, 020h and so on to 080h. They push 001h, 011h and so on to 081h, which takes the place of 001h.
abbrev nine_calls : Chip
nine_calls = run_words (0x2010 ∷ 0x2020 ∷ 0x2030 ∷ 0x2040 ∷ 0x2050 ∷ 0x2060 ∷ 0x2070 ∷ 0x2080 ∷ 0x2090 ∷ []) fresh

at_nine_calls : pc_and_depth nine_calls ≡ (0x0090, 9)
at_nine_calls = refl

-- RETURN, RETLW 5Ah and RETFIE.
three_returns : pc_and_depth (run_words (0x0008 ∷ 0x345A ∷ 0x0009 ∷ []) nine_calls) ≡ (0x0061, 6)
three_returns = refl

retlw_loads_w : (w_and_status (run_words (0x0008 ∷ 0x345A ∷ []) nine_calls)).0 ≡ 0x5A
retlw_loads_w = refl

retfie_sets_gie : at 0x00B (run_word 0x0009 nine_calls) ≡ 0x80
retfie_sets_gie = refl

eight_returns : pc_and_depth (run_words (0x0008 ∷ 0x0008 ∷ 0x0008 ∷ 0x0008 ∷ 0x0008 ∷ 0x0008 ∷ 0x0008 ∷ 0x0008 ∷ []) nine_calls) ≡ (0x0011, 1)
eight_returns = refl

the_ninth_finds_the_ninth_push : pc_and_depth (run_words (0x0008 ∷ 0x0008 ∷ 0x0008 ∷ 0x0008 ∷ 0x0008 ∷ 0x0008 ∷ 0x0008 ∷ 0x0008 ∷ 0x0008 ∷ []) nine_calls) ≡ (0x0081, 0)
the_ninth_finds_the_ninth_push = refl

depth_stays_at_0 : pc_and_depth (run_word 0x0008 fresh) ≡ (0x0000, 0)
depth_stays_at_0 = refl

depth_stays_at_255 : pc_and_depth (run_word 0x2010 (with_depth 255 fresh)) ≡ (0x0010, 255)
depth_stays_at_255 = refl

-- PCL: 0782h is ADDWF PCL,F, at 0120h with W 04h and PCLATH 03h.
abbrev table_jump : Chip
table_jump = with_pc 0x0120 (with_w 0x04 (with_byte 0x00A 0x03 fresh))

addwf_pcl : (run_word 0x0782 table_jump).pc ≡ 0x0325
addwf_pcl = refl

addwf_pcl_wrote : (step_of 0x0782 table_jump).wrote ≡ Some 0x002
addwf_pcl_wrote = refl

addwf_pcl_flags : at 0x003 (run_word 0x0782 (with_w 0xDF table_jump)) ≡ 0x1F
addwf_pcl_flags = refl

movwf_pcl_takes_five_bits : (run_word 0x0082 (with_w 0xFF (with_byte 0x00A 0xFF fresh))).pc ≡ 0x1FFF
movwf_pcl_takes_five_bits = refl

movf_pcl_reads_the_next_address : pc_and_w (run_word 0x0802 (with_pc 0x01FF fresh)) ≡ (0x0200, 0x00)
movf_pcl_reads_the_next_address = refl

pcl_through_its_mirror : (run_word 0x0082 (with_w 0x44 (with_byte 0x003 0x60 (with_byte 0x00A 0x02 fresh)))).pc ≡ 0x0244
pcl_through_its_mirror = refl

-- INCFSZ PCL at 00FEh: PCL reads FFh, and the result is 0.
incfsz_to_pcl_skips_nothing : (run_word 0x0F82 (with_pc 0x00FE (with_byte 0x00A 0x03 fresh))).pc ≡ 0x0300
incfsz_to_pcl_skips_nothing = refl

incfsz_of_pcl_to_w_skips : pc_and_w (run_word 0x0F02 (with_pc 0x00FE (with_byte 0x00A 0x03 fresh))) ≡ (0x0100, 0x00)
incfsz_of_pcl_to_w_skips = refl

decfsz_to_pcl_skips_nothing : (run_word 0x0B82 (with_pc 0x0200 (with_byte 0x00A 0x03 fresh))).pc ≡ 0x0300
decfsz_to_pcl_skips_nothing = refl

bsf_pcl : (run_word 0x1782 (with_pc 0x0010 (with_byte 0x00A 0x03 fresh))).pc ≡ 0x0391
bsf_pcl = refl
